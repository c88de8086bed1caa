-- Names that have an end.
use Rattle.std.proofs.Common.{◌≡◌, ◌≤◌, ◌<◌, ◌+◌, ◌-◌, ℕ, List, length, drop, get_or, true, false, ap, sym, subst, ◌∙◌, arith, length-drop, inl, inr}
use Rattle.std.specs.Prelude.{Bool, ◌&&◌, ◌||◌, not, ◌==◌, nat_lt, nat_le}
use Rattle.std.specs.List.{list_any}
use Rattle.std.proofs.lemmas.Bool.{cases_Bool, or_parts}
use Rattle.std.proofs.lemmas.Bool.Decides.{nat_tests}
use Rattle.std.proofs.lemmas.List.{get_or-drop}
use Rattle.std.proofs.lemmas.List.Elements.{All-from_get_or}
use Rattle.std.proofs.lemmas.List.Folds.{list_any_at, list_any_none}
use Rattle.elf_load.specs.declared.fields.SectionHeader.{SectionHeader}
use Rattle.elf_load.specs.declared.fields.Symbol.{Symbol}
use Rattle.elf_load.specs.Header.{file_header, section}
use Rattle.elf_load.specs.Symbols.{section_ends_past_file, is_function, is_unnamed, has_name, is_malformed_table, are_malformed_names, section_bytes, names, symbols, is_bad_table}

-- what is known of the place behind the last zero byte, of the first n bytes
pub record EndsAt (names : List ℕ) (n end : ℕ) : Type 0 where
  pub within : end ≤ n
  pub past : (j : ℕ) → end ≤ j → j < n → (get_or names j 0 == 0) ≡ false
  pub last : 0 < end → (get_or names (end - 1) 0 == 0) ≡ true

-- a name that begins at a place has an end exactly where the place is before the last zero byte
pub ends_before : (names : List ℕ) (end at : ℕ) → EndsAt names (length names) end → list_any (λ byte. byte == 0) (drop at names) ≡ nat_lt at end
ends_before names end at is =
    let len = length-drop at names in
    let here : (j : ℕ) → get_or (drop at names) j 0 ≡ get_or names (at + j) 0 = λ j. get_or-drop at names j 0 in
    let within = is.within in
    elim (cases_Bool (nat_lt at end)) [
      | inl before ↦ (let lt : at < end = grind (arith, nat_tests) in
          let j : ℕ = end - 1 - at in
          let place : at + j ≡ end - 1 = omega arith in
          list_any_at (λ byte. byte == 0) (drop at names) j 0 (omega arith)
          (ap (λ b. b == 0) (here j) ∙ (ap (λ i. get_or names i 0 == 0) place ∙ is.last (omega arith)))
          ∙ sym before)
      | inr after ↦ (let le : end ≤ at = grind (arith, nat_tests) in
          list_any_none (λ byte. byte == 0) (drop at names)
          (All-from_get_or (λ byte. (byte == 0) ≡ false) (drop at names) 0 (λ j lt. ap (λ b. b == 0) (here j) ∙ is.past (at + j) (omega arith) (omega arith)))
          ∙ sym after)
    ]

-- a function whose name begins behind the last zero byte, and a symbol that is none
pub unnamed : (bytes : List ℕ) (end : ℕ) (s t : Symbol) → ((at : ℕ) → list_any (λ byte. byte == 0) (drop at bytes) ≡ nat_lt at end) → s ≡ t → is_function s ≡ true → end ≤ s.name → is_unnamed bytes t ≡ true
unnamed bytes end s t ends same fn behind =
    let none : nat_lt s.name end ≡ false = grind (arith, nat_tests) in
    subst (λ (x : Symbol). is_unnamed bytes x ≡ true) same (ap (λ (b : Bool). b && not (has_name bytes s)) fn ∙ ap not (ends s.name ∙ none))

-- the table, its names and the names of functions in turn
module _ (file : List ℕ) (table strings : SectionHeader) (linked : strings ≡ section file table.link) where
  rest : Bool → Bool → Bool
  rest a b = a || b || list_any (is_unnamed (names file table)) (symbols file table)

  same_names : are_malformed_names file strings ≡ are_malformed_names file (section file table.link)
  same_names = ap (are_malformed_names file) linked

  pub bad_names : is_malformed_table file table ≡ false → are_malformed_names file strings ≡ true → true ≡ is_bad_table file table
  unfolding is_bad_table rest
  bad_names shape are = sym (ap (λ a. rest a (are_malformed_names file (section file table.link))) shape ∙ ap (rest false) (sym same_names ∙ are))

  pub bad_functions : is_malformed_table file table ≡ false → are_malformed_names file strings ≡ false → (bytes : List ℕ) (r : Bool) → bytes ≡ section_bytes file strings → r ≡ list_any (is_unnamed bytes) (symbols file table) → r ≡ is_bad_table file table
  unfolding is_bad_table rest names
  bad_functions shape are bytes r from is =
      is ∙ (ap (λ b. list_any (is_unnamed b) (symbols file table)) (from ∙ ap (section_bytes file) linked)
      ∙ sym (ap (λ a. rest a (are_malformed_names file (section file table.link))) shape ∙ ap (rest false) (sym same_names ∙ are)))

pub bad_shape : (file : List ℕ) (table : SectionHeader) → is_malformed_table file table ≡ true → true ≡ is_bad_table file table
unfolding is_bad_table
bad_shape file table is = sym (ap (λ (a : Bool). a || are_malformed_names file (section file table.link) || list_any (is_unnamed (names file table)) (symbols file table)) is)

-- what is known of a table that is not bad
shape_of_good : (file : List ℕ) (table : SectionHeader) → is_bad_table file table ≡ false → is_malformed_table file table ≡ false
unfolding is_bad_table
shape_of_good file table good = (or_parts _ _ (or_parts _ _ good).0).0

pub table_in_file : (file : List ℕ) (table : SectionHeader) → is_bad_table file table ≡ false → section_ends_past_file (length file) table ≡ false
table_in_file file table good = (or_parts _ _ (or_parts _ _ (shape_of_good file table good)).0).1

pub linked_below : (file : List ℕ) (table : SectionHeader) → is_bad_table file table ≡ false → table.link < (file_header file).section_header_count
linked_below file table good =
    let below : nat_le (file_header file).section_header_count table.link ≡ false = (or_parts _ (nat_le (file_header file).section_header_count table.link) (shape_of_good file table good)).1 in
    grind (arith, nat_tests)

pub names_in_file : (file : List ℕ) (table : SectionHeader) → is_bad_table file table ≡ false → section_ends_past_file (length file) (section file table.link) ≡ false
unfolding is_bad_table
names_in_file file table good = (or_parts _ _ (or_parts _ _ (or_parts _ _ good).0).1).1
