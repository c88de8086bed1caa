-- The functions of a symbol table, read from its end.
use Rattle.std.proofs.Common.{◌≡◌, ◌+◌, ℕ, suc, List, [], map, true, sym, ap, subst, ◌∙◌, add-one}
use Rattle.std.specs.Prelude.{Bool, ◌&&◌, if◌then◌else◌, Option, Some, None}
use Rattle.std.specs.List.{range_with_len, filter_map, cons_option}
use Rattle.std.specs.Ordering.{nat_cmp}
use Rattle.std.specs.BTreeMap.{insert_entry}
use Rattle.elf_load.specs.declared.fields.ProgramHeader.{ProgramHeader}
use Rattle.elf_load.specs.declared.fields.SectionHeader.{SectionHeader}
use Rattle.elf_load.specs.declared.fields.Symbol.{Symbol}
use Rattle.elf_load.specs.Tests.{is_code}
use Rattle.elf_load.specs.Symbols.{is_function, by_address, function_entry, nth_symbol}

-- the entries of the n symbols from index k on
abbrev pub entries_from : List ℕ → SectionHeader → List ProgramHeader → ℕ → ℕ → List (ℕ × ℕ)
entries_from file table headers k n = by_address (filter_map (function_entry headers) (map (nth_symbol file table) (range_with_len k n)))

-- a function in code has an entry
pub entry_is : (headers : List ProgramHeader) (s t : Symbol) → s ≡ t → is_function s ≡ true → is_code s.value (s.value + 1) headers ≡ true → function_entry headers t ≡ Some (s.value, s.name)
entry_is headers s t same fn code =
    subst (λ (x : Symbol). function_entry headers x ≡ Some (s.value, s.name)) same
    (ap (λ (b : Bool). if b && is_code s.value (s.value + 1) headers then Some (s.value, s.name) else None) fn
    ∙ ap (λ (b : Bool). if b then Some (s.value, s.name) else None) code)

-- no symbols have no entries
pub none_left : (file : List ℕ) (table : SectionHeader) (headers : List ProgramHeader) (k n : ℕ) → n ≡ 0 → entries_from file table headers k n ≡ []
unfolding by_address
none_left file table headers k n is = ap (entries_from file table headers k) is

module _ (file : List ℕ) (table : SectionHeader) (headers : List ProgramHeader) where
  one_more : (k n : ℕ) (o : Option (ℕ × ℕ)) → function_entry headers (nth_symbol file table k) ≡ o → entries_from file table headers k (suc n) ≡ by_address (cons_option o (filter_map (function_entry headers) (map (nth_symbol file table) (range_with_len (k + 1) n))))
  one_more k n o is = ap (λ (o : Option (ℕ × ℕ)). by_address (cons_option o (filter_map (function_entry headers) (map (nth_symbol file table) (range_with_len (k + 1) n))))) is

  -- the symbol before these is a function in code
  pub entry_kept : (k n n' : ℕ) (address name : ℕ) (old new : List (ℕ × ℕ)) → n' ≡ n + 1 → function_entry headers (nth_symbol file table k) ≡ Some (address, name) → old ≡ entries_from file table headers (k + 1) n → new ≡ insert_entry nat_cmp old address name → new ≡ entries_from file table headers k n'
  unfolding by_address
  entry_kept k n n' address name old new more is before inserted =
      inserted ∙ (ap (λ es. insert_entry nat_cmp es address name) before
      ∙ (sym (one_more k n (Some (address, name)) is)
      ∙ ap (entries_from file table headers k) (sym (more ∙ add-one n))))

  -- it is none
  pub entry_passed : (k n n' : ℕ) (old : List (ℕ × ℕ)) → n' ≡ n + 1 → function_entry headers (nth_symbol file table k) ≡ None → old ≡ entries_from file table headers (k + 1) n → old ≡ entries_from file table headers k n'
  entry_passed k n n' old more is before =
      before
      ∙ (sym (one_more k n None is)
      ∙ ap (entries_from file table headers k) (sym (more ∙ add-one n)))
