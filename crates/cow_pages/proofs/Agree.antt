-- Pages that were not changed are as they were.
use Rattle.std.proofs.Common.{◌≡◌, ℕ, ◌/◌, ◌^◌, ◌<◌, ◌∷◌, [], ◌||◌, ◌==◌, Bool, true, false, suc, List, length, get_or, refl, sym, ap, ◌∙◌, arith, inl, inr}
use Rattle.std.specs.List.{list_any}
use Rattle.std.proofs.lemmas.Bool.{cases_eq, cases_lt, cases_Bool, eq-eqb, ne_eqb, true≢false}
use Rattle.std.proofs.lemmas.List.{get_or_past}
use Rattle.std.proofs.lemmas.List.Folds.{list_any_at, list_any-append}
use Rattle.page_table.specs.Table.{Table}
use Rattle.slot_table.specs.declared.slot.Slot.{Slot}
use Rattle.slot_table.specs.Slots.{is_changed, marks_by, slot_at}
use Rattle.cow_pages.specs.Contents.{flat}
use Rattle.cow_pages.specs.Laid.{byte_in, table_byte}
use Rattle.cow_pages.specs.Named.{is_named, marks_of}
use Rattle.cow_pages.proofs.Flat.{get_or-flat, flat-same, length-flat}
use Rattle.cow_pages.proofs.Laid.{unchanged-byte}
use Rattle.cow_pages.proofs.SlotMarks.{get_or-marks_by}
use Rattle.cow_pages.proofs.Tables.{get_or-marks_of}

-- bytes that are not changed since are those of the origin
abbrev pub SameSince : List Slot → Table → Table → Type 0
SameSince slots base origin = (a : ℕ) → a < 2 ^ 32 → is_changed (slot_at slots (a / 4096)) ≡ false → table_byte base a ≡ table_byte origin a

-- two lists of all bytes agree at an address if they do wherever it is one
flat-agree : (f g : ℕ → ℕ) (xs ys : List ℕ) (a : ℕ) → flat f ≡ xs → flat g ≡ ys → (a < 2 ^ 32 → f a ≡ g a) → get_or xs a 0 ≡ get_or ys a 0
flat-agree f g xs ys a e d is = elim (cases_lt a (2 ^ 32)) [
  | inl lt ↦ ap (λ l. get_or l a 0) (sym e) ∙ get_or-flat f a lt ∙ is lt ∙ sym (get_or-flat g a lt) ∙ ap (λ l. get_or l a 0) d
  | inr ge ↦ ap (λ l. get_or l a 0) (sym e) ∙ get_or_past (flat f) a 0 (omega (arith, length-flat f)) ∙ sym (get_or_past (flat g) a 0 (omega (arith, length-flat g))) ∙ ap (λ l. get_or l a 0) d
]

pub agree-outside : (slots : List Slot) (frames : List ℕ) (base origin table : Table) (marks : List Bool) (all : List ℕ) → marks ≡ marks_by is_changed slots → flat (table_byte origin) ≡ all → SameSince slots base origin
    → ((a : ℕ) → a < 2 ^ 32 → table_byte table a ≡ byte_in slots frames base a)
    → (a : ℕ) → get_or marks (a / 4096) false ≡ false → get_or (flat (table_byte table)) a 0 ≡ get_or all a 0
agree-outside slots frames base origin table marks all e view since frozen a h =
    let none : is_changed (slot_at slots (a / 4096)) ≡ false = sym (get_or-marks_by is_changed slots (a / 4096) refl) ∙ ap (λ l. get_or l (a / 4096) false) (sym e) ∙ h in
    flat-agree (table_byte table) (table_byte origin) (flat (table_byte table)) all a refl view
    (λ lt. frozen a lt ∙ unchanged-byte (slot_at slots (a / 4096)) frames base a none ∙ since a lt none)

pub same-everywhere : (slots : List Slot) (frames : List ℕ) (base origin end : Table) (changed : List ℕ) (all ends bases : List ℕ)
    → flat (byte_in slots frames base) ≡ all → flat (table_byte end) ≡ ends → flat (table_byte origin) ≡ bases → SameSince slots base origin
    → ((a : ℕ) → get_or (marks_of changed) (a / 4096) false ≡ false → get_or ends a 0 ≡ get_or bases a 0)
    → ((a : ℕ) → a < 2 ^ 32 → is_named changed (a / 4096) ≡ true → is_changed (slot_at slots (a / 4096)) ≡ false → byte_in slots frames base a ≡ table_byte end a)
    → ((a : ℕ) → a < 2 ^ 32 → is_changed (slot_at slots (a / 4096)) ≡ true → byte_in slots frames base a ≡ table_byte end a)
    → all ≡ ends
same-everywhere slots frames base origin end changed all ends bases e d f since agree named own =
    sym e ∙ flat-same (table_byte end) (byte_in slots frames base) (λ a lt.
    elim (cases_Bool (is_changed (slot_at slots (a / 4096)))) [
      | inl is ↦ own a lt is
      | inr none ↦ elim (cases_Bool (is_named changed (a / 4096))) [
        | inl is ↦ named a lt is none
        | inr not ↦
            unchanged-byte (slot_at slots (a / 4096)) frames base a none
            ∙ since a lt none
            ∙ sym (get_or-flat (table_byte origin) a lt) ∙ ap (λ l. get_or l a 0) f
            ∙ sym (agree a (get_or-marks_of changed (a / 4096) (omega arith) ∙ not))
            ∙ ap (λ l. get_or l a 0) (sym d) ∙ get_or-flat (table_byte end) a lt
      ]
    ]) ∙ d

pub same-at : (f g : ℕ → ℕ) (all ends : List ℕ) → flat f ≡ all → flat g ≡ ends → all ≡ ends → (a : ℕ) → a < 2 ^ 32 → f a ≡ g a
same-at f g all ends e d is a lt = sym (get_or-flat f a lt) ∙ ap (λ l. get_or l a 0) (e ∙ is ∙ sym d) ∙ get_or-flat g a lt

pub named-at : (pages : List ℕ) (k q : ℕ) → k < length pages → get_or pages k 0 ≡ q → is_named pages q ≡ true
unfolding is_named
named-at pages k q lt e = list_any_at (λ p. p == q) pages k 0 lt (eq-eqb (get_or pages k 0) q e)

-- a page that is named stands somewhere in the list
pub named-where : (pages : List ℕ) (q : ℕ) (P : Type 0) → ((j : ℕ) → j < length pages → get_or pages j 0 ≡ q → P) → is_named pages q ≡ true → P
unfolding is_named
named-where [] q P f h = absurd (true≢false (sym h))
named-where (x ∷ xs) q P f h = elim (cases_eq x q) [
  | inl e ↦ f 0 (omega arith) e
  | inr ne ↦ named-where xs q P (λ j lt e. f (suc j) (omega arith) e) (sym (list_any-append (λ p. p == q) (x ∷ []) xs ∙ ap (λ b. (b || false) || list_any (λ p. p == q) xs) (ne_eqb x q ne)) ∙ h)
]
