-- Pages are put into a table one after another, and named.
use Rattle.std.proofs.Common.{◌≡◌, ℕ, ◌+◌, ◌/◌, ◌%◌, ◌^◌, ◌<◌, ◌≤◌, ◌==◌, ◌++◌, ◌∷◌, [], ◌&&◌, ◌||◌, Bool, true, false, cond, List, length, get_or, map, refl, sym, ap, ◌∙◌, arith, inl, inr}
use Rattle.std.specs.Prelude.{nat_lt}
use Rattle.std.specs.List.{range_with_len, list_any}
use Rattle.std.proofs.lemmas.Bool.{cases_eq, cases_lt, cases_order, cond-true, cond-false, eq-eqb, ne_eqb}
use Rattle.std.proofs.lemmas.Bool.Decides.{nat_tests}
use Rattle.std.proofs.lemmas.List.{ext_get_or}
use Rattle.std.proofs.lemmas.List.Folds.{list_any-append}
use Rattle.std.proofs.lemmas.List.FromFn.{get_or-map-range_with_len, length-map-range_with_len}
use Rattle.page_table.specs.Table.{Table, page_at}
use Rattle.slot_table.specs.declared.slot.Slot.{Slot}
use Rattle.slot_table.specs.Slots.{is_changed, marks_by, slot_at}
use Rattle.cow_pages.specs.Laid.{byte_in, table_byte}
use Rattle.cow_pages.specs.Named.{is_named, marks_of}
use Rattle.cow_pages.proofs.Laid.{same-table, unchanged-byte}
use Rattle.cow_pages.proofs.SlotMarks.{get_or-marks_by, length-marks_by}

lt_true : (m n : ℕ) → m < n → nat_lt m n ≡ true
lt_true m n h = grind (arith, nat_tests)

lt_false : (m n : ℕ) → n ≤ m → nat_lt m n ≡ false
lt_false m n h = grind (arith, nat_tests)

-- one page of a table is another one
pub table_byte-set : (old new : Table) (page : ℕ) (bytes : List ℕ) → ((q : ℕ) → page_at new q ≡ cond (q == page) bytes (page_at old q))
    → (a : ℕ) → table_byte new a ≡ cond (a / 4096 == page) (get_or bytes (a % 4096) 0) (table_byte old a)
unfolding table_byte
table_byte-set old new page bytes is a =
    elim (cases_eq (a / 4096) page) [
      | inl e ↦
          ap (λ l. get_or l (a % 4096) 0) (is (a / 4096) ∙ cond-true (a / 4096 == page) bytes (page_at old (a / 4096)) (eq-eqb (a / 4096) page e))
          ∙ sym (cond-true (a / 4096 == page) (get_or bytes (a % 4096) 0) (get_or (page_at old (a / 4096)) (a % 4096) 0) (eq-eqb (a / 4096) page e))
      | inr ne ↦
          ap (λ l. get_or l (a % 4096) 0) (is (a / 4096) ∙ cond-false (a / 4096 == page) bytes (page_at old (a / 4096)) (ne_eqb (a / 4096) page ne))
          ∙ sym (cond-false (a / 4096 == page) (get_or bytes (a % 4096) 0) (get_or (page_at old (a / 4096)) (a % 4096) 0) (ne_eqb (a / 4096) page ne))
    ]

-- at one page something is the same as something else
pub where_it_is : (p q x y z : ℕ) → (p ≡ q → x ≡ y) → cond (p == q) x z ≡ cond (p == q) y z
where_it_is p q x y z h = elim (cases_eq p q) [
  | inl e ↦ ap (λ k. cond (p == q) k z) (h e)
  | inr ne ↦ cond-false (p == q) x z (ne_eqb p q ne) ∙ sym (cond-false (p == q) y z (ne_eqb p q ne))
]

pub where_it_stays : (p q x z : ℕ) → (p ≡ q → z ≡ x) → z ≡ cond (p == q) x z
where_it_stays p q x z h = elim (cases_eq p q) [
  | inl e ↦ h e ∙ sym (cond-true (p == q) x z (eq-eqb p q e))
  | inr ne ↦ sym (cond-false (p == q) x z (ne_eqb p q ne))
]

-- the pages below `page` stand in the table as they are
pub record FrozenBelow (slots : List Slot) (frames : List ℕ) (table frozen : Table) (page : ℕ) : Type 0 where
  pub byte : (a : ℕ) → table_byte frozen a ≡ cond (nat_lt (a / 4096) page) (byte_in slots frames table a) (table_byte table a)

-- no page from `page` on and below `next` was changed
abbrev pub NoneTo : (slots : List Slot) (page next : ℕ) → Type 0
NoneTo slots page next = (q : ℕ) → page ≤ q → q < next → is_changed (slot_at slots q) ≡ false

pub frozen-none : (slots : List Slot) (frames : List ℕ) (table frozen : Table) (next : ℕ) → frozen ≡ table → NoneTo slots 0 next → FrozenBelow slots frames table frozen next
frozen-none slots frames table frozen next e none = record {
  byte = λ a. ap (λ t. table_byte t a) e ∙ elim (cases_lt (a / 4096) next) [
    | inl less ↦ sym (unchanged-byte (slot_at slots (a / 4096)) frames table a (none (a / 4096) (omega arith) less)) ∙ sym (cond-true _ _ _ (lt_true (a / 4096) next less))
    | inr ge ↦ sym (cond-false _ _ _ (lt_false (a / 4096) next ge))
  ];
}

pub frozen-next : (slots : List Slot) (frames : List ℕ) (table frozen new : Table) (page next : ℕ) → FrozenBelow slots frames table frozen page → page + 1 ≤ next → NoneTo slots (page + 1) next
    → ((a : ℕ) → table_byte new a ≡ cond (a / 4096 == page) (byte_in slots frames frozen a) (table_byte frozen a))
    → FrozenBelow slots frames table new next
frozen-next slots frames table frozen new page next below le none is = record {
  byte = λ a. elim (cases_order (a / 4096) page) [
    | inl e ↦
        let same : table_byte frozen a ≡ table_byte table a = below.byte a ∙ cond-false _ _ _ (lt_false (a / 4096) page (omega arith)) in
        is a ∙ cond-true _ _ _ (eq-eqb (a / 4096) page e)
        ∙ same-table (slot_at slots (a / 4096)) frames frozen table a same
        ∙ sym (cond-true _ _ _ (lt_true (a / 4096) next (omega arith)))
    | inr h ↦
        is a
        ∙ cond-false _ _ _ (ne_eqb (a / 4096) page (λ e. elim h [ inl l ↦ absurd (omega arith) | inr g ↦ absurd (omega arith) ]))
        ∙ below.byte a
        ∙ elim h [
          | inl less ↦ cond-true _ _ _ (lt_true (a / 4096) page less) ∙ sym (cond-true _ _ _ (lt_true (a / 4096) next (omega arith)))
          | inr more ↦
              cond-false _ _ _ (lt_false (a / 4096) page (omega arith))
              ∙ elim (cases_lt (a / 4096) next) [
                | inl less ↦ sym (unchanged-byte (slot_at slots (a / 4096)) frames table a (none (a / 4096) (omega arith) less)) ∙ sym (cond-true _ _ _ (lt_true (a / 4096) next less))
                | inr ge ↦ sym (cond-false _ _ _ (lt_false (a / 4096) next ge))
              ]
        ]
  ];
}

pub frozen-all : (slots : List Slot) (frames : List ℕ) (table frozen : Table) (page : ℕ) → FrozenBelow slots frames table frozen page → 2 ^ 20 ≤ page → (a : ℕ) → a < 2 ^ 32 → table_byte frozen a ≡ byte_in slots frames table a
frozen-all slots frames table frozen page below ge a lt = below.byte a ∙ cond-true _ _ _ (lt_true (a / 4096) page (omega arith))

-- the list names the changed pages below `page`
pub record NamedBelow (slots : List Slot) (pages : List ℕ) (page : ℕ) : Type 0 where
  pub named : (q : ℕ) → is_named pages q ≡ (nat_lt q page && is_changed (slot_at slots q))

and_true : (b c : Bool) → b ≡ true → (b && c) ≡ c
and_true true c h = refl
and_true false c h = cc

and_false : (b c : Bool) → b ≡ false → (b && c) ≡ false
and_false true c h = cc
and_false false c h = refl

or_false : (b : Bool) → (b || false) ≡ b
or_false true = refl
or_false false = refl

or_true : (b : Bool) → (b || true) ≡ true
or_true true = refl
or_true false = refl

pub named-none : (slots : List Slot) (pages : List ℕ) (next : ℕ) → pages ≡ [] → NoneTo slots 0 next → NamedBelow slots pages next
unfolding is_named
named-none slots pages next e none = record {
  named = λ q. ap (λ l. list_any (λ p. p == q) l) e ∙ elim (cases_lt q next) [
    | inl lt ↦ sym (and_true (nat_lt q next) (is_changed (slot_at slots q)) (lt_true q next lt) ∙ none q (omega arith) lt)
    | inr ge ↦ sym (and_false (nat_lt q next) (is_changed (slot_at slots q)) (lt_false q next ge))
  ];
}

named-push : (pages : List ℕ) (page q : ℕ) → is_named (pages ++ page ∷ []) q ≡ (is_named pages q || page == q)
unfolding is_named
named-push pages page q = list_any-append (λ p. p == q) pages (page ∷ []) ∙ ap (λ b. list_any (λ p. p == q) pages || b) (or_false (page == q))

pub named-next : (slots : List Slot) (pages new : List ℕ) (page next : ℕ) → new ≡ pages ++ page ∷ [] → NamedBelow slots pages page → is_changed (slot_at slots page) ≡ true → page + 1 ≤ next → NoneTo slots (page + 1) next → NamedBelow slots new next
named-next slots pages new page next is below some le none = record {
  named = λ q. ap (λ l. is_named l q) is ∙ named-push pages page q ∙ elim (cases_order q page) [
    | inl e ↦
        ap (λ b. is_named pages q || b) (eq-eqb page q (sym e)) ∙ or_true (is_named pages q)
        ∙ sym (and_true (nat_lt q next) (is_changed (slot_at slots q)) (lt_true q next (omega arith)) ∙ ap (λ k. is_changed (slot_at slots k)) e ∙ some)
    | inr h ↦
        ap (λ b. is_named pages q || b) (ne_eqb page q (λ e. elim h [ inl l ↦ absurd (omega arith) | inr g ↦ absurd (omega arith) ]))
        ∙ or_false (is_named pages q) ∙ below.named q
        ∙ elim h [
          | inl less ↦ and_true (nat_lt q page) (is_changed (slot_at slots q)) (lt_true q page less) ∙ sym (and_true (nat_lt q next) (is_changed (slot_at slots q)) (lt_true q next (omega arith)))
          | inr more ↦
              and_false (nat_lt q page) (is_changed (slot_at slots q)) (lt_false q page (omega arith))
              ∙ elim (cases_lt q next) [
                | inl lt ↦ sym (and_true (nat_lt q next) (is_changed (slot_at slots q)) (lt_true q next lt) ∙ none q (omega arith) lt)
                | inr ge ↦ sym (and_false (nat_lt q next) (is_changed (slot_at slots q)) (lt_false q next ge))
              ]
        ]
  ];
}

ext_marks : (n : ℕ) (f : ℕ → Bool) (marks : List Bool) → length marks ≡ n → ((k : ℕ) → k < n → f k ≡ get_or marks k false) → map f (range_with_len 0 n) ≡ marks
ext_marks n f marks len is = ext_get_or false (map f (range_with_len 0 n)) marks (length-map-range_with_len f 0 n ∙ sym len)
    (λ k lt. let less : k < n = omega (arith, lt, length-map-range_with_len f 0 n) in get_or-map-range_with_len f 0 n k k false less (omega arith) ∙ is k less)

pub named-all : (slots : List Slot) (pages : List ℕ) (page : ℕ) → length slots ≡ 2 ^ 20 → NamedBelow slots pages page → 2 ^ 20 ≤ page → marks_of pages ≡ marks_by is_changed slots
unfolding marks_of
named-all slots pages page len below ge = ext_marks (2 ^ 20) (is_named pages) (marks_by is_changed slots) (length-marks_by is_changed slots ∙ len)
    (λ k lt. below.named k ∙ and_true (nat_lt k page) (is_changed (slot_at slots k)) (lt_true k page (omega arith)) ∙ sym (get_or-marks_by is_changed slots k refl))

pub get_or-marks_of : (pages : List ℕ) (p : ℕ) → p < 2 ^ 20 → get_or (marks_of pages) p false ≡ is_named pages p
unfolding marks_of
get_or-marks_of pages p lt = get_or-map-range_with_len (is_named pages) 0 (2 ^ 20) p p false lt (omega arith)
