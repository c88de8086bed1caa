-- Bytes are placed in a table, page by page.
use Rattle.std.proofs.Common.{◌≡◌, ℕ, ◌+◌, ◌-◌, ◌*◌, ◌/◌, ◌%◌, ◌<◌, ◌≤◌, ◌==◌, true, false, cond, List, length, get_or, take, drop, sym, ap, ◌∙◌, arith, inl, inr}
use Rattle.std.specs.Prelude.{min}
use Rattle.std.proofs.lemmas.Bool.{cases_eq, cases_lt, cases_Bool, cond-true, cond-false, eq-eqb, ne_eqb}
use Rattle.std.proofs.lemmas.Bool.Decides.{nat_tests}
use Rattle.frame_pool.specs.Bytes.{is_among}
use Rattle.frame_pool.proofs.Rules.{part_at, length_part}
use Rattle.page_table.specs.Table.{Table}
use Rattle.cow_pages.specs.Contents.{page_count}
use Rattle.cow_pages.specs.Laid.{table_byte}

-- `done` bytes are placed, with zeros around them in their pages
abbrev pub PlacedTo : (old new : Table) (source : List ℕ) (at done : ℕ) → Type 0
PlacedTo old new source at done = (a : ℕ) → table_byte new a ≡ cond (is_among at done a) (get_or source (a - at) 0) (cond (is_among (at / 4096) (page_count at done) (a / 4096)) 0 (table_byte old a))

pub among_true : (a n q : ℕ) → a ≤ q → q < a + n → is_among a n q ≡ true
among_true a n q le lt = grind (arith, nat_tests)

pub among_low : (a n q : ℕ) → q < a → is_among a n q ≡ false
among_low a n q lt = grind (arith, nat_tests)

pub among_high : (a n q : ℕ) → a + n ≤ q → is_among a n q ≡ false
among_high a n q le = grind (arith, nat_tests)

pub among_tells : (a n q : ℕ) → is_among a n q ≡ true → (a ≤ q) × (q < a + n)
among_tells a n q h = grind (arith, nat_tests)

-- it is among them or not, and how that is known
among_by : (a n q : ℕ) → {X : Type 0} → (a ≤ q → q < a + n → X) → (q < a → X) → (a + n ≤ q → X) → X
among_by a n q here low high = elim (cases_lt q a) [
  | inl lt ↦ low lt
  | inr ge ↦ elim (cases_lt q (a + n)) [ inl lt ↦ here ge lt | inr more ↦ high more ]
]

pub placed-none : (old new : Table) (source : List ℕ) (at : ℕ) → new ≡ old → PlacedTo old new source at 0
placed-none old new source at e a =
    ap (λ t. table_byte t a) e
    ∙ sym (cond-false (is_among at 0 a) _ _ (elim (cases_lt a at) [ inl lt ↦ among_low at 0 a lt | inr ge ↦ among_high at 0 a (omega arith) ])
    ∙ cond-false (is_among (at / 4096) 0 (a / 4096)) _ _ (elim (cases_lt (a / 4096) (at / 4096)) [ inl lt ↦ among_low (at / 4096) 0 (a / 4096) lt | inr ge ↦ among_high (at / 4096) 0 (a / 4096) (omega arith) ]))

count-of : (a n : ℕ) → 0 < n → page_count a n ≡ (a % 4096 + n + 4095) / 4096
count-of a n some = cond-false (n == 0) 0 ((a % 4096 + n + 4095) / 4096) (ne_eqb n 0 (λ e. absurd (omega arith)))

-- the next part lies in the next page
pub next-page : (at done part len : ℕ) → done < len → part ≡ min (len - done) (4096 - (at + done) % 4096) → ((0 < done) → (at + done) % 4096 ≡ 0)
    → ((at + done) / 4096 ≡ at / 4096 + page_count at done) × (page_count at (done + part) ≡ page_count at done + 1)
next-page at done part len lt is whole =
    let more : 0 < done + part = omega arith in
    let new = count-of at (done + part) more in
    elim (cases_eq done 0) [
      | inl e ↦
          let zero_is : page_count at done ≡ 0 = cond-true (done == 0) 0 ((at % 4096 + done + 4095) / 4096) (eq-eqb done 0 e) in
          (omega (arith, zero_is, e), omega (arith, zero_is, e, new))
      | inr ne ↦
          let some : 0 < done = omega arith in
          let old = count-of at done some in
          let start = whole some in
          (omega (arith, old, start), omega (arith, old, new, start))
    ]

-- one more is among them, and not the one that is asked for
among-more : (a n m q : ℕ) → n ≤ m → (a + n ≤ q → a + m ≤ q) → is_among a m q ≡ is_among a n q
among-more a n m q le jump = elim (cases_lt q a) [
  | inl lt ↦ among_low a m q lt ∙ sym (among_low a n q lt)
  | inr ge ↦ elim (cases_lt q (a + n)) [
    | inl lt ↦ among_true a m q ge (omega arith) ∙ sym (among_true a n q ge lt)
    | inr more ↦ among_high a m q (jump more) ∙ sym (among_high a n q more)
  ]
]

pub record Part (prev new : Table) (source bytes : List ℕ) (at done part : ℕ) : Type 0 where
  pub some : 0 < part
  pub within : (at + done) % 4096 + part ≤ 4096
  pub start : 0 < done → (at + done) % 4096 ≡ 0
  pub page_is : (at + done) / 4096 ≡ at / 4096 + page_count at done
  pub count : page_count at (done + part) ≡ page_count at done + 1
  pub bytes_are : (i : ℕ) → get_or bytes i 0 ≡ cond (is_among ((at + done) % 4096) part i) (get_or source (done + (i - (at + done) % 4096)) 0) 0
  pub new_is : (a : ℕ) → table_byte new a ≡ cond (a / 4096 == (at + done) / 4096) (get_or bytes (a % 4096) 0) (table_byte prev a)

covered : (prev new : Table) (source bytes : List ℕ) (at done part a x : ℕ) → Part prev new source bytes at done part → a / 4096 ≡ (at + done) / 4096 → 0 ≡ cond (is_among (at / 4096) (page_count at (done + part)) (a / 4096)) 0 x
covered prev new source bytes at done part a x p e =
    let c = p.count in let i = p.page_is in
    sym (cond-true (is_among (at / 4096) (page_count at (done + part)) (a / 4096)) 0 x (among_true (at / 4096) (page_count at (done + part)) (a / 4096) (omega arith) (omega arith)))

placed-here : (old prev new : Table) (source bytes : List ℕ) (at done part a : ℕ) → Part prev new source bytes at done part → a / 4096 ≡ (at + done) / 4096
    → get_or bytes (a % 4096) 0 ≡ cond (is_among at (done + part) a) (get_or source (a - at) 0) (cond (is_among (at / 4096) (page_count at (done + part)) (a / 4096)) 0 (table_byte old a))
placed-here old prev new source bytes at done part a p e =
    let within = p.within in
    p.bytes_are (a % 4096) ∙ elim (cases_lt (a % 4096) ((at + done) % 4096)) [
      | inl low ↦
          let before : a < at = elim (cases_eq done 0) [
            | inl z ↦ omega arith
            | inr nz ↦ absurd (let s = p.start (omega arith) in omega arith)
          ] in
          cond-false _ _ _ (among_low ((at + done) % 4096) part (a % 4096) low)
          ∙ covered prev new source bytes at done part a (table_byte old a) p e
          ∙ sym (cond-false (is_among at (done + part) a) _ _ (among_low at (done + part) a before))
      | inr ge ↦ elim (cases_lt (a % 4096) ((at + done) % 4096 + part)) [
        | inl lt ↦
            let cell : done + (a % 4096 - (at + done) % 4096) ≡ a - at = omega arith in
            cond-true _ _ _ (among_true ((at + done) % 4096) part (a % 4096) ge lt)
            ∙ ap (λ k. get_or source k 0) cell
            ∙ sym (cond-true (is_among at (done + part) a) _ _ (among_true at (done + part) a (omega arith) (omega arith)))
        | inr high ↦
            cond-false _ _ _ (among_high ((at + done) % 4096) part (a % 4096) high)
            ∙ covered prev new source bytes at done part a (table_byte old a) p e
            ∙ sym (cond-false (is_among at (done + part) a) _ _ (among_high at (done + part) a (omega arith)))
      ]
    ]

pub placed-next : (old prev new : Table) (source bytes : List ℕ) (at done part : ℕ) → PlacedTo old prev source at done → Part prev new source bytes at done part → PlacedTo old new source at (done + part)
placed-next old prev new source bytes at done part so p a =
    let within = p.within in let i = p.page_is in let c = p.count in
    p.new_is a ∙ elim (cases_eq (a / 4096) ((at + done) / 4096)) [
      | inl e ↦ cond-true _ _ _ (eq-eqb (a / 4096) ((at + done) / 4096) e) ∙ placed-here old prev new source bytes at done part a p e
      | inr ne ↦
          let bytes_same : is_among at (done + part) a ≡ is_among at done a = among-more at done (done + part) a (omega arith) (λ more. omega (arith, ne)) in
          let pages_same : is_among (at / 4096) (page_count at (done + part)) (a / 4096) ≡ is_among (at / 4096) (page_count at done) (a / 4096) = among-more (at / 4096) (page_count at done) (page_count at (done + part)) (a / 4096) (omega arith) (λ more. omega (arith, ne)) in
          cond-false _ _ _ (ne_eqb (a / 4096) ((at + done) / 4096) ne) ∙ so a
          ∙ ap (λ b. cond b (get_or source (a - at) 0) (cond (is_among (at / 4096) (page_count at done) (a / 4096)) 0 (table_byte old a))) (sym bytes_same)
          ∙ ap (λ b. cond (is_among at (done + part) a) (get_or source (a - at) 0) (cond b 0 (table_byte old a))) (sym pages_same)
    ]

-- a part of the source, as it stands in its page
pub part-bytes : (source : List ℕ) (done part t i : ℕ) → done + part ≤ length source
    → cond (is_among t (length (take (done + part - done) (drop done source))) i) (get_or (take (done + part - done) (drop done source)) (i - t) 0) 0 ≡ cond (is_among t part i) (get_or source (done + (i - t)) 0) 0
part-bytes source done part t i le =
    ap (λ n. cond (is_among t n i) (get_or (take (done + part - done) (drop done source)) (i - t) 0) 0) (length_part source done part le)
    ∙ elim (cases_Bool (is_among t part i)) [
      | inl h ↦
          let there = among_tells t part i h in
          ap (λ k. cond (is_among t part i) k 0) (part_at source done part (i - t) (omega arith))
      | inr h ↦ cond-false (is_among t part i) _ _ h ∙ sym (cond-false (is_among t part i) _ _ h)
    ]

pub page-inside : (at n a : ℕ) → is_among at n a ≡ true → is_among (at / 4096) (page_count at n) (a / 4096) ≡ true
page-inside at n a h =
    let there = among_tells at n a h in
    let count = count-of at n (omega arith) in
    among_true (at / 4096) (page_count at n) (a / 4096) (omega arith) (omega arith)

-- the pages of an address, told as a page and a byte in it
pub page-of_address : (page at : ℕ) → at < 4096 → (4096 * page + at) / 4096 ≡ page
page-of_address page at lt = omega arith

pub page_count-of_address : (page at n : ℕ) → at < 4096 → page_count (4096 * page + at) n ≡ page_count at n
page_count-of_address page at n lt =
    let o : (4096 * page + at) % 4096 ≡ at % 4096 = omega arith in
    ap (λ k. cond (n == 0) 0 ((k + n + 4095) / 4096)) o
