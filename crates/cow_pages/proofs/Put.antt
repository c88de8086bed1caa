-- Pages in which bytes were placed.
use Rattle.std.proofs.Common.{◌≡◌, ℕ, ◌+◌, ◌-◌, ◌/◌, Bool, true, false, cond, List, length, get_or, refl, sym, ap, ◌∙◌, inl, inr}
use Rattle.std.proofs.lemmas.Bool.{cases_Bool, cond-true, cond-false, true≢false}
use Rattle.std.proofs.lemmas.List.{ext_get_or}
use Rattle.frame_pool.specs.Bytes.{is_among}
use Rattle.frame_pool.specs.PoolState.{PoolState}
use Rattle.page_table.specs.Table.{Table}
use Rattle.slot_table.specs.declared.slot.Slot.{Slot}
use Rattle.slot_table.specs.declared.slot.Slot.TheVariants.{Unchanged, Placed, Framed}
use Rattle.slot_table.specs.Slots.{is_changed, is_framed, is_written, marks_by, slot_at}
use Rattle.cow_pages.specs.Contents.{page_count}
use Rattle.cow_pages.specs.Laid.{IsLaid, byte_in, laid_byte, table_byte}
use Rattle.cow_pages.specs.Marks.{count_marked}
use Rattle.cow_pages.proofs.Laid.{same-table}
use Rattle.cow_pages.proofs.MarkLists.{none_marked}
use Rattle.cow_pages.proofs.Placed.{PlacedTo}
use Rattle.cow_pages.proofs.SlotMarks.{get_or-marks_by, length-marks_by, unwritten_is_unframed}

-- some pages were placed, and none was written
pub record Put (slots new : List Slot) (from n : ℕ) : Type 0 where
  pub len : length new ≡ length slots
  pub unwritten : (q : ℕ) → is_written (slot_at slots q) ≡ false
  pub new_is : (q : ℕ) → slot_at new q ≡ cond (is_among from n q) Placed (slot_at slots q)

pub unwritten-slots : (slots : List Slot) → count_marked (marks_by is_written slots) ≡ 0 → (q : ℕ) → is_written (slot_at slots q) ≡ false
unwritten-slots slots none q = sym (get_or-marks_by is_written slots q refl) ∙ none_marked (marks_by is_written slots) none q

neither : (is : Slot → Bool) (b : Bool) (s : Slot) → is Placed ≡ false → is s ≡ false → is (cond b Placed s) ≡ false
neither is true s placed h = placed
neither is false s placed h = h

-- a mark that no page has, since none was written
pub put-marks : (is : Slot → Bool) (slots new : List Slot) (from n : ℕ) → is Unchanged ≡ false → is Placed ≡ false → ((s : Slot) → is_written s ≡ false → is s ≡ false) → Put slots new from n → marks_by is new ≡ marks_by is slots
put-marks is slots new from n none placed so p =
    ext_get_or false (marks_by is new) (marks_by is slots) (length-marks_by is new ∙ p.len ∙ sym (length-marks_by is slots))
    (λ k _.
    let was = so (slot_at slots k) (p.unwritten k) in
    get_or-marks_by is new k none ∙ ap is (p.new_is k) ∙ neither is (is_among from n k) (slot_at slots k) placed was ∙ sym (get_or-marks_by is slots k none ∙ was))

unframed_now : (slots new : List Slot) (from n q f : ℕ) → Put slots new from n → slot_at new q ≡ Framed f → ⊥
unframed_now slots new from n q f p is =
    true≢false (sym (ap is_framed is) ∙ (ap is_framed (p.new_is q) ∙ neither is_framed (is_among from n q) (slot_at slots q) refl (unwritten_is_unframed (slot_at slots q) (p.unwritten q))))

pub put-laid : (slots new : List Slot) (pool : PoolState) (from n : ℕ) → IsLaid slots pool → Put slots new from n → IsLaid new pool
put-laid slots new pool from n laid p = record {
  len = p.len ∙ laid.len;
  given = λ q f is. absurd (unframed_now slots new from n q f p is);
  apart = λ q r f is _. absurd (unframed_now slots new from n q f p is);
  adds_up = ap (λ l. count_marked l + pool.free) (put-marks is_framed slots new from n refl refl unwritten_is_unframed p) ∙ laid.adds_up;
}

changed_too : (b : Bool) (s : Slot) → is_changed (cond b Placed s) ≡ cond b true (is_changed s)
changed_too true s = refl
changed_too false s = refl

pub put-changed : (slots new : List Slot) (marks : List Bool) (from n p : ℕ) → marks_by is_changed slots ≡ marks → Put slots new from n → get_or (marks_by is_changed new) p false ≡ cond (is_among from n p) true (get_or marks p false)
put-changed slots new marks from n p e put =
    get_or-marks_by is_changed new p refl ∙ ap is_changed (put.new_is p) ∙ changed_too (is_among from n p) (slot_at slots p)
    ∙ ap (cond (is_among from n p) true) (sym (get_or-marks_by is_changed slots p refl) ∙ ap (λ l. get_or l p false) e)

unchanged_both : (b : Bool) (s : Slot) → is_changed (cond b Placed s) ≡ false → (b ≡ false) × (is_changed s ≡ false)
unchanged_both true s h = absurd (true≢false h)
unchanged_both false s h = (refl, h)

pub put-since : (slots new : List Slot) (from n q : ℕ) → Put slots new from n → is_changed (slot_at new q) ≡ false → (is_among from n q ≡ false) × (is_changed (slot_at slots q) ≡ false)
put-since slots new from n q p h = unchanged_both (is_among from n q) (slot_at slots q) (sym (ap is_changed (p.new_is q)) ∙ h)

-- outside of the pages the table stays
pub placed-other : (old new : Table) (source : List ℕ) (at a : ℕ) → PlacedTo old new source at (length source) → (is_among at (length source) a ≡ true → is_among (at / 4096) (page_count at (length source)) (a / 4096) ≡ true)
    → is_among (at / 4096) (page_count at (length source)) (a / 4096) ≡ false → table_byte new a ≡ table_byte old a
placed-other old new source at a placed inside out =
    placed a ∙ elim (cases_Bool (is_among at (length source) a)) [
      | inl h ↦ absurd (true≢false (sym (inside h) ∙ out))
      | inr h ↦ cond-false _ _ _ h ∙ cond-false _ _ _ out
    ]

pub put-bytes : (slots new : List Slot) (frames : List ℕ) (old table : Table) (source : List ℕ) (at a : ℕ) → Put slots new (at / 4096) (page_count at (length source)) → PlacedTo old table source at (length source)
    → (is_among at (length source) a ≡ true → is_among (at / 4096) (page_count at (length source)) (a / 4096) ≡ true)
    → (is_among (at / 4096) (page_count at (length source)) (a / 4096) ≡ true → byte_in slots frames old a ≡ 0)
    → byte_in new frames table a ≡ cond (is_among at (length source) a) (get_or source (a - at) 0) (byte_in slots frames old a)
put-bytes slots new frames old table source at a put placed inside zero =
    elim (cases_Bool (is_among (at / 4096) (page_count at (length source)) (a / 4096))) [
      | inl h ↦
          ap (λ s. laid_byte s frames table a) (put.new_is (a / 4096) ∙ cond-true _ _ _ h)
          ∙ placed a
          ∙ ap (cond (is_among at (length source) a) (get_or source (a - at) 0)) (cond-true _ _ _ h ∙ sym (zero h))
      | inr h ↦
          let out : is_among at (length source) a ≡ false = elim (cases_Bool (is_among at (length source) a)) [ inl t ↦ absurd (true≢false (sym (inside t) ∙ h)) | inr f ↦ f ] in
          ap (λ s. laid_byte s frames table a) (put.new_is (a / 4096) ∙ cond-false _ _ _ h)
          ∙ same-table (slot_at slots (a / 4096)) frames table old a (placed-other old table source at a placed inside h)
          ∙ sym (cond-false _ _ _ out)
    ]
