-- The marks that slots stand for.
use Rattle.std.proofs.Common.{◌≡◌, ℕ, ◌+◌, ◌^◌, ◌<◌, ◌≤◌, Bool, true, false, cond, List, length, get_or, map, refl, sym, ap, ◌∙◌, arith, inl, inr, get_or-set_same, get_or-set_other}
use Rattle.std.proofs.Math.ListN.{set, get_or-map as map_at}
use Rattle.std.proofs.lemmas.Bool.{cases_eq, true≢false}
use Rattle.std.proofs.lemmas.List.{length-map, map-set, ext_get_or, set-get_or}
use Rattle.slot_table.specs.declared.slot.Slot.{Slot}
use Rattle.slot_table.specs.declared.slot.Slot.TheVariants.{Unchanged, Placed, Dropped, Framed}
use Rattle.slot_table.specs.Slots.{all_unchanged, is_changed, is_framed, is_written, marks_by, slot_at}
use Rattle.slot_table.proofs.Sheets.{get_or-all_unchanged, length-all_unchanged}
use Rattle.cow_pages.specs.Marks.{count_marked, unmarked}
use Rattle.cow_pages.proofs.Flat.{length-unmarked, get_or-unmarked}
use Rattle.cow_pages.proofs.MarkLists.{set_marked, count_marked-set, count_marked-clear, count_marked-among, count_marked-unmarked}

pub unchanged_is : (s : Slot) → is_changed s ≡ false → s ≡ Unchanged
unchanged_is Unchanged h = refl
unchanged_is Placed h = absurd (true≢false h)
unchanged_is (Dropped written) h = absurd (true≢false h)
unchanged_is (Framed frame) h = absurd (true≢false h)

pub framed_is : (s : Slot) → is_framed s ≡ true → (f : ℕ) × (s ≡ Framed f)
framed_is Unchanged h = absurd (true≢false (sym h))
framed_is Placed h = absurd (true≢false (sym h))
framed_is (Dropped written) h = absurd (true≢false (sym h))
framed_is (Framed frame) h = (frame, refl)

pub framed_is_written : (s : Slot) → is_framed s ≡ true → is_written s ≡ true
framed_is_written Unchanged h = absurd (true≢false (sym h))
framed_is_written Placed h = absurd (true≢false (sym h))
framed_is_written (Dropped written) h = absurd (true≢false (sym h))
framed_is_written (Framed frame) h = refl

pub framed_is_changed : (s : Slot) → is_framed s ≡ true → is_changed s ≡ true
framed_is_changed Unchanged h = absurd (true≢false (sym h))
framed_is_changed Placed h = absurd (true≢false (sym h))
framed_is_changed (Dropped written) h = absurd (true≢false (sym h))
framed_is_changed (Framed frame) h = refl

pub unwritten_is_unframed : (s : Slot) → is_written s ≡ false → is_framed s ≡ false
unwritten_is_unframed Unchanged h = refl
unwritten_is_unframed Placed h = refl
unwritten_is_unframed (Dropped written) h = refl
unwritten_is_unframed (Framed frame) h = absurd (true≢false h)

-- a slot that no arm named is not framed
pub unframed : (s : Slot) → ((f : ℕ) → s ≡ Framed f → ⊥) → is_framed s ≡ false
unframed Unchanged none = refl
unframed Placed none = refl
unframed (Dropped written) none = refl
unframed (Framed frame) none = absurd (none frame refl)

pub length-marks_by : (is : Slot → Bool) (slots : List Slot) → length (marks_by is slots) ≡ length slots
unfolding marks_by
length-marks_by is slots = length-map slots is

pub get_or-marks_by : (is : Slot → Bool) (slots : List Slot) (q : ℕ) → is Unchanged ≡ false → get_or (marks_by is slots) q false ≡ is (slot_at slots q)
unfolding marks_by
get_or-marks_by is slots q none = ap (get_or (map is slots) q) (sym none) ∙ map_at is slots q Unchanged

-- the marks, once one slot is another one
pub marks-set : (is : Slot → Bool) (slots new : List Slot) (page : ℕ) (slot : Slot) (b : Bool) → new ≡ set slots page slot → is slot ≡ b → marks_by is new ≡ set (marks_by is slots) page b
unfolding marks_by
marks-set is slots new page slot b e h = ap (map is) e ∙ map-set is slots page slot ∙ ap (set (map is slots) page) h

-- the new slot has the mark of the old one
pub marks-stay : (is : Slot → Bool) (slots new : List Slot) (page : ℕ) (slot : Slot) → is Unchanged ≡ false → new ≡ set slots page slot → is slot ≡ is (slot_at slots page) → marks_by is new ≡ marks_by is slots
marks-stay is slots new page slot none e h =
    marks-set is slots new page slot (get_or (marks_by is slots) page false) e (h ∙ sym (get_or-marks_by is slots page none)) ∙ set-get_or (marks_by is slots) page false

pub count-more : (is : Slot → Bool) (slots new : List Slot) (page : ℕ) (slot : Slot) → is Unchanged ≡ false → new ≡ set slots page slot → page < length slots → is slot ≡ true → is (slot_at slots page) ≡ false → count_marked (marks_by is new) ≡ count_marked (marks_by is slots) + 1
count-more is slots new page slot none e lt h was =
    ap count_marked (marks-set is slots new page slot true e h)
    ∙ count_marked-set (marks_by is slots) page (omega (arith, lt, length-marks_by is slots)) (get_or-marks_by is slots page none ∙ was)

pub count-less : (is : Slot → Bool) (slots new : List Slot) (page : ℕ) (slot : Slot) → is Unchanged ≡ false → new ≡ set slots page slot → page < length slots → is slot ≡ false → is (slot_at slots page) ≡ true → count_marked (marks_by is new) + 1 ≡ count_marked (marks_by is slots)
count-less is slots new page slot none e lt h was =
    ap (λ k. k + 1) (ap count_marked (marks-set is slots new page slot false e h))
    ∙ count_marked-clear (marks_by is slots) page (omega (arith, lt, length-marks_by is slots)) (get_or-marks_by is slots page none ∙ was)

by_cases : (b : Bool) (x y : ℕ) → (b ≡ true → x ≡ y) → (b ≡ false → x ≡ y + 1) → x ≡ y + cond b 0 1
by_cases true x y same more = same refl ∙ omega arith
by_cases false x y same more = more refl

-- how many are marked, once one slot has the mark
pub count-marking : (is : Slot → Bool) (slots new : List Slot) (page : ℕ) (slot : Slot) → is Unchanged ≡ false → new ≡ set slots page slot → page < length slots → is slot ≡ true
    → count_marked (marks_by is new) ≡ count_marked (marks_by is slots) + cond (is (slot_at slots page)) 0 1
count-marking is slots new page slot none e lt h = by_cases (is (slot_at slots page)) _ _
    (λ was. ap count_marked (marks-stay is slots new page slot none e (h ∙ sym was)))
    (λ was. count-more is slots new page slot none e lt h was)

-- a mark that is set already
pub has-mark : (is : Slot → Bool) (slots : List Slot) (marks : List Bool) (page : ℕ) → is Unchanged ≡ false → marks_by is slots ≡ marks → is (slot_at slots page) ≡ true → marks ≡ set marks page true
has-mark is slots marks page none e h = sym (set_marked marks page (ap (λ l. get_or l page false) (sym e) ∙ get_or-marks_by is slots page none ∙ h))

-- nothing stands over any page
pub fresh-slot : (slots : List Slot) → slots ≡ all_unchanged → (q : ℕ) → slot_at slots q ≡ Unchanged
fresh-slot slots e q = ap (λ s. slot_at s q) e ∙ get_or-all_unchanged q

pub fresh-length : (slots : List Slot) → slots ≡ all_unchanged → length slots ≡ 2 ^ 20
fresh-length slots e = ap length e ∙ length-all_unchanged

none-marked : (is : Slot → Bool) (slots : List Slot) (n : ℕ) → is Unchanged ≡ false → length slots ≡ n → ((q : ℕ) → slot_at slots q ≡ Unchanged) → marks_by is slots ≡ unmarked n
none-marked is slots n none len all =
    ext_get_or false (marks_by is slots) (unmarked n) (length-marks_by is slots ∙ len ∙ sym (length-unmarked n))
    (λ k _. get_or-marks_by is slots k none ∙ ap is (all k) ∙ none ∙ sym (get_or-unmarked n k))

pub fresh-marks : (is : Slot → Bool) (slots : List Slot) → is Unchanged ≡ false → slots ≡ all_unchanged → marks_by is slots ≡ unmarked (2 ^ 20)
fresh-marks is slots none e = none-marked is slots (2 ^ 20) none (fresh-length slots e) (fresh-slot slots e)

pub fresh-count : (is : Slot → Bool) (slots : List Slot) → is Unchanged ≡ false → slots ≡ all_unchanged → count_marked (marks_by is slots) ≡ 0
fresh-count is slots none e = ap count_marked (fresh-marks is slots none e) ∙ count_marked-unmarked (2 ^ 20)

-- where every slot of one kind is of another, that has as many marks or more
pub count-wider : (is wider : Slot → Bool) (slots : List Slot) → is Unchanged ≡ false → wider Unchanged ≡ false → ((s : Slot) → is s ≡ true → wider s ≡ true) → count_marked (marks_by is slots) ≤ count_marked (marks_by wider slots)
count-wider is wider slots none none' all = count_marked-among (marks_by is slots) (marks_by wider slots) (length-marks_by is slots ∙ sym (length-marks_by wider slots))
    (λ i h. get_or-marks_by wider slots i none' ∙ all (slot_at slots i) (sym (get_or-marks_by is slots i none) ∙ h))

-- a page that is changed from now on: another one that is not was not either
pub unchanged_before : (slots : List Slot) (page : ℕ) (slot : Slot) (q : ℕ) → page < length slots → is_changed slot ≡ true → is_changed (slot_at (set slots page slot) q) ≡ false → is_changed (slot_at slots q) ≡ false
unchanged_before slots page slot q lt h still = elim (cases_eq q page) [
  | inl e ↦ absurd (true≢false (sym h ∙ sym (ap is_changed (get_or-set_same slots page slot Unchanged lt)) ∙ sym (ap (λ k. is_changed (slot_at (set slots page slot) k)) e) ∙ still))
  | inr ne ↦ ap is_changed (sym (get_or-set_other slots page q slot Unchanged ne)) ∙ still
]
