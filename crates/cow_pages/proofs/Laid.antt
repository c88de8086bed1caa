-- What a page reads as, and how that changes.
use Rattle.std.proofs.Common.{◌≡◌, ℕ, ◌+◌, ◌-◌, ◌*◌, ◌/◌, ◌%◌, ◌<◌, ◌≤◌, ◌≢◌, ◌==◌, Bool, true, false, cond, List, length, get_or, refl, sym, ap, ◌∙◌, arith, inl, inr, get_or-set_same, get_or-set_other}
use Rattle.std.proofs.Math.ListN.{set, length-set}
use Rattle.std.proofs.lemmas.Bool.{cases_eq, cases_order, cond-true, cond-false, eq-eqb, ne_eqb, true≢false}
use Rattle.std.proofs.lemmas.Bool.Decides.{nat_tests}
use Rattle.frame_pool.specs.Bytes.{is_among, PutsBytes}
use Rattle.frame_pool.specs.PoolState.{PoolState, is_given}
use Rattle.page_table.specs.Table.{Table, page_at}
use Rattle.slot_table.specs.declared.slot.Slot.{Slot}
use Rattle.slot_table.specs.declared.slot.Slot.TheVariants.{Unchanged, Placed, Dropped, Framed}
use Rattle.slot_table.specs.Slots.{is_changed, is_framed, marks_by, slot_at}
use Rattle.cow_pages.specs.Laid.{IsLaid, byte_in, laid_byte, table_byte}
use Rattle.cow_pages.specs.Marks.{count_marked}
use Rattle.cow_pages.proofs.SlotMarks.{count-less, count-more, marks-stay}

pub table_byte-at : (table : Table) (page i : ℕ) → i < 4096 → table_byte table (4096 * page + i) ≡ get_or (page_at table page) i 0
unfolding table_byte
table_byte-at table page i lt =
    let p : (4096 * page + i) / 4096 ≡ page = omega arith in
    let o : (4096 * page + i) % 4096 ≡ i = omega arith in
    ap (λ k. get_or (page_at table k) ((4096 * page + i) % 4096) 0) p ∙ ap (λ k. get_or (page_at table page) k 0) o

-- the byte at an address of a page, by the page's slot
pub byte-at : (slots : List Slot) (frames : List ℕ) (table : Table) (page a : ℕ) (s : Slot) → slot_at slots page ≡ s → a / 4096 ≡ page → byte_in slots frames table a ≡ laid_byte s frames table a
byte-at slots frames table page a s is e = ap (λ k. laid_byte k frames table a) (ap (slot_at slots) e ∙ is)

-- the byte with a number in a page, by the page's slot
pub byte_of_page : (slots : List Slot) (frames : List ℕ) (table : Table) (page i : ℕ) (s : Slot) → slot_at slots page ≡ s → i < 4096 → byte_in slots frames table (4096 * page + i) ≡ laid_byte s frames table (4096 * page + i)
byte_of_page slots frames table page i s is lt = byte-at slots frames table page (4096 * page + i) s is (omega arith)

pub framed-byte : (frames : List ℕ) (table : Table) (page i f : ℕ) → i < 4096 → laid_byte (Framed f) frames table (4096 * page + i) ≡ get_or frames (4096 * f + i) 0
framed-byte frames table page i f lt =
    let o : (4096 * page + i) % 4096 ≡ i = omega arith in
    ap (λ k. get_or frames (4096 * f + k) 0) o

pub unchanged-byte : (s : Slot) (frames : List ℕ) (table : Table) (a : ℕ) → is_changed s ≡ false → laid_byte s frames table a ≡ table_byte table a
unchanged-byte Unchanged frames table a h = refl
unchanged-byte Placed frames table a h = absurd (true≢false h)
unchanged-byte (Dropped written) frames table a h = absurd (true≢false h)
unchanged-byte (Framed frame) frames table a h = absurd (true≢false h)

pub same-table : (s : Slot) (frames : List ℕ) (table other : Table) (a : ℕ) → table_byte table a ≡ table_byte other a → laid_byte s frames table a ≡ laid_byte s frames other a
same-table Unchanged frames table other a e = e
same-table Placed frames table other a e = e
same-table (Dropped written) frames table other a e = refl
same-table (Framed frame) frames table other a e = refl

-- the frames may differ where the page has none
pub same-frames : (s : Slot) (frames new : List ℕ) (table : Table) (a : ℕ) → ((f : ℕ) → s ≡ Framed f → get_or new (4096 * f + a % 4096) 0 ≡ get_or frames (4096 * f + a % 4096) 0) → laid_byte s new table a ≡ laid_byte s frames table a
same-frames Unchanged frames new table a h = refl
same-frames Placed frames new table a h = refl
same-frames (Dropped written) frames new table a h = refl
same-frames (Framed frame) frames new table a h = h frame refl

-- a frame that was free is laid over a page
pub record Laying (slots new : List Slot) (pool pool2 : PoolState) (table : Table) (page f : ℕ) : Type 0 where
  pub in_slots : page < length slots
  pub none : is_framed (slot_at slots page) ≡ false
  pub slots_are : new ≡ set slots page (Framed f)
  pub was_free : is_given pool f ≡ false
  pub given : (g : ℕ) → is_given pool2 g ≡ cond (g == f) true (is_given pool g)
  pub bytes : (k : ℕ) → get_or pool2.bytes k 0 ≡ cond (k / 4096 == f) (laid_byte (slot_at slots page) pool.bytes table (4096 * page + k % 4096)) (get_or pool.bytes k 0)
  pub free : pool2.free + 1 ≡ pool.free
  pub count : pool2.count ≡ pool.count

pub set-here : (slots new : List Slot) (page q : ℕ) (slot : Slot) → page < length slots → new ≡ set slots page slot → q ≡ page → slot_at new q ≡ slot
set-here slots new page q slot lt is e = ap (λ s. slot_at s q) is ∙ ap (slot_at (set slots page slot)) e ∙ get_or-set_same slots page slot Unchanged lt

pub set-other : (slots new : List Slot) (page q : ℕ) (slot : Slot) → new ≡ set slots page slot → q ≢ page → slot_at new q ≡ slot_at slots q
set-other slots new page q slot is ne = ap (λ s. slot_at s q) is ∙ get_or-set_other slots page q slot Unchanged ne

same_frame : (f g : ℕ) → Framed f ≡ Framed g → f ≡ g
same_frame f g e = cc

not_this : (slots : List Slot) (pool : PoolState) (q f g : ℕ) → IsLaid slots pool → is_given pool f ≡ false → slot_at slots q ≡ Framed g → g ≢ f
not_this slots pool q f g laid free is e = true≢false (sym (laid.given q g is) ∙ ap (is_given pool) e ∙ free)

given_too : (b x : Bool) → x ≡ true → cond b true x ≡ true
given_too true x h = refl
given_too false x h = h

pub laid-more : (slots new : List Slot) (pool pool2 : PoolState) (table : Table) (page f : ℕ) → IsLaid slots pool → Laying slots new pool pool2 table page f → IsLaid new pool2
laid-more slots new pool pool2 table page f laid l =
    let here : (q : ℕ) → q ≡ page → slot_at new q ≡ Framed f = λ q. set-here slots new page q (Framed f) l.in_slots l.slots_are in
    let other : (q : ℕ) → q ≢ page → slot_at new q ≡ slot_at slots q = λ q. set-other slots new page q (Framed f) l.slots_are in
    let count = count-more is_framed slots new page (Framed f) refl l.slots_are l.in_slots refl l.none in
    record {
      len = ap length l.slots_are ∙ length-set slots page (Framed f) ∙ laid.len;
      given = λ p g is. elim (cases_eq p page) [
        | inl e ↦
            let same : g ≡ f = same_frame g f (sym is ∙ here p e) in
            l.given g ∙ cond-true (g == f) true (is_given pool g) (eq-eqb g f same)
        | inr ne ↦ l.given g ∙ given_too (g == f) (is_given pool g) (laid.given p g (sym (other p ne) ∙ is))
      ];
      apart = λ p q g is is'. elim (cases_eq p page) [
        | inl pe ↦ elim (cases_eq q page) [
          | inl qe ↦ pe ∙ sym qe
          | inr qne ↦ absurd (not_this slots pool q f g laid l.was_free (sym (other q qne) ∙ is') (same_frame g f (sym is ∙ here p pe)))
        ]
        | inr pne ↦ elim (cases_eq q page) [
          | inl qe ↦ absurd (not_this slots pool p f g laid l.was_free (sym (other p pne) ∙ is) (same_frame g f (sym is' ∙ here q qe)))
          | inr qne ↦ laid.apart p q g (sym (other p pne) ∙ is) (sym (other q qne) ∙ is')
        ]
      ];
      adds_up = omega (arith, count, laid.adds_up, l.free, l.count);
    }

pub laid-same : (slots new : List Slot) (pool pool2 : PoolState) (table : Table) (page f : ℕ) → IsLaid slots pool → Laying slots new pool pool2 table page f
    → (a : ℕ) → byte_in new pool2.bytes table a ≡ byte_in slots pool.bytes table a
laid-same slots new pool pool2 table page f laid l a =
    elim (cases_eq (a / 4096) page) [
      | inl e ↦
          let at : 4096 * page + (4096 * f + a % 4096) % 4096 ≡ a = omega arith in
          let frame : (4096 * f + a % 4096) / 4096 ≡ f = omega arith in
          byte-at new pool2.bytes table (a / 4096) a (Framed f) (set-here slots new page (a / 4096) (Framed f) l.in_slots l.slots_are e) refl
          ∙ l.bytes (4096 * f + a % 4096)
          ∙ cond-true _ _ _ (eq-eqb ((4096 * f + a % 4096) / 4096) f frame)
          ∙ ap (laid_byte (slot_at slots page) pool.bytes table) at
          ∙ sym (byte-at slots pool.bytes table page a (slot_at slots page) refl e)
      | inr ne ↦
          byte-at new pool2.bytes table (a / 4096) a (slot_at slots (a / 4096)) (set-other slots new page (a / 4096) (Framed f) l.slots_are ne) refl
          ∙ same-frames (slot_at slots (a / 4096)) pool.bytes pool2.bytes table a (λ g is.
          let frame : (4096 * g + a % 4096) / 4096 ≡ g = omega arith in
          let differs = not_this slots pool (a / 4096) f g laid l.was_free is in
          l.bytes (4096 * g + a % 4096)
          ∙ cond-false _ _ _ (ne_eqb ((4096 * g + a % 4096) / 4096) f (λ same. differs (sym frame ∙ same))))
    ]

-- a page holds zeros from now on
pub record Emptying (slots new : List Slot) (pool pool2 : PoolState) (page : ℕ) (written : Bool) : Type 0 where
  pub in_slots : page < length slots
  pub slots_are : new ≡ set slots page (Dropped written)
  pub given : (g : ℕ) → (slot_at slots page ≡ Framed g → ⊥) → is_given pool2 g ≡ is_given pool g
  pub free : pool2.free ≡ pool.free + cond (is_framed (slot_at slots page)) 1 0
  pub count : pool2.count ≡ pool.count

no_frame : (written : Bool) (f : ℕ) → Dropped written ≡ Framed f → ⊥
no_frame written f e = true≢false (sym (ap is_framed e))

emptied-framed : (slots new : List Slot) (pool pool2 : PoolState) (page : ℕ) (written : Bool) (p f : ℕ) → Emptying slots new pool pool2 page written → slot_at new p ≡ Framed f → (p ≢ page) × (slot_at slots p ≡ Framed f)
emptied-framed slots new pool pool2 page written p f l is =
    let ne : p ≢ page = λ e. no_frame written f (sym (set-here slots new page p (Dropped written) l.in_slots l.slots_are e) ∙ is) in
    (ne, sym (set-other slots new page p (Dropped written) l.slots_are ne) ∙ is)

one_less : (slots new : List Slot) (pool pool2 : PoolState) (page : ℕ) (written b : Bool) → is_framed (slot_at slots page) ≡ b → IsLaid slots pool → Emptying slots new pool pool2 page written → count_marked (marks_by is_framed new) + cond b 1 0 ≡ count_marked (marks_by is_framed slots)
one_less slots new pool pool2 page written true is laid l = count-less is_framed slots new page (Dropped written) refl l.slots_are l.in_slots refl is
one_less slots new pool pool2 page written false is laid l = omega (arith, ap count_marked (marks-stay is_framed slots new page (Dropped written) refl l.slots_are (sym is)))

pub laid-less : (slots new : List Slot) (pool pool2 : PoolState) (page : ℕ) (written : Bool) → IsLaid slots pool → Emptying slots new pool pool2 page written → IsLaid new pool2
laid-less slots new pool pool2 page written laid l =
    record {
      len = ap length l.slots_are ∙ length-set slots page (Dropped written) ∙ laid.len;
      given = λ p f is.
          let was = emptied-framed slots new pool pool2 page written p f l is in
          l.given f (λ at_page. was.0 (laid.apart p page f was.1 at_page)) ∙ laid.given p f was.1;
      apart = λ p q f is is'. laid.apart p q f (emptied-framed slots new pool pool2 page written p f l is).1 (emptied-framed slots new pool pool2 page written q f l is').1;
      adds_up = omega (arith, one_less slots new pool pool2 page written (is_framed (slot_at slots page)) refl laid l, laid.adds_up, l.free, l.count);
    }

pub emptied-bytes : (slots new : List Slot) (frames : List ℕ) (table : Table) (page : ℕ) (written : Bool) → page < length slots → new ≡ set slots page (Dropped written)
    → (a : ℕ) → byte_in new frames table a ≡ cond (a / 4096 == page) 0 (byte_in slots frames table a)
emptied-bytes slots new frames table page written lt is a =
    elim (cases_eq (a / 4096) page) [
      | inl e ↦
          byte-at new frames table (a / 4096) a (Dropped written) (set-here slots new page (a / 4096) (Dropped written) lt is e) refl
          ∙ sym (cond-true (a / 4096 == page) 0 (byte_in slots frames table a) (eq-eqb (a / 4096) page e))
      | inr ne ↦
          byte-at new frames table (a / 4096) a (slot_at slots (a / 4096)) (set-other slots new page (a / 4096) (Dropped written) is ne) refl
          ∙ sym (cond-false (a / 4096 == page) 0 (byte_in slots frames table a) (ne_eqb (a / 4096) page ne))
    ]

-- bytes of a page are as far from its start as those of its frame
among-moved : (f page at n i : ℕ) → is_among (4096 * f + at) n (4096 * f + i) ≡ is_among (4096 * page + at) n (4096 * page + i)
among-moved f page at n i = grind (arith, nat_tests)

-- those of another page are not among them
among-other : (page at n other i : ℕ) → at + n ≤ 4096 → i < 4096 → other ≢ page → is_among (4096 * page + at) n (4096 * other + i) ≡ false
among-other page at n other i within lt ne =
    elim (cases_order other page) [
      | inl e ↦ absurd (ne e)
      | inr h ↦ elim h [ inl less ↦ grind (arith, nat_tests) | inr more ↦ grind (arith, nat_tests) ]
    ]

-- bytes written within a page that has a frame
pub written-bytes : (slots : List Slot) (frames new source : List ℕ) (table : Table) (pool : PoolState) (page at f : ℕ) → IsLaid slots pool → slot_at slots page ≡ Framed f → at + length source ≤ 4096
    → PutsBytes frames new (4096 * f + at) source
    → (a : ℕ) → byte_in slots new table a ≡ cond (is_among (4096 * page + at) (length source) a) (get_or source (a - (4096 * page + at)) 0) (byte_in slots frames table a)
written-bytes slots frames new source table pool page at f laid is within puts a =
    elim (cases_eq (a / 4096) page) [
      | inl e ↦
          let split : 4096 * page + a % 4096 ≡ a = omega arith in
          let among : is_among (4096 * f + at) (length source) (4096 * f + a % 4096) ≡ is_among (4096 * page + at) (length source) a =
          among-moved f page at (length source) (a % 4096) ∙ ap (is_among (4096 * page + at) (length source)) split in
          let far : 4096 * f + a % 4096 - (4096 * f + at) ≡ a - (4096 * page + at) = omega arith in
          byte-at slots new table page a (Framed f) is e
          ∙ puts (4096 * f + a % 4096)
          ∙ ap (λ b. cond b (get_or source (4096 * f + a % 4096 - (4096 * f + at)) 0) (get_or frames (4096 * f + a % 4096) 0)) among
          ∙ ap (λ k. cond (is_among (4096 * page + at) (length source) a) (get_or source k 0) (get_or frames (4096 * f + a % 4096) 0)) far
          ∙ ap (cond (is_among (4096 * page + at) (length source) a) (get_or source (a - (4096 * page + at)) 0)) (sym (byte-at slots frames table page a (Framed f) is e))
      | inr ne ↦
          let split : 4096 * (a / 4096) + a % 4096 ≡ a = omega arith in
          same-frames (slot_at slots (a / 4096)) frames new table a (λ g there.
          puts (4096 * g + a % 4096)
          ∙ cond-false _ _ _ (among-other f at (length source) g (a % 4096) within (omega arith) (λ same. ne (laid.apart (a / 4096) page f (there ∙ ap Framed same) is))))
          ∙ sym (cond-false (is_among (4096 * page + at) (length source) a) _ _ (ap (is_among (4096 * page + at) (length source)) (sym split) ∙ among-other page at (length source) (a / 4096) (a % 4096) within (omega arith) ne))
    ]
