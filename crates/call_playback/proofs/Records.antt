-- What is known of a record that fits, and how few pages it stores in.
use Rattle.std.proofs.Common.{◌≡◌, ◌≤◌, ◌==◌, ◌&&◌, ◌||◌, Bool, true, false, List, [], ◌∷◌, length, map, refl, ap, arith}
use Rattle.std.specs.Prelude.{not, nat_le}
use Rattle.std.specs.List.{list_all, sum_by}
use Rattle.std.proofs.lemmas.Bool.{and_from, and_parts, false≢true, leb-true}
use Rattle.std.proofs.lemmas.Bool.Decides.{nat_tests}
use Rattle.std.proofs.lemmas.List.{length-map}
use Rattle.std.proofs.lemmas.List.Sums.{sum_by-cons}
use Rattle.call_record.specs.Record.{CallRecord, Stored, stored_size}
use Rattle.guest_model.specs.Calls.{call_number, call_numbered, can_write}
use Rattle.guest_model.specs.Fits.{can_store, changes_areas, fits, may_go_on}
use Rattle.guest_model.specs.Machine.{Machine}
use Rattle.guest_model.specs.Range.{Range, total_size}
use Rattle.guest_model.specs.declared.platform.TheConstants.{MOST_READ, MOST_USED}
use Rattle.guest_mem.specs.Frames.{frames_for_all}
use Rattle.guest_mem.proofs.Few.{few_for_all}
use Rattle.call_playback.specs.Stores.{range_of}

-- the parts of what it means that a record fits
pub record DoesFit (m : Machine) (entry : CallRecord) : Type 0 where
  pub number : entry.number ≡ call_number m
  pub goes : may_go_on (call_numbered entry.number) ≡ true
  pub few : length entry.stored ≤ MOST_USED
  pub small : stored_size entry ≤ MOST_READ
  pub store : list_all (can_store m) entry.stored ≡ true
  pub none : changes_areas (call_numbered entry.number) ≡ true → entry.stored ≡ []

empty_if : (b : Bool) (stored : List Stored) → (not b || length stored == 0) ≡ true → b ≡ true → stored ≡ []
empty_if b [] h is = refl
empty_if true (s ∷ ss) h is = let none : length (s ∷ ss) ≡ 0 = grind (arith, nat_tests) in absurd (omega (arith, none))
empty_if false (s ∷ ss) h is = absurd (false≢true is)

none_or : (b : Bool) (stored : List Stored) → (b ≡ true → stored ≡ []) → (not b || length stored == 0) ≡ true
none_or true stored h = ap (λ (ss : List Stored). length ss == 0) (h refl)
none_or false stored h = refl

pub does_fit : (m : Machine) (entry : CallRecord) → fits m entry ≡ true → DoesFit m entry
unfolding fits
does_fit m entry h =
    let call = call_numbered entry.number in
    let known = entry.number == call_number m in
    let few = nat_le (length entry.stored) MOST_USED in
    let small = nat_le (stored_size entry) MOST_READ in
    let store = list_all (can_store m) entry.stored in
    let empty = not (changes_areas call) || length entry.stored == 0 in
    let all = and_parts (known && may_go_on call) ((few && small) && (store && empty)) h in
    let first = and_parts known (may_go_on call) all.0 in
    let rest = and_parts (few && small) (store && empty) all.1 in
    let sizes = and_parts few small rest.0 in
    let last = and_parts store empty rest.1 in
    record {
      number = (let test = first.0 in grind (arith, nat_tests));
      goes = first.1;
      few = leb-true (length entry.stored) MOST_USED sizes.0;
      small = leb-true (stored_size entry) MOST_READ sizes.1;
      store = last.0;
      none = empty_if (changes_areas call) entry.stored last.1;
    }

pub fits_so : (m : Machine) (entry : CallRecord) → DoesFit m entry → fits m entry ≡ true
unfolding fits
fits_so m entry does =
    let call = call_numbered entry.number in
    let known : (entry.number == call_number m) ≡ true = (let is = does.number in grind (arith, nat_tests)) in
    let few : nat_le (length entry.stored) MOST_USED ≡ true = (let le = does.few in grind (arith, nat_tests)) in
    let small : nat_le (stored_size entry) MOST_READ ≡ true = (let le = does.small in grind (arith, nat_tests)) in
    and_from _ _ (and_from _ _ known does.goes)
    (and_from _ _ (and_from _ _ few small) (and_from _ _ does.store (none_or (changes_areas call) entry.stored does.none)))

-- what may be stored may be written
pub writable_if : (m : Machine) (stored : List Stored) → list_all (can_store m) stored ≡ true → list_all (λ s. can_write m s.at (length s.bytes)) stored ≡ true
writable_if m [] h = refl
writable_if m (s ∷ ss) h =
    let parts = and_parts (can_store m s) (list_all (can_store m) ss) h in
    and_from (can_write m s.at (length s.bytes)) _ (and_parts (not (length s.bytes == 0)) (can_write m s.at (length s.bytes)) parts.0).1 (writable_if m ss parts.1)

size_of_ranges : (stored : List Stored) → total_size (map range_of stored) ≡ sum_by (λ s. length s.bytes) stored
size_of_ranges [] = refl
size_of_ranges (s ∷ ss) =
    omega (arith, size_of_ranges ss, sum_by-cons (λ (r : Range). r.size) (range_of s) (map range_of ss), sum_by-cons (λ (x : Stored). length x.bytes) s ss)

pub few_for_record : (framed : List Bool) (m : Machine) (entry : CallRecord) → fits m entry ≡ true → frames_for_all framed (map range_of entry.stored) ≤ 31
few_for_record framed m entry h =
    let does = does_fit m entry h in
    omega (arith, does.few, does.small, few_for_all framed (map range_of entry.stored), size_of_ranges entry.stored, length-map entry.stored range_of)
