-- The record that a served call leaves fits the machine at its call, and a play by it gives the machine behind it.
use Rattle.std.proofs.Common.{◌≡◌, ℕ, ◌+◌, ◌≤◌, Bool, true, false, cond, List, [], ◌∷◌, length, length-append, take, drop, refl, sym, ap, subst, ◌∙◌, arith}
use Rattle.std.specs.Prelude.{min, nat_le, nat_lt, not, Option, Some, Result, Ok, Err, ◌==◌}
use Rattle.std.specs.List.{list_all, sum_by}
use Rattle.std.proofs.lemmas.Bool.{and_from, and_parts, false≢true, true≢false}
use Rattle.std.proofs.lemmas.Bool.Decides.{nat_tests}
use Rattle.std.proofs.lemmas.List.{length-take}
use Rattle.std.proofs.lemmas.List.Folds.{list_all-append}
use Rattle.std.proofs.lemmas.List.Sums.{sum_by-cons, sum_by-append}
use Rattle.call_record.specs.Record.{CallRecord, Stored}
use Rattle.guest_model.specs.Call.{filled, machine_after, record_of, stored_at, time_bytes}
use Rattle.guest_model.specs.Calls.{Deed, Answers, Takes, Sends, Tells, Maps, Ends, argument, array_of, call_number, call_numbered, can_read, can_read_array, can_write, clock_row, is_output, read_row, readv_row, row_of, used_ranges, write_row, writev_row}
use Rattle.guest_model.specs.Fits.{can_store, changes_areas, fits, may_go_on}
use Rattle.guest_model.specs.Machine.{Machine}
use Rattle.guest_model.specs.Maps.{Changed}
use Rattle.guest_model.specs.Play.{played, played_by}
use Rattle.guest_model.specs.Range.{Range, range, total_size}
use Rattle.guest_model.specs.declared.Access.TheVariants.{Write as for_writing}
use Rattle.guest_model.specs.declared.platform.TheConstants.{MOST_RANGES, MOST_READ, MOST_SENT, MOST_USED, TIMESPEC_SIZE}
use Rattle.guest_model.specs.declared.system_call.SystemCall.{SystemCall}
use Rattle.guest_model.specs.declared.system_call.SystemCall.TheVariants.{Ioctl, Read, Write, Readv, Writev, Exit, ExitGroup, SetTidAddress, Getpid, Gettid, Brk, Munmap, Mmap2, ClockGettime64}
use Rattle.guest_model.proofs.Used.{few_used, small_used}
use Rattle.rv_machine.specs.Guest.{GuestState}
use Rattle.call_playback.proofs.Records.{fits_so}
use Rattle.syscall_layer.specs.Serve.{AnswersDeed, IsRecordOf, LeavesPlayable}
use Rattle.syscall_layer.specs.declared.fault.CallFault.{CallFault}
use Rattle.syscall_layer.specs.declared.server.Served.{Served}
use Rattle.syscall_layer.specs.declared.server.Served.TheVariants as served
use Rattle.syscall_layer.proofs.Permitted.{front_permitted}
use Rattle.syscall_layer.proofs.Rows.{deed_is}

-- these may be stored at m
record MayStore (m : Machine) (stored : List Stored) : Type 0 where
  few : length stored ≤ MOST_USED
  small : sum_by (λ s. length s.bytes) stored ≤ MOST_READ
  store : list_all (can_store m) stored ≡ true

none_may : (m : Machine) → MayStore m []
none_may m = record { few = omega arith; small = omega arith; store = refl }

few_at : (a : ℕ) (xs : List ℕ) → length (stored_at a xs) ≤ 1
few_at a [] = omega arith
few_at a (x ∷ xs) = omega arith

small_at : (a : ℕ) (xs : List ℕ) → sum_by (λ (s : Stored). length s.bytes) (stored_at a xs) ≡ length xs
small_at a [] = refl
small_at a (x ∷ xs) = let one : 0 + length (x ∷ xs) ≡ length (x ∷ xs) = omega arith in one

store_at : (m : Machine) (a : ℕ) (xs : List ℕ) → can_write m a (length xs) ≡ true → list_all (can_store m) (stored_at a xs) ≡ true
store_at m a [] h = refl
store_at m a (x ∷ xs) h =
    let some : not (length (x ∷ xs) == 0) ≡ true = grind (arith, nat_tests) in
    and_from (can_store m (record { at = a; bytes = x ∷ xs })) true (and_from (not (length (x ∷ xs) == 0)) (can_write m a (length (x ∷ xs))) some h) refl

-- bytes that fill ranges are at most one write for each, and no more bytes than those have
few_filled : (rs : List Range) (bytes : List ℕ) → length (filled rs bytes) ≤ length rs
few_filled [] bytes = omega arith
few_filled (r ∷ rs) bytes =
    omega (arith, few_filled rs (drop r.size bytes), few_at r.at (take r.size bytes), length-append (stored_at r.at (take r.size bytes)) (filled rs (drop r.size bytes)))

small_filled : (rs : List Range) (bytes : List ℕ) → sum_by (λ (s : Stored). length s.bytes) (filled rs bytes) ≤ total_size rs
small_filled [] bytes = omega arith
small_filled (r ∷ rs) bytes =
    omega (
      arith,
      small_filled rs (drop r.size bytes),
      small_at r.at (take r.size bytes),
      length-take r.size bytes,
      sum_by-append (λ (s : Stored). length s.bytes) (stored_at r.at (take r.size bytes)) (filled rs (drop r.size bytes)),
      sum_by-cons (λ (q : Range). q.size) r rs,
    )

store_filled : (m : Machine) (rs : List Range) (bytes : List ℕ) → list_all (λ r. can_write m r.at r.size) rs ≡ true → list_all (can_store m) (filled rs bytes) ≡ true
store_filled m [] bytes h = refl
store_filled m (r ∷ rs) bytes h =
    let parts = and_parts (can_write m r.at r.size) (list_all (λ (q : Range). can_write m q.at q.size) rs) h in
    let front = front_permitted for_writing m.space.areas r.at r.size (length (take r.size bytes)) (omega (arith, length-take r.size bytes)) parts.0 in
    list_all-append (can_store m) (stored_at r.at (take r.size bytes)) (filled rs (drop r.size bytes))
    ∙ and_from _ _ (store_at m r.at (take r.size bytes) front) (store_filled m rs (drop r.size bytes) parts.1)

filled_may : (m : Machine) (rs : List Range) (bytes : List ℕ) → length rs ≤ MOST_USED → total_size rs ≤ MOST_READ → list_all (λ r. can_write m r.at r.size) rs ≡ true → MayStore m (filled rs bytes)
filled_may m rs bytes few small writable = record {
  few = omega (arith, few, few_filled rs bytes);
  small = omega (arith, small, small_filled rs bytes);
  store = store_filled m rs bytes writable;
}

-- what every record of such a call is
record Leaves (m : Machine) (deed : Deed) : Type 0 where
  number : (entry : CallRecord) → IsRecordOf deed m entry → entry.number ≡ call_number m
  stored : (entry : CallRecord) → IsRecordOf deed m entry → MayStore m entry.stored

leaves_if : (m : Machine) (b : Bool) (d e : Deed) → (b ≡ true → Leaves m d) → (b ≡ false → Leaves m e) → Leaves m (cond b d e)
leaves_if m true d e h k = h refl
leaves_if m false d e h k = k refl

leaves_none : (m : Machine) (answer : ℕ) (entry : CallRecord) → entry ≡ record_of m answer [] → MayStore m entry.stored
leaves_none m answer entry is = subst (MayStore m) (sym (ap (λ (e : CallRecord). e.stored) is)) (none_may m)

number_is : (m : Machine) (answer : ℕ) (stored : List Stored) (entry : CallRecord) → entry ≡ record_of m answer stored → entry.number ≡ call_number m
number_is m answer stored entry is = ap (λ (e : CallRecord). e.number) is

leaves_answer : (m : Machine) (answer : ℕ) → Leaves m (Answers answer)
leaves_answer m answer = record { number = λ entry is. number_is m answer [] entry is; stored = λ entry is. leaves_none m answer entry is }

leaves_sent : (m : Machine) (port : ℕ) (bytes : List ℕ) (answer : ℕ) → Leaves m (Sends port bytes answer)
leaves_sent m port bytes answer = record { number = λ entry is. number_is m answer [] entry is; stored = λ entry is. leaves_none m answer entry is }

leaves_changed : (m : Machine) (changed : Changed) → Leaves m (Maps changed)
leaves_changed m changed = record { number = λ entry is. number_is m changed.answer [] entry is; stored = λ entry is. leaves_none m changed.answer entry is }

leaves_taken : (m : Machine) (into : List Range) → length into ≤ MOST_USED → total_size into ≤ MOST_READ → list_all (λ r. can_write m r.at r.size) into ≡ true → Leaves m (Takes into)
leaves_taken m into few small writable = record {
  number = λ entry is. number_is m (length is.0) (filled into is.0) entry is.2;
  stored = λ entry is. subst (MayStore m) (sym (ap (λ (e : CallRecord). e.stored) is.2)) (filled_may m into is.0 few small writable);
}

one_writable : (m : Machine) (a n : ℕ) → can_write m a n ≡ true → list_all (λ (r : Range). can_write m r.at r.size) (range a n ∷ []) ≡ true
one_writable m a n h = and_from (can_write m a n) true h refl

small_one : (a n : ℕ) → n ≤ MOST_READ → total_size (range a n ∷ []) ≤ MOST_READ
small_one a n le = omega (arith, sum_by-cons (λ (r : Range). r.size) (range a n) [], le)

leaves_told : (m : Machine) (at : ℕ) → can_write m at TIMESPEC_SIZE ≡ true → Leaves m (Tells at)
leaves_told m at h = record {
  number = λ entry is. number_is m 0 (stored_at at (time_bytes is.0)) entry is.1;
  stored = λ entry is. subst (MayStore m) (sym (ap (λ (e : CallRecord). e.stored) is.1))
      (filled_may m (range at TIMESPEC_SIZE ∷ []) (time_bytes is.0) (omega arith) (small_one at TIMESPEC_SIZE (omega arith)) (one_writable m at TIMESPEC_SIZE h));
}

passed : (b : Bool) → not b ≡ false → b ≡ true
passed true h = refl
passed false h = absurd (true≢false h)

leaves_read : (m : Machine) → Leaves m (read_row m)
leaves_read m =
    let n = min (argument m 2) MOST_READ in
    leaves_if m (not (argument m 0 == 0)) _ _ (λ h. leaves_answer m _)
    (λ h. leaves_if m (not (can_write m (argument m 1) n)) _ _ (λ k. leaves_answer m _)
    (λ k. leaves_taken m (range (argument m 1) n ∷ []) (omega arith) (small_one (argument m 1) n (omega arith)) (one_writable m (argument m 1) n (passed (can_write m (argument m 1) n) k))))

leaves_readv : (m : Machine) → Leaves m (readv_row m)
leaves_readv m =
    let used = used_ranges (array_of m) in
    let writable = list_all (λ (r : Range). can_write m r.at r.size) used in
    leaves_if m (not (argument m 0 == 0)) _ _ (λ h. leaves_answer m _)
    (λ h. leaves_if m (nat_lt MOST_RANGES (argument m 2)) _ _ (λ k. leaves_answer m _)
    (λ k. leaves_if m (not (can_read_array m)) _ _ (λ l. leaves_answer m _)
    (λ l. leaves_if m (not writable) _ _ (λ t. leaves_answer m _)
    (λ t. leaves_taken m used (few_used (array_of m)) (small_used (array_of m)) (passed writable t)))))

leaves_clock : (m : Machine) → Leaves m (clock_row m)
leaves_clock m =
    leaves_if m (not (nat_le (argument m 0) 1)) _ _ (λ h. leaves_answer m _)
    (λ h. leaves_if m (not (can_write m (argument m 1) TIMESPEC_SIZE)) _ _ (λ k. leaves_answer m _)
    (λ k. leaves_told m (argument m 1) (passed (can_write m (argument m 1) TIMESPEC_SIZE) k)))

leaves_write : (m : Machine) → Leaves m (write_row m)
leaves_write m =
    leaves_if m (not (is_output (argument m 0))) _ _ (λ h. leaves_answer m _)
    (λ h. leaves_if m (not (can_read m (argument m 1) (argument m 2))) _ _ (λ k. leaves_answer m _) (λ k. leaves_sent m _ _ _))

leaves_writev : (m : Machine) → Leaves m (writev_row m)
leaves_writev m =
    leaves_if m (not (is_output (argument m 0))) _ _ (λ h. leaves_answer m _)
    (λ h. leaves_if m (nat_lt MOST_RANGES (argument m 2)) _ _ (λ k. leaves_answer m _)
    (λ k. leaves_if m (not (can_read_array m)) _ _ (λ l. leaves_answer m _)
    (λ l. leaves_if m (nat_lt MOST_SENT (total_size (array_of m))) _ _ (λ t. leaves_answer m _)
    (λ t. leaves_if m (not (list_all (λ r. can_read m r.at r.size) (array_of m))) _ _ (λ u. leaves_answer m _) (λ u. leaves_sent m _ _ _)))))

leaves_ended : (m : Machine) (status : ℕ) → Leaves m (Ends status)
leaves_ended m status = record { number = λ entry is. absurd is; stored = λ entry is. absurd is }

leaves_by_row : (m : Machine) (call : SystemCall) → Leaves m (row_of call m)
leaves_by_row m Ioctl = leaves_answer m _
leaves_by_row m Read = leaves_read m
leaves_by_row m Write = leaves_write m
leaves_by_row m Readv = leaves_readv m
leaves_by_row m Writev = leaves_writev m
leaves_by_row m Exit = leaves_ended m _
leaves_by_row m ExitGroup = leaves_ended m _
leaves_by_row m SetTidAddress = leaves_answer m _
leaves_by_row m Getpid = leaves_answer m _
leaves_by_row m Gettid = leaves_answer m _
leaves_by_row m Brk = leaves_changed m _
leaves_by_row m Munmap = leaves_changed m _
leaves_by_row m Mmap2 = leaves_changed m _
leaves_by_row m ClockGettime64 = leaves_clock m

goes_by_row : (m : Machine) (call : SystemCall) (entry : CallRecord) → IsRecordOf (row_of call m) m entry → may_go_on (Some call) ≡ true
goes_by_row m Exit entry is = absurd is
goes_by_row m ExitGroup entry is = absurd is
goes_by_row m _ entry is = refl

none_by_row : (m : Machine) (call : SystemCall) (entry : CallRecord) → IsRecordOf (row_of call m) m entry → changes_areas (Some call) ≡ true → entry.stored ≡ []
none_by_row m Brk entry is h = ap (λ (e : CallRecord). e.stored) is
none_by_row m Munmap entry is h = ap (λ (e : CallRecord). e.stored) is
none_by_row m Mmap2 entry is h = ap (λ (e : CallRecord). e.stored) is
none_by_row m _ entry is h = absurd (false≢true h)

fits_by_row : (m : Machine) (call : SystemCall) (entry : CallRecord) → call_numbered (call_number m) ≡ Some call → IsRecordOf (row_of call m) m entry → fits m entry ≡ true
fits_by_row m call entry has is =
    let leaves = leaves_by_row m call in
    let number = leaves.number entry is in
    let may = leaves.stored entry is in
    let same : call_numbered entry.number ≡ Some call = ap call_numbered number ∙ has in
    fits_so m entry (record {
      number = number;
      goes = ap may_go_on same ∙ goes_by_row m call entry is;
      few = may.few;
      small = may.small;
      store = may.store;
      none = λ h. none_by_row m call entry is (sym (ap changes_areas same) ∙ h);
    })

played_by_row : (m : Machine) (call : SystemCall) (entry : CallRecord) → call_numbered (call_number m) ≡ Some call → machine_after m (row_of call m) entry ≡ played m entry
unfolding played
played_by_row m call entry has = sym (ap (λ (deed : Option Deed). played_by deed m entry) (deed_is m call has))

pub leaves_playable : (call : SystemCall) (r : Result Served CallFault) (old new : GuestState) → call_numbered (call_number old.machine) ≡ Some call → AnswersDeed (row_of call old.machine) r old new → LeavesPlayable r old.machine new.machine
leaves_playable call (Ok (served.Went entry)) old new has goes = record {
  fits = fits_by_row old.machine call entry has goes.record_is;
  next_is = goes.machine_is ∙ played_by_row old.machine call entry has;
}
leaves_playable call (Ok (served.Exit status)) old new has goes = tt
leaves_playable call (Err fault) old new has goes = tt
