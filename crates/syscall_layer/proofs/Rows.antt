-- The rows of calls, where a test fails and where all pass.
use Rattle.std.proofs.Common.{◌≡◌, ◌≢◌, ℕ, ◌<◌, ◌≤◌, Bool, true, false, [], ◌∷◌, ap, ◌∙◌, arith}
use Rattle.std.specs.Prelude.{Option, None, Some, min, not, nat_lt, nat_le, ◌==◌, if◌then◌else◌}
use Rattle.std.specs.List.{flat_map, list_all}
use Rattle.std.specs.Option.{option_map}
use Rattle.std.proofs.lemmas.Bool.Decides.{nat_tests}
use Rattle.guest_model.specs.Areas.{is_range_permitted}
use Rattle.guest_model.specs.Bytes.{bytes_at}
use Rattle.guest_model.specs.Calls.{Deed, Answers, Takes, Sends, Tells, argument, array_of, call_number, call_numbered, can_read, can_read_array, can_write, clock_row, deed_of, is_output, range_bytes, read_row, readv_row, row_of, storable, used_ranges, write_row, writev_row}
use Rattle.guest_model.specs.Effect.{Call, effect_of}
use Rattle.guest_model.specs.Errors.{failure}
use Rattle.guest_model.specs.Written.{storable_by, written_by, written_with}
use Rattle.guest_model.specs.Machine.{Machine}
use Rattle.guest_model.specs.Range.{range, total_size}
use Rattle.guest_model.specs.declared.Access.{Access}
use Rattle.guest_model.specs.declared.platform.TheConstants.{EBADF, EFAULT, EINVAL, MOST_RANGES, MOST_READ, MOST_SENT, TIMESPEC_SIZE}
use Rattle.guest_model.specs.declared.system_call.SystemCall.{SystemCall}
use Rattle.guest_mem.specs.Memory.{Memory}
use Rattle.rv_machine.specs.Guest.{GuestState, memory_of}

-- the deed of a call that has a row
pub deed_is : (m : Machine) (call : SystemCall) → call_numbered (call_number m) ≡ Some call → deed_of m ≡ Some (row_of call m)
unfolding deed_of
deed_is m call is = ap (λ (o : Option SystemCall). option_map (λ c. row_of c m) o) is

pub no_deed : (m : Machine) → call_numbered (call_number m) ≡ None → deed_of m ≡ None
unfolding deed_of
no_deed m is = ap (λ (o : Option SystemCall). option_map (λ c. row_of c m) o) is

-- a test that fails, and one that passes
fails : {A : Type 0} (b : Bool) (x y : A) → b ≡ false → (if not b then x else y) ≡ x
fails b x y h = ap (λ (c : Bool). if not c then x else y) h

passes : {A : Type 0} (b : Bool) (x y : A) → b ≡ true → (if not b then x else y) ≡ y
passes b x y h = ap (λ (c : Bool). if not c then x else y) h

below : {A : Type 0} (b : Bool) (x y : A) → b ≡ true → (if b then x else y) ≡ x
below b x y h = ap (λ (c : Bool). if c then x else y) h

beyond : {A : Type 0} (b : Bool) (x y : A) → b ≡ false → (if b then x else y) ≡ y
beyond b x y h = ap (λ (c : Bool). if c then x else y) h

-- what was tested is a range of the guest's memory
pub tested : (access : Access) (g : GuestState) (memory : Memory) (at len a n : ℕ) (answer : Bool) → answer ≡ is_range_permitted access memory.space.areas at len → memory ≡ memory_of g → at ≡ a → len ≡ n
    → answer ≡ is_range_permitted access g.machine.space.areas a n
tested access g memory at len a n answer is here same size =
    is
    ∙ ap (λ (k : Memory). is_range_permitted access k.space.areas at len) here
    ∙ ap (λ (k : ℕ). is_range_permitted access g.machine.space.areas k len) same
    ∙ ap (λ (k : ℕ). is_range_permitted access g.machine.space.areas a k) size

-- clock_gettime64
pub clock_no_clock : (m : Machine) → 1 < argument m 0 → clock_row m ≡ Answers (failure EINVAL)
clock_no_clock m h = fails (nat_le (argument m 0) 1) _ _ (grind (arith, nat_tests))

clock_of_two : (m : Machine) → argument m 0 ≤ 1 → clock_row m ≡ (if not (can_write m (argument m 1) TIMESPEC_SIZE) then Answers (failure EFAULT) else Tells (argument m 1))
clock_of_two m h = passes (nat_le (argument m 0) 1) _ _ (grind (arith, nat_tests))

pub clock_denied : (m : Machine) → argument m 0 ≤ 1 → can_write m (argument m 1) TIMESPEC_SIZE ≡ false → clock_row m ≡ Answers (failure EFAULT)
clock_denied m h denied = clock_of_two m h ∙ fails (can_write m (argument m 1) TIMESPEC_SIZE) _ _ denied

pub clock_tells : (m : Machine) → argument m 0 ≤ 1 → can_write m (argument m 1) TIMESPEC_SIZE ≡ true → clock_row m ≡ Tells (argument m 1)
clock_tells m h allowed = clock_of_two m h ∙ passes (can_write m (argument m 1) TIMESPEC_SIZE) _ _ allowed

-- read
pub read_other : (m : Machine) → argument m 0 ≢ 0 → read_row m ≡ Answers (failure EBADF)
read_other m h = fails (argument m 0 == 0) _ _ (grind (arith, nat_tests))

read_input : (m : Machine) → argument m 0 ≡ 0
    → read_row m ≡ (if not (can_write m (argument m 1) (min (argument m 2) MOST_READ)) then Answers (failure EFAULT) else Takes (range (argument m 1) (min (argument m 2) MOST_READ) ∷ []))
read_input m h = passes (argument m 0 == 0) _ _ (grind (arith, nat_tests))

pub read_denied : (m : Machine) → argument m 0 ≡ 0 → can_write m (argument m 1) (min (argument m 2) MOST_READ) ≡ false → read_row m ≡ Answers (failure EFAULT)
read_denied m h denied = read_input m h ∙ fails (can_write m (argument m 1) (min (argument m 2) MOST_READ)) _ _ denied

pub read_takes : (m : Machine) → argument m 0 ≡ 0 → can_write m (argument m 1) (min (argument m 2) MOST_READ) ≡ true → read_row m ≡ Takes (range (argument m 1) (min (argument m 2) MOST_READ) ∷ [])
read_takes m h allowed = read_input m h ∙ passes (can_write m (argument m 1) (min (argument m 2) MOST_READ)) _ _ allowed

-- write
pub write_other : (m : Machine) → is_output (argument m 0) ≡ false → write_row m ≡ Answers (failure EBADF)
write_other m h = fails (is_output (argument m 0)) _ _ h

pub write_denied : (m : Machine) → is_output (argument m 0) ≡ true → can_read m (argument m 1) (argument m 2) ≡ false → write_row m ≡ Answers (failure EFAULT)
write_denied m h denied = passes (is_output (argument m 0)) _ _ h ∙ fails (can_read m (argument m 1) (argument m 2)) _ _ denied

pub write_sends : (m : Machine) → is_output (argument m 0) ≡ true → can_read m (argument m 1) (argument m 2) ≡ true
    → write_row m ≡ Sends (argument m 0) (bytes_at m.space.bytes (argument m 1) (argument m 2)) (argument m 2)
write_sends m h allowed = passes (is_output (argument m 0)) _ _ h ∙ passes (can_read m (argument m 1) (argument m 2)) _ _ allowed

-- readv, test by test
readv_last : Machine → Deed
readv_last m = if not (list_all (λ r. can_write m r.at r.size) (used_ranges (array_of m))) then Answers (failure EFAULT) else Takes (used_ranges (array_of m))

readv_array : Machine → Deed
readv_array m = if not (can_read_array m) then Answers (failure EFAULT) else readv_last m

pub readv_other : (m : Machine) → argument m 0 ≢ 0 → readv_row m ≡ Answers (failure EBADF)
readv_other m h = fails (argument m 0 == 0) _ _ (grind (arith, nat_tests))

readv_input : (m : Machine) → argument m 0 ≡ 0 → readv_row m ≡ (if nat_lt MOST_RANGES (argument m 2) then Answers (failure EINVAL) else readv_array m)
unfolding readv_array readv_last
readv_input m h = passes (argument m 0 == 0) _ _ (grind (arith, nat_tests))

pub readv_long : (m : Machine) → argument m 0 ≡ 0 → MOST_RANGES < argument m 2 → readv_row m ≡ Answers (failure EINVAL)
readv_long m h long = readv_input m h ∙ below (nat_lt MOST_RANGES (argument m 2)) _ _ (grind (arith, nat_tests))

readv_short : (m : Machine) → argument m 0 ≡ 0 → argument m 2 ≤ MOST_RANGES → readv_row m ≡ readv_array m
readv_short m h short = readv_input m h ∙ beyond (nat_lt MOST_RANGES (argument m 2)) _ _ (grind (arith, nat_tests))

pub readv_denied : (m : Machine) → argument m 0 ≡ 0 → argument m 2 ≤ MOST_RANGES → can_read_array m ≡ false → readv_row m ≡ Answers (failure EFAULT)
unfolding readv_array
readv_denied m h short denied = readv_short m h short ∙ fails (can_read_array m) _ _ denied

readv_named : (m : Machine) → argument m 0 ≡ 0 → argument m 2 ≤ MOST_RANGES → can_read_array m ≡ true → readv_row m ≡ readv_last m
unfolding readv_array
readv_named m h short allowed = readv_short m h short ∙ passes (can_read_array m) _ _ allowed

pub readv_unwritable : (m : Machine) → argument m 0 ≡ 0 → argument m 2 ≤ MOST_RANGES → can_read_array m ≡ true → list_all (λ r. can_write m r.at r.size) (used_ranges (array_of m)) ≡ false → readv_row m ≡ Answers (failure EFAULT)
unfolding readv_last
readv_unwritable m h short allowed denied = readv_named m h short allowed ∙ fails (list_all (λ r. can_write m r.at r.size) (used_ranges (array_of m))) _ _ denied

pub readv_takes : (m : Machine) → argument m 0 ≡ 0 → argument m 2 ≤ MOST_RANGES → can_read_array m ≡ true → list_all (λ r. can_write m r.at r.size) (used_ranges (array_of m)) ≡ true → readv_row m ≡ Takes (used_ranges (array_of m))
unfolding readv_last
readv_takes m h short allowed writable = readv_named m h short allowed ∙ passes (list_all (λ r. can_write m r.at r.size) (used_ranges (array_of m))) _ _ writable

-- writev, test by test
writev_last : Machine → Deed
writev_last m =
    if not (list_all (λ r. can_read m r.at r.size) (array_of m)) then Answers (failure EFAULT)
    else Sends (argument m 0) (flat_map (range_bytes m) (array_of m)) (total_size (array_of m))

writev_sum : Machine → Deed
writev_sum m = if nat_lt MOST_SENT (total_size (array_of m)) then Answers (failure EINVAL) else writev_last m

writev_array : Machine → Deed
writev_array m = if not (can_read_array m) then Answers (failure EFAULT) else writev_sum m

pub writev_other : (m : Machine) → is_output (argument m 0) ≡ false → writev_row m ≡ Answers (failure EBADF)
writev_other m h = fails (is_output (argument m 0)) _ _ h

writev_output : (m : Machine) → is_output (argument m 0) ≡ true → writev_row m ≡ (if nat_lt MOST_RANGES (argument m 2) then Answers (failure EINVAL) else writev_array m)
unfolding writev_array writev_sum writev_last
writev_output m h = passes (is_output (argument m 0)) _ _ h

pub writev_long : (m : Machine) → is_output (argument m 0) ≡ true → MOST_RANGES < argument m 2 → writev_row m ≡ Answers (failure EINVAL)
writev_long m h long = writev_output m h ∙ below (nat_lt MOST_RANGES (argument m 2)) _ _ (grind (arith, nat_tests))

writev_short : (m : Machine) → is_output (argument m 0) ≡ true → argument m 2 ≤ MOST_RANGES → writev_row m ≡ writev_array m
writev_short m h short = writev_output m h ∙ beyond (nat_lt MOST_RANGES (argument m 2)) _ _ (grind (arith, nat_tests))

pub writev_denied : (m : Machine) → is_output (argument m 0) ≡ true → argument m 2 ≤ MOST_RANGES → can_read_array m ≡ false → writev_row m ≡ Answers (failure EFAULT)
unfolding writev_array
writev_denied m h short denied = writev_short m h short ∙ fails (can_read_array m) _ _ denied

writev_named : (m : Machine) → is_output (argument m 0) ≡ true → argument m 2 ≤ MOST_RANGES → can_read_array m ≡ true → writev_row m ≡ writev_sum m
unfolding writev_array
writev_named m h short allowed = writev_short m h short ∙ passes (can_read_array m) _ _ allowed

pub writev_large : (m : Machine) → is_output (argument m 0) ≡ true → argument m 2 ≤ MOST_RANGES → can_read_array m ≡ true → MOST_SENT < total_size (array_of m) → writev_row m ≡ Answers (failure EINVAL)
unfolding writev_sum
writev_large m h short allowed large = writev_named m h short allowed ∙ below (nat_lt MOST_SENT (total_size (array_of m))) _ _ (grind (arith, nat_tests))

writev_small : (m : Machine) → is_output (argument m 0) ≡ true → argument m 2 ≤ MOST_RANGES → can_read_array m ≡ true → total_size (array_of m) ≤ MOST_SENT → writev_row m ≡ writev_last m
unfolding writev_sum
writev_small m h short allowed small = writev_named m h short allowed ∙ beyond (nat_lt MOST_SENT (total_size (array_of m))) _ _ (grind (arith, nat_tests))

pub writev_unreadable : (m : Machine) → is_output (argument m 0) ≡ true → argument m 2 ≤ MOST_RANGES → can_read_array m ≡ true → total_size (array_of m) ≤ MOST_SENT → list_all (λ r. can_read m r.at r.size) (array_of m) ≡ false
    → writev_row m ≡ Answers (failure EFAULT)
unfolding writev_last
writev_unreadable m h short allowed small denied = writev_small m h short allowed small ∙ fails (list_all (λ r. can_read m r.at r.size) (array_of m)) _ _ denied

pub writev_sends : (m : Machine) → is_output (argument m 0) ≡ true → argument m 2 ≤ MOST_RANGES → can_read_array m ≡ true → total_size (array_of m) ≤ MOST_SENT → list_all (λ r. can_read m r.at r.size) (array_of m) ≡ true
    → writev_row m ≡ Sends (argument m 0) (flat_map (range_bytes m) (array_of m)) (total_size (array_of m))
unfolding writev_last
writev_sends m h short allowed small readable = writev_small m h short allowed small ∙ passes (list_all (λ r. can_read m r.at r.size) (array_of m)) _ _ readable

-- the ranges that a call of a row may store in are those of its step
pub written_is : (m : Machine) (call : SystemCall) → effect_of m ≡ Call → call_numbered (call_number m) ≡ Some call → written_by m ≡ storable (row_of call m)
unfolding written_by
written_is m call calls is = ap (written_with m) calls ∙ ap storable_by (deed_is m call is)
