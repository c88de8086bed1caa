-- The frames that a step takes.
use Rattle.std.proofs.Common.{◌≡◌, ℕ, ◌+◌, ◌%◌, ◌^◌, ◌<◌, ◌==◌, true, false, [], ◌∷◌, refl, ap, sym, subst, ◌∙◌, arith}
use Rattle.std.proofs.lemmas.Bool.Decides.{nat_tests}
use Rattle.std.specs.Prelude.{Option, Some, None, nat_le}
use Rattle.std.specs.Option.{option_and_then, option_map, unwrap_or}
use Rattle.rv_isa.specs.Decoded.{decoded}
use Rattle.rv_isa.specs.Kinds.{ends_block, mem_size}
use Rattle.rv_isa.specs.Table.{Fields}
use Rattle.guest_model.specs.Areas.{all_permitted, is_range_permitted}
use Rattle.guest_model.specs.Effect.{Next, address, effect_by, effect_of, effect_of_instruction, effect_of_word, goes_on, rs2_value, stored_by, stores, aligned, reserves, swaps, stores_conditionally, stores_reserved, machine_reserving}
use Rattle.guest_model.specs.Machine.{Machine, following, instruction_at, is_reserved}
use Rattle.guest_model.specs.Range.{range}
use Rattle.guest_model.specs.Space.{Space, read_number, write_number}
use Rattle.guest_model.specs.declared.Access.TheVariants.{Execute, Read, Write}
use Rattle.guest_mem.specs.Code.{word_at}
use Rattle.guest_mem.specs.Frames.{HasAllFrames, TakesFrames}
use Rattle.rv_machine.specs.Guest.{GuestState}
use Rattle.rv_machine.specs.Step.{Gives}
use Rattle.rv_machine.specs.declared.step.FaultKind.TheVariants.{Access}
use Rattle.rv_machine.specs.declared.step.Stepped.TheVariants as stepped
use Rattle.guest_mem.proofs.Ranges.{takes_none}

-- a store that is permitted stores in its range
pub stored_where_permitted : (m : Machine) (i : Fields) → all_permitted Write m.space.areas (address m i) (mem_size i.op) ≡ true → stored_by (stores m i) ≡ range (address m i) (mem_size i.op) ∷ []
unfolding write_number
stored_where_permitted m i permitted = rw permitted refl

-- an instruction that stored nothing completed
pub completes : (old new : GuestState) (next : Machine) → new.machine ≡ next → new.frames ≡ old.frames → new.origin ≡ old.origin → Gives (goes_on next) stepped.Next old new
completes old new next is same origin = (ap (λ (m : Machine). Next m []) (sym is), (takes_none old.frames new.frames same, origin))

-- a store that is permitted
pub stores_at : (old new : GuestState) (i : Fields) (a n v : ℕ) (s : Space) → a ≡ address old.machine i → n ≡ mem_size i.op → v ≡ rs2_value old.machine i
    → write_number old.machine.space a n v ≡ Some s → new.machine ≡ record old.machine { pc = following old.machine; space = s; fresh = ends_block i.op }
    → TakesFrames old.frames new.frames (range a n ∷ []) → new.origin ≡ old.origin → Gives (stores old.machine i) stepped.Next old new
stores_at old new i a n v s at size value written is takes origin =
    let there : write_number old.machine.space (address old.machine i) (mem_size i.op) (rs2_value old.machine i) ≡ Some s =
    rw (← at, ← size, ← value) written in
    let ranges : range a n ∷ [] ≡ range (address old.machine i) (mem_size i.op) ∷ [] = cc in
    rw there (rw is refl, (subst (TakesFrames old.frames new.frames) ranges takes, origin))

found_by : (m : Machine) (fetched : Option ℕ) (i : Fields) → option_map decoded fetched ≡ Some (Some i) → effect_of_word m fetched ≡ effect_by i.op m i
found_by m None i known = absurd (cc)
found_by m (Some word) i known = ap (effect_of_instruction m) (ap (λ (o : Option (Option Fields)). unwrap_or o None) known)

-- the effect of an instruction that stands at pc
pub effect_found : (m : Machine) (i : Fields) → word_at m.space m.pc ≡ Some (Some i) → effect_of m ≡ effect_by i.op m i
unfolding effect_of
effect_found m i known = found_by m (read_number Execute m.space m.pc 4) i known

read_by : (m : Machine) (fetched : Option ℕ) (i : Fields) → option_and_then decoded fetched ≡ Some i → effect_of_word m fetched ≡ effect_by i.op m i
read_by m None i known = absurd (cc)
read_by m (Some word) i known = ap (effect_of_instruction m) known

-- the same by the instruction that was read
pub effect_read : (m : Machine) (i : Fields) → instruction_at m ≡ Some i → effect_of m ≡ effect_by i.op m i
unfolding effect_of
effect_read m i known = read_by m (read_number Execute m.space m.pc 4) i known

pub has_for_store : (g : GuestState) (i : Fields) (a n : ℕ) → a ≡ address g.machine i → n ≡ mem_size i.op → HasAllFrames g.frames (stored_by (stores g.machine i))
    → all_permitted Write g.machine.space.areas a n ≡ true → HasAllFrames g.frames (range a n ∷ [])
has_for_store g i a n at size has permitted =
    let here : all_permitted Write g.machine.space.areas (address g.machine i) (mem_size i.op) ≡ true = rw (← at, ← size) permitted in
    let ranges : stored_by (stores g.machine i) ≡ range a n ∷ [] = rw (at, size) (stored_where_permitted g.machine i here) in
    subst (HasAllFrames g.frames) ranges has

is_zero : (n : ℕ) → n ≡ 0 → (n == 0) ≡ true
is_zero n h = grind (arith, nat_tests)

-- lr.w where the word may be read
pub reserves_at : (old new : GuestState) (i : Fields) (a v : ℕ) → a ≡ address old.machine i → a % 4 ≡ 0 → read_number Read old.machine.space a 4 ≡ Some v
    → new.machine ≡ machine_reserving old.machine i v (Some a) → new.frames ≡ old.frames → new.origin ≡ old.origin → Gives (aligned old.machine i (reserves old.machine i)) stepped.Next old new
reserves_at old new i a v at even read is frames origin =
    let whole : (address old.machine i % 4 == 0) ≡ true = is_zero (address old.machine i % 4) (rw (← at) even) in
    let found : read_number Read old.machine.space (address old.machine i) 4 ≡ Some v = rw (← at) read in
    let machine : new.machine ≡ machine_reserving old.machine i v (Some (address old.machine i)) = rw (← at) is in
    rw (whole, found) (completes old new (machine_reserving old.machine i v (Some (address old.machine i))) machine frames origin)

-- an amo whose word may be read and written stores in it
swapped_where_permitted : (m : Machine) (i : Fields) (v : ℕ) → (address m i % 4 == 0) ≡ true → read_number Read m.space (address m i) 4 ≡ Some v → all_permitted Write m.space.areas (address m i) 4 ≡ true
    → stored_by (aligned m i (swaps m i)) ≡ range (address m i) 4 ∷ []
unfolding write_number
swapped_where_permitted m i v whole read permitted = rw (whole, read, permitted) refl

pub has_for_swap : (g : GuestState) (i : Fields) (a v : ℕ) → a ≡ address g.machine i → a % 4 ≡ 0 → read_number Read g.machine.space a 4 ≡ Some v
    → HasAllFrames g.frames (stored_by (aligned g.machine i (swaps g.machine i))) → all_permitted Write g.machine.space.areas a 4 ≡ true → HasAllFrames g.frames (range a 4 ∷ [])
has_for_swap g i a v at even read has permitted =
    let whole : (address g.machine i % 4 == 0) ≡ true = is_zero (address g.machine i % 4) (rw (← at) even) in
    let found : read_number Read g.machine.space (address g.machine i) 4 ≡ Some v = rw (← at) read in
    let here : all_permitted Write g.machine.space.areas (address g.machine i) 4 ≡ true = rw (← at) permitted in
    let ranges : stored_by (aligned g.machine i (swaps g.machine i)) ≡ range a 4 ∷ [] = swapped_where_permitted g.machine i v whole found here ∙ ap (λ (b : ℕ). range b 4 ∷ []) (sym at) in
    subst (HasAllFrames g.frames) ranges has

-- sc.w whose address is reserved, and whose word may be read and written, stores in it
conditional_where_permitted : (m : Machine) (i : Fields) (v : ℕ) → (address m i % 4 == 0) ≡ true → read_number Read m.space (address m i) 4 ≡ Some v → is_reserved m.reservation (address m i) ≡ true
    → all_permitted Write m.space.areas (address m i) 4 ≡ true → stored_by (aligned m i (stores_conditionally m i)) ≡ range (address m i) 4 ∷ []
unfolding write_number
conditional_where_permitted m i v whole read reserved permitted = rw (whole, read, reserved, permitted) refl

pub has_for_condition : (g : GuestState) (i : Fields) (a v : ℕ) → a ≡ address g.machine i → a % 4 ≡ 0 → read_number Read g.machine.space a 4 ≡ Some v → is_reserved g.machine.reservation a ≡ true
    → HasAllFrames g.frames (stored_by (aligned g.machine i (stores_conditionally g.machine i))) → all_permitted Write g.machine.space.areas a 4 ≡ true → HasAllFrames g.frames (range a 4 ∷ [])
has_for_condition g i a v at even read reserved has permitted =
    let whole : (address g.machine i % 4 == 0) ≡ true = is_zero (address g.machine i % 4) (rw (← at) even) in
    let found : read_number Read g.machine.space (address g.machine i) 4 ≡ Some v = rw (← at) read in
    let is : is_reserved g.machine.reservation (address g.machine i) ≡ true = rw (← at) reserved in
    let here : all_permitted Write g.machine.space.areas (address g.machine i) 4 ≡ true = rw (← at) permitted in
    let ranges : stored_by (aligned g.machine i (stores_conditionally g.machine i)) ≡ range a 4 ∷ [] = conditional_where_permitted g.machine i v whole found is here ∙ ap (λ (b : ℕ). range b 4 ∷ []) (sym at) in
    subst (HasAllFrames g.frames) ranges has

-- a word at a multiple of 4 does not pass 2^32
pub word_permitted : (m : Machine) (i : Fields) (a : ℕ) → a ≡ address m i → a % 4 ≡ 0 → is_range_permitted Write m.space.areas a 4 ≡ all_permitted Write m.space.areas a 4
unfolding is_range_permitted
word_permitted m i a at even =
    let fits : a < 2 ^ 32 = omega (arith, at) in
    let within : nat_le (a + 4) (2 ^ 32) ≡ true = grind (arith, nat_tests) in
    rw within refl

-- sc.w whose address is not reserved
pub fails_at : (old new : GuestState) (i : Fields) (a v : ℕ) → all_permitted Write old.machine.space.areas a 4 ≡ true → new.machine ≡ machine_reserving old.machine i 1 None → new.frames ≡ old.frames → new.origin ≡ old.origin
    → Gives (stores_reserved old.machine i false (write_number old.machine.space a 4 v)) stepped.Next old new
unfolding write_number
fails_at old new i a v permitted is frames origin = rw permitted (completes old new (machine_reserving old.machine i 1 None) is frames origin)

pub denied_at : (g : GuestState) (i : Fields) (a v : ℕ) → all_permitted Write g.machine.space.areas a 4 ≡ false → Gives (stores_reserved g.machine i false (write_number g.machine.space a 4 v)) (stepped.Fault Access) g g
unfolding write_number
denied_at g i a v denied = rw denied (refl, refl)
