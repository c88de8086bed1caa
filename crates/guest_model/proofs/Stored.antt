-- An instruction stores nothing, or at most four bytes, where it may.
use Rattle.std.proofs.Common.{◌≡◌, ℕ, ◌%◌, ◌==◌, ◌≤◌, ◌⊎◌, Bool, true, false, cond, List, [], ◌∷◌, refl, subst, inl, inr, arith}
use Rattle.std.specs.Prelude.{Option, Some, None}
use Rattle.rv_isa.specs.Decoded.{decoded}
use Rattle.rv_isa.specs.Kinds.{is_taken, mem_size}
use Rattle.rv_isa.specs.Table.{Fields}
use Rattle.rv_isa.specs.declared.op.Op.{Op}
use Rattle.rv_isa.specs.declared.op.Op.TheVariants.{Lui, Auipc, Jal, Jalr, Beq, Bne, Blt, Bge, Bltu, Bgeu, Lb, Lbu, Lh, Lhu, Lw, Sb, Sh, Sw, Fence, Ecall, Ebreak, LrW, ScW, AmoswapW, AmoaddW, AmoxorW, AmoandW, AmoorW, AmominW, AmomaxW, AmominuW, AmomaxuW}
use Rattle.guest_model.specs.Effect.{Effect, Next, Call, Fault, rs1_value, rs2_value, address, target, goes_on, passes, writes_some, branches, loads, loads_some, stores, stores_some, reserves_some, swaps, swaps_into, swaps_some, stores_conditionally, stores_reserved, conditional_some, machine_at, machine_with, misaligned, effect_by, effect_of, effect_of_instruction, effect_of_word}
use Rattle.guest_model.specs.Machine.{Machine, following, is_reserved}
use Rattle.guest_model.specs.Range.{Range, range}
use Rattle.guest_model.specs.Space.{Space, read_number, write_number}
use Rattle.guest_model.specs.Areas.{all_permitted}
use Rattle.guest_model.specs.declared.Access.TheVariants.{Read, Write, Execute}

-- nothing, or one range of at most four bytes, each of which may be written
abbrev pub IsSmall : Machine → List Range → Type 0
IsSmall m stored = (stored ≡ []) ⊎ ((r : Range) × (r.size ≤ 4) × (stored ≡ r ∷ []) × (all_permitted Write m.space.areas r.at r.size ≡ true))

abbrev StoresLittle : Machine → Effect → Type 0
StoresLittle m (Next next stored) = IsSmall m stored
StoresLittle m Call = Unit {0}
StoresLittle m (Fault kind) = Unit {0}

little_size : (op : Op) → mem_size op ≤ 4
little_size Lb = omega arith
little_size Lbu = omega arith
little_size Sb = omega arith
little_size Lh = omega arith
little_size Lhu = omega arith
little_size Sh = omega arith
little_size Lw = omega arith
little_size Sw = omega arith
little_size LrW = omega arith
little_size ScW = omega arith
little_size AmoswapW = omega arith
little_size AmoaddW = omega arith
little_size AmoxorW = omega arith
little_size AmoandW = omega arith
little_size AmoorW = omega arith
little_size AmominW = omega arith
little_size AmomaxW = omega arith
little_size AmominuW = omega arith
little_size AmomaxuW = omega arith
little_size _ = omega arith

computed : (m : Machine) (i : Fields) (o : Option ℕ) → StoresLittle m (writes_some m i o)
computed m i None = inl refl
computed m i (Some value) = inl refl

jumped : (m : Machine) (i : Fields) (to : ℕ) (b : Bool) → StoresLittle m (cond b (goes_on (machine_with m i (following m) to)) (Fault misaligned))
jumped m i to true = inl refl
jumped m i to false = tt

branched : (m : Machine) (i : Fields) (b c : Bool) → StoresLittle m (cond b (cond c (goes_on (machine_at m i (target m i))) (Fault misaligned)) (passes m i))
branched m i true true = inl refl
branched m i true false = tt
branched m i false c = inl refl

loaded : (m : Machine) (i : Fields) (o : Option ℕ) → StoresLittle m (loads_some m i o)
loaded m i None = tt
loaded m i (Some n) = inl refl

stored : (m : Machine) (i : Fields) (s : Space) (may : Bool) → all_permitted Write m.space.areas (address m i) (mem_size i.op) ≡ may → StoresLittle m (stores_some m i (cond may (Some s) None))
stored m i s true may = inr (range (address m i) (mem_size i.op), little_size i.op, refl, may)
stored m i s false may = tt

by_branch : (m : Machine) (i : Fields) → StoresLittle m (branches m i)
by_branch m i = branched m i (is_taken i.op (rs1_value m i) (rs2_value m i)) (target m i % 4 == 0)

by_load : (m : Machine) (i : Fields) → StoresLittle m (loads m i)
by_load m i = loaded m i (read_number Read m.space (address m i) (mem_size i.op))

by_store : (m : Machine) (i : Fields) → StoresLittle m (stores m i)
unfolding write_number
by_store m i = stored m i _ (all_permitted Write m.space.areas (address m i) (mem_size i.op)) refl

-- an atomic
is_aligned : (m : Machine) (e : Effect) (b : Bool) → StoresLittle m e → StoresLittle m (cond b e (Fault misaligned))
is_aligned m e true little = little
is_aligned m e false little = tt

reserved : (m : Machine) (i : Fields) (o : Option ℕ) → StoresLittle m (reserves_some m i o)
reserved m i None = tt
reserved m i (Some v) = inl refl

swapped : (m : Machine) (i : Fields) (v : ℕ) (s : Space) (may : Bool) → all_permitted Write m.space.areas (address m i) 4 ≡ may → StoresLittle m (swaps_into m i v (cond may (Some s) None))
swapped m i v s true may = inr (range (address m i) 4, omega arith, refl, may)
swapped m i v s false may = tt

by_swap_some : (m : Machine) (i : Fields) (o : Option ℕ) → StoresLittle m (swaps_some m i o)
unfolding write_number
by_swap_some m i None = tt
by_swap_some m i (Some v) = swapped m i v _ (all_permitted Write m.space.areas (address m i) 4) refl

by_swap : (m : Machine) (i : Fields) → StoresLittle m (swaps m i)
by_swap m i = by_swap_some m i (read_number Read m.space (address m i) 4)

stored_reserved : (m : Machine) (i : Fields) (s : Space) (is may : Bool) → all_permitted Write m.space.areas (address m i) 4 ≡ may → StoresLittle m (stores_reserved m i is (cond may (Some s) None))
stored_reserved m i s true true may = inr (range (address m i) 4, omega arith, refl, may)
stored_reserved m i s false true may = inl refl
stored_reserved m i s is false may = tt

by_condition_some : (m : Machine) (i : Fields) (o : Option ℕ) → StoresLittle m (conditional_some m i o)
unfolding write_number
by_condition_some m i None = tt
by_condition_some m i (Some v) = stored_reserved m i _ (is_reserved m.reservation (address m i)) (all_permitted Write m.space.areas (address m i) 4) refl

by_condition : (m : Machine) (i : Fields) → StoresLittle m (stores_conditionally m i)
by_condition m i = by_condition_some m i (read_number Read m.space (address m i) 4)

by_row : (op : Op) (m : Machine) (i : Fields) → StoresLittle m (effect_by op m i)
by_row Lui m i = inl refl
by_row Auipc m i = inl refl
by_row Jal m i = jumped m i _ _
by_row Jalr m i = jumped m i _ _
by_row Beq m i = by_branch m i
by_row Bne m i = by_branch m i
by_row Blt m i = by_branch m i
by_row Bge m i = by_branch m i
by_row Bltu m i = by_branch m i
by_row Bgeu m i = by_branch m i
by_row Lb m i = by_load m i
by_row Lh m i = by_load m i
by_row Lw m i = by_load m i
by_row Lbu m i = by_load m i
by_row Lhu m i = by_load m i
by_row Sb m i = by_store m i
by_row Sh m i = by_store m i
by_row Sw m i = by_store m i
by_row Fence m i = inl refl
by_row Ecall m i = tt
by_row Ebreak m i = tt
by_row LrW m i = is_aligned m _ _ (reserved m i (read_number Read m.space (address m i) 4))
by_row ScW m i = is_aligned m _ _ (by_condition m i)
by_row AmoswapW m i = is_aligned m _ _ (by_swap m i)
by_row AmoaddW m i = is_aligned m _ _ (by_swap m i)
by_row AmoxorW m i = is_aligned m _ _ (by_swap m i)
by_row AmoandW m i = is_aligned m _ _ (by_swap m i)
by_row AmoorW m i = is_aligned m _ _ (by_swap m i)
by_row AmominW m i = is_aligned m _ _ (by_swap m i)
by_row AmomaxW m i = is_aligned m _ _ (by_swap m i)
by_row AmominuW m i = is_aligned m _ _ (by_swap m i)
by_row AmomaxuW m i = is_aligned m _ _ (by_swap m i)
by_row _ m i = computed m i _

by_instruction : (m : Machine) (i : Option Fields) → StoresLittle m (effect_of_instruction m i)
by_instruction m None = tt
by_instruction m (Some i) = by_row i.op m i

by_word : (m : Machine) (word : Option ℕ) → StoresLittle m (effect_of_word m word)
by_word m None = tt
by_word m (Some word) = by_instruction m (decoded word)

by_effect : (m : Machine) → StoresLittle m (effect_of m)
unfolding effect_of
by_effect m = by_word m (read_number Execute m.space m.pc 4)

pub stored_is_small : (m next : Machine) (stored : List Range) → effect_of m ≡ Next next stored → IsSmall m stored
stored_is_small m next ranges is = subst (StoresLittle m) is (by_effect m)
