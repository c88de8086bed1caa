-- Blocks fit into the user's memory.
use Rattle.std.proofs.Common.{◌≡◌, ◌+◌, ◌≤◌, ◌<◌, ◌^◌, ◌∙◌, ℕ, zero, suc, Bool, true, false, arith, refl, sym, if◌then◌else◌}
use Rattle.std.specs.Prelude.{Option, None, Some}
use Rattle.std.specs.Option.{option_map}
use Rattle.ins_views.specs.declared.views.Block.{Block}
use Rattle.rv_isa.specs.Kinds.{ends_block}
use Rattle.rv_isa.specs.Table.{Fields}
use Rattle.ins_views.specs.Views.{ViewFields, IsViews, ins_at}
use Rattle.ins_views.specs.Blocks.{block_at, block_length, count_from, most_words, run_length}
use Rattle.ins_views.proofs.Blocks.{block_by_block, run_none}

count_from_le : (o : Option Fields) (rest n : ℕ) → rest ≤ n → count_from o rest ≤ n + 1
count_from_le None rest n h = omega arith
count_from_le (Some i) rest n h = go (ends_block i.op)
  where
    go : (t : Bool) → (if t then 1 else suc rest) ≤ n + 1
    go true = omega arith
    go false = omega arith

run_le : (v : ViewFields) (n pc : ℕ) → run_length v n pc ≤ n
unfolding run_length
run_le v zero pc = omega arith
run_le v (suc n) pc = let h = count_from_le (ins_at v pc) (run_length v n (pc + 4)) n (run_le v n (pc + 4)) in omega arith

pub block_fits : (v : ViewFields) (pc : ℕ) → block_length v pc + 1 < 2 ^ 32
unfolding most_words
block_fits v pc = omega (arith, run_le v most_words pc)

pub block_none : (v : ViewFields) (pc : ℕ) → ins_at v pc ≡ None → block_length v pc ≡ 0
block_none v pc e = run_none v most_words pc e

-- where no block is, its length is 0
pub block_absent : (v : ViewFields) (pc : ℕ) → block_at v pc ≡ None → 0 ≡ block_length v pc
block_absent v pc e = go (ins_at v pc) refl e
  where
    block : Fields → Block
    block _ = record { head = pc; len = block_length v pc }

    go : (o : Option Fields) → ins_at v pc ≡ o → option_map block o ≡ None → 0 ≡ block_length v pc
    go None f g = sym (block_none v pc f)
    go (Some i) f g = cc

-- a block's length, by that of the block behind its first instruction
pub block_some : (v : ViewFields) (pc len rest : ℕ) (i : Fields) (t : Bool) → IsViews v → ins_at v pc ≡ Some i → t ≡ ends_block i.op → rest ≡ block_length v (pc + 4)
    → len ≡ (if t then 1 else rest + 1) → len ≡ block_length v pc
block_some v pc len rest i t h e f g k = k ∙ go t f ∙ sym (block_by_block v pc i h e)
  where
    go : (t : Bool) → t ≡ ends_block i.op → (if t then 1 else rest + 1) ≡ (if ends_block i.op then 1 else block_length v (pc + 4) + 1)
    go true f = rw (← f) refl
    go false f = rw (← f, g) refl
