use Rattle.std.proofs.Common.{◌≡◌, ◌+◌, ◌++◌, length, replicate, vec_capacity}
use Rattle.slot_table.specs.declared.slot.Slot.TheVariants.{Unchanged}
use Rattle.slot_table.proofs.table.add_leaf.Given as goal

abbrev pub invariant-loop-index : goal.invariant-loop-index
invariant-loop-index l = record {
  items : l.leaves.items ≡ l.initial.leaves.items ++ replicate l._index Unchanged;
  len : length l.leaves.items ≡ length l.initial.leaves.items + l._index;
  capacity : vec_capacity l.leaves ≡ vec_capacity l.initial.leaves;
}
