use Rattle.std.proofs.Common.{length, arith, inl, inr}
use Rattle.std.proofs.lemmas.Bool.{cases_lt}
use Rattle.std.proofs.lemmas.List.{get_or_past}
use Rattle.std.proofs.lemmas.Grind.{common_steps}
use Rattle.slot_table.proofs.table.clear_entries.Goals as goal

pub returns-clause-zero : goal.returns-clause-zero
returns-clause-zero c = λ k. elim (cases_lt k (length c.args.directory.now.items)) [
  | inl lt ↦ grind (arith, common_steps, c.loop-i.invariant.zero k)
  | inr ge ↦ get_or_past c.loop-i.directory.items k 0 (grind (arith, common_steps))
]
