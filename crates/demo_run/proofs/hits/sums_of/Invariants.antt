use Rattle.std.proofs.Common.{◌≡◌, ℕ, ◌*◌, ◌^◌, ◌≤◌, List, take}
use Rattle.std.specs.List.{sum_by}
use Rattle.ordered_merge.specs.declared.merger.SliceLine.{SliceLine}
use Rattle.demo_run.specs.declared.hits.Sums.{Sums}
use Rattle.demo_run.proofs.hits.sums_of.Given as goal

-- the sum over the first lines, each of whose counts is below 2^64
pub record IsSum (count : SliceLine → ℕ) (lines : List SliceLine) (i sum : ℕ) : Type 0 where
  pub is : sum ≡ sum_by count (take i lines)
  pub few : sum ≤ i * 2 ^ 64

pub record AreSums (lines : List SliceLine) (i : ℕ) (sums : Sums) : Type 0 where
  pub quick : IsSum (λ line. line.hits.quick) lines i sums.quick
  pub registers : IsSum (λ line. line.hits.registers) lines i sums.registers
  pub stack : IsSum (λ line. line.hits.stack) lines i sums.stack
  pub whole : IsSum (λ line. line.hits.whole) lines i sums.whole

abbrev pub invariant-loop-line : goal.invariant-loop-line
invariant-loop-line l = AreSums l.lines l.line-index l.sums
