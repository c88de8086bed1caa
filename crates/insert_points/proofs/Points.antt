-- The calls at the three points are all calls.
use Rattle.std.proofs.Common.{◌≡◌, ◌+◌, ◌≤◌, ℕ, List, [], ◌∷◌, length, arith, refl}
use Rattle.std.specs.Prelude.{Option}
use Rattle.std.proofs.lemmas.List.{length-map}
use Rattle.rv_isa.specs.declared.op.Op.{Op}
use Rattle.insert_points.specs.Calls.{calls_at}
use Rattle.insert_points.specs.Planned.{plan_call, plan_calls}
use Rattle.insert_points.specs.declared.call.Call.{Call}
use Rattle.insert_points.specs.declared.call.Point.{Point}
use Rattle.insert_points.specs.declared.call.Point.TheVariants.{Before, After, Taken}

abbrev count_at : Point → List Call → ℕ
count_at point calls = length (calls_at point calls)

all_points : (calls : List Call) → count_at Before calls + count_at After calls + count_at Taken calls ≡ length calls
all_points [] = refl
all_points (call ∷ calls) = go call.at refl (all_points calls)
  where
    go : (at : Point) → call.at ≡ at → count_at Before calls + count_at After calls + count_at Taken calls ≡ length calls
        → count_at Before (call ∷ calls) + count_at After (call ∷ calls) + count_at Taken (call ∷ calls) ≡ length (call ∷ calls)
    go Before e rest = rw e (omega (arith, rest))
    go After e rest = rw e (omega (arith, rest))
    go Taken e rest = rw e (omega (arith, rest))

pub length-plan_calls : (op : Option Op) (point : Point) (calls : List Call) → length (plan_calls op point calls) ≡ count_at point calls
unfolding plan_calls
length-plan_calls op point calls = length-map (calls_at point calls) (plan_call op)

pub planned_points : (op : Option Op) (calls : List Call) → length (plan_calls op Before calls) + length (plan_calls op After calls) + length (plan_calls op Taken calls) ≡ length calls
planned_points op calls =
    rw (length-plan_calls op Before calls, length-plan_calls op After calls, length-plan_calls op Taken calls) (all_points calls)

-- those at `Before` are not more than all
pub planned_before : (op : Option Op) (calls : List Call) → length (plan_calls op Before calls) ≤ length calls
planned_before op calls = omega (arith, planned_points op calls)
