-- What is called at each address, by a tool's calls for each thing.
use Rattle.std.specs.Prelude.{◌≡◌, ◌⊎◌, ℕ, ◌==◌, List, [], Option, None, Some}
use Rattle.std.specs.List.{position_from}
use Rattle.rv_isa.specs.Table.{Fields}
use Rattle.ins_views.specs.Blocks.{block_at}
use Rattle.ins_views.specs.Views.{ViewFields, ins_at}
use Rattle.ins_views.specs.declared.views.Block.{Block}
use Rattle.insert_points.specs.Events.{Called}
use Rattle.insert_points.specs.Plan.{nothing_called, with_calls}
use Rattle.insert_points.specs.Planned.{plan_calls}
use Rattle.insert_points.specs.declared.call.Call.{Call}
use Rattle.insert_points.specs.declared.call.Point.{Point}
use Rattle.insert_points.specs.declared.call.Point.TheVariants.{Before, After, Taken}
use Rattle.insert_points.specs.declared.call.Thing.{Thing}
use Rattle.insert_points.specs.declared.call.Thing.TheVariants as things
use Rattle.insert_points.specs.declared.planned.PlannedCall.{PlannedCall}

-- the number of the routine that starts at an address
abbrev pub routine_starting : ViewFields → ℕ → Option ℕ
routine_starting views a = position_from (λ f. f.start == a) 0 views.routines

-- the calls of the routine that starts at an address, of the block at its head, and of the instruction, where there is one.
-- Those of a routine or a block that are not at Before are passed by
abbrev pub routine_calls : (Thing → List Call) → ℕ → Option ℕ → List PlannedCall
routine_calls calls a None = []
routine_calls calls a (Some k) = plan_calls None Before (calls (things.Routine a k))

abbrev pub block_calls : (Thing → List Call) → Option Block → List PlannedCall
block_calls calls None = []
block_calls calls (Some block) = plan_calls None Before (calls (things.Block block))

abbrev pub instruction_calls : (Thing → List Call) → Point → ℕ → Option Fields → List PlannedCall
instruction_calls calls point a None = []
instruction_calls calls point a (Some i) = plan_calls (Some i.op) point (calls (things.Ins a i))

-- what is called at an address: each address at which an instruction stands is offered as an instruction and as a block's
-- head, and each routine at its start
unfoldable pub called_of : (Thing → List Call) → ViewFields → ℕ → Called
called_of calls views a = record {
  routine = routine_calls calls a (routine_starting views a);
  block = block_calls calls (block_at views a);
  before = instruction_calls calls Before a (ins_at views a);
  after = instruction_calls calls After a (ins_at views a);
  taken = instruction_calls calls Taken a (ins_at views a);
}

-- the same without routines
unfoldable pub code_called : (Thing → List Call) → ViewFields → ℕ → Called
code_called calls views a = record (called_of calls views a) { routine = [] }

-- what is called at an address once the instruction there, if one stands there, was offered, and the block that it begins
abbrev pub called_offered : (Thing → List Call) → ℕ → Option Fields → ℕ → Called → Called
called_offered calls a None len called = called
called_offered calls a (Some i) len called =
    let block = things.Block (record { head = a; len = len }) in
    with_calls block (calls block) (with_calls (things.Ins a i) (calls (things.Ins a i)) called)

-- the code at an address was not offered yet, or it was
abbrev pub IsOpen : (Thing → List Call) → ViewFields → ℕ → Called → Type 0
IsOpen calls views a called = (called ≡ nothing_called) ⊎ (called ≡ code_called calls views a)
