use Rattle.std.proofs.Common.{◌+◌, ap, ◌∙◌}
use Rattle.std.specs.List.{range_with_len}
use Rattle.guest_model.specs.Serial.{trace_of}
use Rattle.tool_law.specs.Events.{step_events}
use Rattle.weave_core.specs.Events.{events_of, merged_slices}
use Rattle.weave_core.specs.Moves.{empty}
use Rattle.live_run.proofs.Orders.{in_order}
use Rattle.live_run.proofs.laws.every_interleaving.Goals as goal

pub returns : goal.returns
returns g c = λ tool views p t end cuts pieces limit moves locals first last ends order are few allowed closed all each value merges.
    in_order (g.T.Tool.is_local tool) (g.T.Tool.is_value tool) (step_events (g.T.Tool.calls_of tool) views) locals pieces (trace_of (t + 1) p) (merged_slices (events_of (empty limit) moves)) first last
    (c.pieces_join.ensures p t end cuts pieces ends order are) (c.merged_in_order.ensures limit moves allowed ∙ ap (range_with_len 0) (c.closed_is_over.ensures.merged limit moves allowed closed ∙ all)) each few value merges
