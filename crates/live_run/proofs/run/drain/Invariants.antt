use Rattle.std.proofs.Common.{◌≡◌}
use Rattle.slice_ring.specs.Seats.{IsIdle, IsOf, IsOpen}
use Rattle.live_run.proofs.run.drain.Given as goal

abbrev pub invariant-loop-turn : goal.invariant-loop-turn
invariant-loop-turn g l = IsOf l.course.ring.now l.lead × IsOpen l.lead × IsIdle l.course.ring.now l.mine × (l.lead.view.lead.tags ≡ l.fn.lead.view.lead.tags) × (l.lead.view.retired ≡ l.fn.lead.view.retired)
