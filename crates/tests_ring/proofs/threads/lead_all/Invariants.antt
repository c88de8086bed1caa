use Rattle.std.proofs.Common.{◌≡◌, ◌≤◌}
use Rattle.slice_ring.specs.Seats.{IsOf, IsOpen, published_by, merged_by}
use Rattle.tests_ring.proofs.threads.lead_all.Given as goal

abbrev pub invariant-loop-turn : goal.invariant-loop-turn
invariant-loop-turn g l = IsOf l.fn.ring l.lead × IsOpen l.lead × (merged_by l.lead ≤ published_by l.lead) × (published_by l.lead ≤ l.count)
