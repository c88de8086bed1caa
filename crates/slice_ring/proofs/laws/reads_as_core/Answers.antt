use Rattle.slice_ring.proofs.Readings.{sound, slices}
use Rattle.slice_ring.proofs.laws.reads_as_core.Goals as goal

pub returns-clause-sound : goal.returns-clause-sound
returns-clause-sound g c = sound g.J.Numbered.ticket g.R.Numbered.ticket

pub returns-clause-slices : goal.returns-clause-slices
returns-clause-slices g c = slices g.J.Numbered.ticket g.R.Numbered.ticket
