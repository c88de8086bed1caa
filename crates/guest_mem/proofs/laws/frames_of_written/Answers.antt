use Rattle.guest_mem.proofs.Peak.{peak_suffices}
use Rattle.guest_mem.proofs.laws.frames_of_written.Goals as goal

pub returns : goal.returns
returns c = peak_suffices
