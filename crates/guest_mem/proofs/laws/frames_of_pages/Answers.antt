use Rattle.guest_mem.proofs.Taken.{few_frames}
use Rattle.guest_mem.proofs.laws.frames_of_pages.Goals as goal

pub returns : goal.returns
returns c = few_frames
