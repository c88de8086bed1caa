use Rattle.guest_mem.proofs.Taken.{few_frames_of}
use Rattle.guest_mem.proofs.laws.frames_of_bytes.Goals as goal

pub returns : goal.returns
returns c = few_frames_of
