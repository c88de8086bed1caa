-- A byte takes at most one frame.
use Rattle.std.proofs.Common.{inr, arith}
use Rattle.guest_mem.proofs.Ranges.{frames_for_all-one}
use Rattle.guest_mem.proofs.Taken.{few_frames_of}
use Rattle.pages_bench.proofs.spaces.put.Goals as goal

pub put-requires-clause-frames : goal.put-requires-clause-frames
put-requires-clause-frames c =
    let framed = c.args.space.now.frames.framed in
    inr (omega (arith, frames_for_all-one framed c.args.at 1, few_frames_of framed c.args.at 1))
