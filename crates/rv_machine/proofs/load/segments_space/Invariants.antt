use Rattle.std.proofs.Common.{◌≡◌}
use Rattle.guest_mem.specs.Memory.{free_frames}
use Rattle.rv_machine.proofs.Segments.{space_of}
use Rattle.rv_machine.proofs.load.segments_space.Given as goal

-- the segments so far
abbrev pub invariant-loop-segment : goal.invariant-loop-segment
invariant-loop-segment l = record {
  space_is : l.memory.space ≡ space_of l.image.segments l.segment-index;
  free : l.memory.frames ≡ free_frames l.frames;
}
