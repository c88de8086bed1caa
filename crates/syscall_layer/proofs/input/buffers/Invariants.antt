use Rattle.std.proofs.Common.{◌≡◌, ◌==◌, map, take}
use Rattle.std.specs.Prelude.{filter, not}
use Rattle.syscall_layer.specs.Serve.{range_of}
use Rattle.syscall_layer.proofs.input.buffers.Given as goal

abbrev pub invariant-loop-range : goal.invariant-loop-range
invariant-loop-range l = map range_of l.writes.items ≡ filter (λ p. not (p.size == 0)) (take l.range-index l.ranges)
