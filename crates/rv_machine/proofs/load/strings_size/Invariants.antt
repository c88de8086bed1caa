use Rattle.std.proofs.Common.{◌≡◌, ◌-◌, ◌^◌, min, take, map, string_bytes}
use Rattle.rv_machine.specs.Load.{strings_size}
use Rattle.rv_machine.proofs.load.strings_size.Given as goal

-- the bytes of the strings so far
abbrev pub invariant-loop-arg : goal.invariant-loop-arg
invariant-loop-arg l = l.bytes ≡ min (strings_size (take l.arg-index (map string_bytes l.args))) (2 ^ 64 - 1)
