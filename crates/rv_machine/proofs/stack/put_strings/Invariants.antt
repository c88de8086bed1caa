use Rattle.std.proofs.Common.{◌≡◌, ◌++◌, take, map, string_bytes}
use Rattle.std.specs.List.{flat_map}
use Rattle.rv_machine.specs.Load.{with_zero}
use Rattle.rv_machine.proofs.stack.put_strings.Given as goal

-- the strings so far are put
abbrev pub invariant-loop-arg : goal.invariant-loop-arg
invariant-loop-arg l = l.bytes.items ≡ l.initial.bytes.items ++ flat_map with_zero (map string_bytes (take l.arg-index l.args))
