use Rattle.std.proofs.Common.{◌≡◌, ◌+◌, ◌∷◌, length, take, map, string_bytes}
use Rattle.rv_machine.specs.Load.{addresses, strings_size}
use Rattle.rv_machine.proofs.stack.stack_words.Given as goal

-- argc and the addresses of the strings so far, behind which the next one begins
abbrev pub invariant-loop-arg : goal.invariant-loop-arg
invariant-loop-arg l = record {
  behind : l.at ≡ l.strings + strings_size (take l.arg-index (map string_bytes l.args));
  pushed : l.words.items ≡ length l.args ∷ addresses l.strings (take l.arg-index (map string_bytes l.args));
}
