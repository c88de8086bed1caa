use Rattle.std.proofs.Common.{◌≡◌, ◌∷◌, ◌++◌, map, string_bytes}
use Rattle.superpin_top.proofs.words.strings_of.Given as goal

abbrev pub invariant-loop-word : goal.invariant-loop-word
invariant-loop-word l = map string_bytes l.strings.items ++ map string_bytes l.word-iterator.rest.items ≡ l.fn.file ∷ l.fn.args
