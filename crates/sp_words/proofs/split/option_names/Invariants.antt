use Rattle.std.proofs.Common.{◌≡◌, ◌++◌, drop, false, map, string_bytes}
use Rattle.sp_words.specs.Split.{names_of}
use Rattle.sp_words.proofs.split.option_names.Given as goal

abbrev pub invariant-loop-word : goal.invariant-loop-word
invariant-loop-word l =
    names_of false (map string_bytes l.words) ≡ map (λ n. n.now) l.names.items ++ names_of l.is_value (map string_bytes (drop l.word-index l.words))
