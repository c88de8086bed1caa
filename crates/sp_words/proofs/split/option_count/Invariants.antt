use Rattle.std.proofs.Common.{◌≡◌, ◌+◌, drop, false, map, string_bytes}
use Rattle.sp_words.specs.Split.{option_count}
use Rattle.sp_words.proofs.split.option_count.Given as goal

abbrev pub invariant-loop-at : goal.invariant-loop-at
invariant-loop-at l = option_count false (map string_bytes l.words) ≡ l.at + option_count l.is_value (map string_bytes (drop l.at l.words))
