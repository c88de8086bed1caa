use Rattle.std.proofs.Common.{◌≡◌, drop, map}
use Rattle.sp_words.specs.Split.{has_repeat}
use Rattle.sp_words.proofs.split.has_repeat.Given as goal

abbrev pub invariant-loop-at : goal.invariant-loop-at
invariant-loop-at l = has_repeat (map (λ n. n.now) l.names) ≡ has_repeat (map (λ n. n.now) (drop l.at l.names))
