use Rattle.std.proofs.Common.{◌≡◌, ◌+◌}
use Rattle.prog_gen.specs.File.{Adds}
use Rattle.prog_gen.specs.Demo.{calls}
use Rattle.prog_gen.proofs.demo.push_calls.Given as goal

abbrev pub invariant-loop-k : goal.invariant-loop-k
invariant-loop-k l = record {
  made : l.draws.made ≡ 32 + l.k;
  seed : l.draws.seed ≡ l.initial.draws.seed;
  added : Adds (calls l.initial.draws.seed l.k) l.initial.bytes.items l.bytes.items;
}
