use Rattle.std.proofs.Common.{◌≡◌, ◌+◌, ◌*◌}
use Rattle.prog_gen.specs.File.{Adds}
use Rattle.prog_gen.specs.Demo.{functions}
use Rattle.prog_gen.proofs.demo.push_functions.Given as goal

abbrev pub invariant-loop-f : goal.invariant-loop-f
invariant-loop-f l = record {
  made : l.draws.made ≡ 36 + 8 * l.f;
  seed : l.draws.seed ≡ l.initial.draws.seed;
  added : Adds (functions l.initial.draws.seed l.f) l.initial.bytes.items l.bytes.items;
}
