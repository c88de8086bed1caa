use Rattle.std.proofs.Common.{◌≡◌, ◌+◌}
use Rattle.prog_gen.specs.File.{Adds}
use Rattle.prog_gen.specs.Demo.{drawn}
use Rattle.prog_gen.proofs.demo.push_drawn.Given as goal

abbrev pub invariant-loop : goal.invariant-loop
invariant-loop l = record {
  made : l.draws.made ≡ l.initial.draws.made + l.counter;
  seed : l.draws.seed ≡ l.initial.draws.seed;
  added : Adds (drawn l.initial.draws.seed (l.initial.draws.made + 1) l.counter) l.initial.bytes.items l.bytes.items;
}
