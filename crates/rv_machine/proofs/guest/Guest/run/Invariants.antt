use Rattle.std.proofs.Common.{◌≡◌}
use Rattle.rv_machine.proofs.Running.{SoFar}
use Rattle.rv_machine.proofs.guest.Guest.run.Given as goal

abbrev pub invariant-loop-completed : goal.invariant-loop-completed
invariant-loop-completed l = record {
  so_far : SoFar l.pages l.initial.self l.self l.completed;
  pc : l.pc ≡ l.self.machine.pc;
}
