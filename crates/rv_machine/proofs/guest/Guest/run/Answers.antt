use Rattle.std.proofs.Common.{◌+◌, ◌≤◌, refl, ap, subst, inr, arith}
use Rattle.cow_pages.specs.Marks.{count_marked}
use Rattle.rv_machine.specs.Guest.{GuestState}
use Rattle.rv_machine.proofs.Running.{begins, goes_on, has_for_step, one_more}
use Rattle.rv_machine.proofs.guest.Guest.run.Goals as goal

pub loop-completed-init : goal.loop-completed-init
loop-completed-init c = record {
  so_far =
      begins c.args.pages c.args.self.now c.requires
      (subst (λ (g : GuestState). g.frames.count ≤ g.frames.free + count_marked g.frames.written) c.self.view_is (omega (arith, c.written-written.ensures.enough, c.written-written.ensures.written)));
  pc = ap (λ (g : GuestState). g.machine.pc) c.self.view_is;
}

pub step_of_run-requires-clause-frames : goal.step_of_run-requires-clause-frames
step_of_run-requires-clause-frames c = has_for_step c.args.pages c.loop-completed.self.frames c.loop-completed.self.machine c.loop-completed.invariant.so_far.room

pub returns-then-written-pages : goal.returns-then-written-pages
returns-then-written-pages c =
    let more = one_more c.args.pages c.args.self.now c.loop-completed.self c.step_of_run.new.self c.loop-completed.completed c.loop-completed.invariant.so_far c.in-Next.ensures.gives in
    let same = ap (λ (h : GuestState). count_marked h.frames.written) c.self-in-loop-completed.view_is in
    record {
      machine = more.machine;
      frames = more.frames;
      origin = more.origin;
      within = omega arith;
      few = λ k some le. c.loop-completed.invariant.so_far.few k some (omega (arith, le));
      stops = inr (omega (arith, c.if-written-pages.true, c.written.ensures.written, same));
    }

pub loop-completed-preserved : goal.loop-completed-preserved
loop-completed-preserved c =
    let more = one_more c.args.pages c.args.self.now c.loop-completed.self c.step_of_run.new.self c.loop-completed.completed c.loop-completed.invariant.so_far c.in-Next.ensures.gives in
    let same = ap (λ (h : GuestState). count_marked h.frames.written) c.self-in-loop-completed.view_is in
    record {
      so_far =
          goes_on c.args.pages c.args.self.now c.loop-completed.self c.step_of_run.new.self c.loop-completed.completed c.loop-completed.invariant.so_far more c.in-Next.ensures.gives.1.0.count
          (subst (λ (h : GuestState). h.frames.count ≤ h.frames.free + count_marked h.frames.written) c.self-in-loop-completed.view_is (omega (arith, c.written.ensures.enough, c.written.ensures.written)))
          (omega (arith, c.if-written-pages.false, c.written.ensures.written, same));
      pc = c.in-Next.ensures.pc refl;
    }
