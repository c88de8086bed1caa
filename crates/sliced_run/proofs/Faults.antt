-- A run that ends, and one that stops, where its master stands.
use Rattle.std.proofs.Common.{◌≡◌, ℕ, ◌+◌, ◌-◌, ◌<◌, [], sym, ap, subst, ◌∙◌, inl, arith}
use Rattle.std.specs.Prelude.{Result, Err}
use Rattle.sp_host.specs.Told.{Told}
use Rattle.guest_model.specs.Runs.{Running}
use Rattle.guest_model.specs.Serial.{Position, Unsupported, position_at, run_of, sent_at, sent_of, step_of}
use Rattle.guest_model.specs.Serial as serial
use Rattle.guest_model.proofs.Runs.{after-zero, along-zero, along_stays, over_later}
use Rattle.master_run.specs.Answers.{PacerState}
use Rattle.master_run.specs.Master.{MasterState}
use Rattle.master_run.specs.Turn.{HandsOutOfRun, RunIsOver}
use Rattle.serial_run.specs.Run.{EndsAt}
use Rattle.syscall_layer.specs.Serve.{told_after}
use Rattle.syscall_layer.specs.declared.fault.RunFault.{RunFault}
use Rattle.syscall_layer.specs.declared.fault.RunFault.TheVariants as faults
use Rattle.sliced_run.specs.Sliced.{SlicedFail}
use Rattle.sliced_run.specs.Turns.{StopsWithin}

-- a run that ends within its budget
pub ends_within : (t : Told) (p : Position) (first : PacerState) (end : serial.End) (m : MasterState) (told : Told) (now : PacerState) (budget : ℕ) → RunIsOver t p first end m told now → m.position < budget
    → EndsAt t (record { start = p; budget = budget }) (position_at m.position p) end told
ends_within t p first end m told now budget h within =
    let whole : m.position + 1 + (budget - (m.position + 1)) ≡ budget = omega (arith, within) in
    record {
      stands = over_later step_of (m.position + 1) budget (Running p) (position_at m.position p) end (omega (arith, within)) h.ends.over;
      told_is = h.told_is
          ∙ ap (told_after t (position_at m.position p).world)
          (sym (ap (λ (n : ℕ). sent_of n p) (sym whole) ∙ along_stays step_of sent_at (m.position + 1) (budget - (m.position + 1)) (Running p) (position_at m.position p) end h.ends.over));
    }

-- a fault of the master
pub fails : (t : Told) (p : Position) (first : PacerState) (old new : MasterState) (fault : RunFault) (told : Told) (now : PacerState) (budget : ℕ) → HandsOutOfRun t p first old (Err fault) new told now → StopsWithin (Err fault) new
    → new.limits.budget ≡ budget → SlicedFail t (record { start = p; budget = budget }) fault told
fails t p first old new (faults.Unsupported number pc) told now budget h within same =
    (position_at new.position p, ends_within t p first (Unsupported number pc) new told now budget h (omega (arith, within, same)))
fails t p first old new (faults.BudgetSpent n) told now budget h within same =
    let at : new.position ≡ budget = h.whole ∙ same in (
      h.position,
      subst (λ (k : ℕ). run_of k p ≡ Running h.position) at h.stands,
      h.budget ∙ same,
      h.told_is ∙ ap (λ (k : ℕ). told_after t h.position.world (sent_of k p)) at,
    )
fails t p first old new faults.InputFault told now budget h within same =
    record { steps = new.position; within = omega (arith, h.within, same); position = h.position; stands = h.stands; holds = h.holds }
fails t p first old new (faults.OutputFault port) told now budget h within same =
    record { steps = new.position; within = omega (arith, h.within, same); position = h.position; stands = h.stands; holds = h.holds }
fails t p first old new faults.NoMemory told now budget h within same =
    inl (record { steps = new.position; within = omega (arith, h.within, same); position = h.position; stands = h.stands; told_is = h.told_is })

-- want of memory before the first step
pub lacks_at_start : (t : Told) (p : Position) (told : Told) (budget : ℕ) → told ≡ told_after t p.world [] → SlicedFail t (record { start = p; budget = budget }) faults.NoMemory told
lacks_at_start t p told budget is = inl (record {
  steps = 0;
  within = omega arith;
  position = p;
  stands = after-zero step_of (Running p);
  told_is = is ∙ ap (told_after t p.world) (sym (along-zero step_of sent_at (Running p)));
})
