-- A run before its first step, and what of it does not depend on the master's standing.
use Rattle.std.proofs.Common.{◌≡◌, ℕ, ◌+◌, ◌-◌, ◌/◌, ◌≤◌, Bool, false, [], refl, sym, ap, subst, arith}
use Rattle.std.specs.Prelude.{Option, None, Some, Result, Ok, Err, IfOk}
use Rattle.std.specs.Option.{option_map}
use Rattle.sp_host.specs.Told.{Told}
use Rattle.guest_model.specs.Call.{World}
use Rattle.guest_model.specs.Machine.{Machine}
use Rattle.guest_model.specs.Runs.{Running}
use Rattle.guest_model.specs.Serial.{Position, sent_at, step_of}
use Rattle.guest_model.proofs.Runs.{after-zero, along-zero}
use Rattle.syscall_layer.specs.Serve.{told_after}
use Rattle.boundary_verify.specs.Cuts.{granted_among}
use Rattle.master_run.specs.Answers.{HasAnswered, PacerState}
use Rattle.master_run.specs.Master.{HasRunTo, MasterState, Standing, start_at}
use Rattle.master_run.specs.Turn.{HandsOut, HandsOutOfRun, IsMetWithin}
use Rattle.master_run.specs.declared.limits.Limits.{Limits}
use Rattle.master_run.specs.declared.master.Turn.{Turn}
use Rattle.master_run.specs.declared.master.Turn.TheVariants as turns
use Rattle.syscall_layer.specs.declared.fault.RunFault.{RunFault}
use Rattle.syscall_layer.specs.declared.fault.RunFault.TheVariants as faults

zero_more : (k : ℕ) → k ≡ 0 + k
zero_more k = omega arith

none_taken : (o : Option (ℕ → Bool)) → o ≡ option_map (λ told k. told (0 + k)) o
none_taken None = refl
none_taken (Some told) = ap Some (λ i k. ap told (zero_more k) i)

pub not_asked : (answers : ℕ → Bool) (first : PacerState) → HasAnswered answers 0 first first
unfolding granted_among
not_asked answers first = record {
  period = refl;
  asked = λ room. omega arith;
  granted = λ room. omega arith;
  as_told = λ told is k positive within. absurd (omega (arith, positive, within));
  left = none_taken first.answers;
}

none_of : (n : ℕ) → 1 ≤ n → 0 / n ≡ 0
none_of n some = omega arith

pub begins : (t : Told) (w : World) (first : PacerState) (m now : Machine) (limits : Limits) → now ≡ m → 1 ≤ limits.poll
    → HasRunTo t (record { machine = m; world = w; calls = 0 }) first (start_at now limits) (told_after t w []) first
begins t w first m now limits same some =
    let p : Position = record { machine = m; world = w; calls = 0 } in record {
      position = p;
      stands = after-zero step_of (Running p);
      machine = sym same;
      calls = refl;
      told_is = ap (told_after t w) (sym (along-zero step_of sent_at (Running p)));
      answers = λ k. false;
      answered = subst (λ (n : ℕ). HasAnswered (λ k. false) n first first) (sym (none_of limits.poll some)) (not_asked (λ k. false) first);
      cuts = refl;
    }

pub standing_free : (t : Told) (p : Position) (first : PacerState) (m : MasterState) (s : Standing) (told : Told) (now : PacerState) → HasRunTo t p first m told now → HasRunTo t p first (record m { standing = s }) told now
standing_free t p first m s told now h = record {
  position = h.position;
  stands = h.stands;
  machine = h.machine;
  calls = h.calls;
  told_is = h.told_is;
  answers = h.answers;
  answered = h.answered;
  cuts = h.cuts;
}

pub hands_free : (t : Told) (p : Position) (first : PacerState) (old : MasterState) (s : Standing) (r : Result Turn RunFault) (new : MasterState) (told : Told) (now : PacerState)
    → HandsOutOfRun t p first (record old { standing = s }) r new told now → HandsOutOfRun t p first old r new told now
hands_free t p first old s (Ok (turns.Job job)) new told now h = h
hands_free t p first old s (Ok (turns.Last job end)) new told now h = h
hands_free t p first old s (Err (faults.Unsupported number pc)) new told now h = h
hands_free t p first old s (Err (faults.BudgetSpent n)) new told now h = h
hands_free t p first old s (Err faults.InputFault) new told now h = h
hands_free t p first old s (Err (faults.OutputFault port)) new told now h = h
hands_free t p first old s (Err faults.NoMemory) new told now h = h

-- a job that ends at a cut meets its boundary there
met_within : (old new : MasterState) (turn : Turn) → HandsOut old turn new → IsMetWithin (new.position - old.position) turn
met_within old new (turns.Job job) h = λ s exact. exact.least (new.position - old.position) h.starts.lasts.begun h.starts.lasts.met
met_within old new (turns.Last job end) h = tt

pub met_soon : (old new : MasterState) (r : Result Turn RunFault) → IfOk r (λ turn. HandsOut old turn new) → IfOk r (IsMetWithin (new.position - old.position))
met_soon old new (Ok turn) h = met_within old new turn h
met_soon old new (Err fault) h = tt
