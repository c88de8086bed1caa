-- What one step of a serial run is, and what the play makes of it: the one place that looks into effects and calls.
use Rattle.std.proofs.Common.{◌≡◌, ◌+◌, [], ◌∷◌, refl, ap}
use Rattle.std.specs.Prelude.{None, Some}
use Rattle.call_record.specs.Record.{CallRecord}
use Rattle.guest_model.specs.Call.{World, Called, Went, Exits, call_of}
use Rattle.guest_model.specs.Call as calls
use Rattle.guest_model.specs.Effect.{Effect, Next, Call, Fault, effect_of}
use Rattle.guest_model.specs.Machine.{Machine}
use Rattle.guest_model.specs.Runs.{Running, Ended}
use Rattle.guest_model.specs.Serial.{Position, End, Exit, Signal, Unsupported, step_of, entry_at}
use Rattle.guest_model.specs.Play.{Halt, Faulted, Unrecorded, Script, entry_for, play_step, spot, spot_of}
use Rattle.guest_model.proofs.Calls.{played_is}
use Rattle.guest_model.proofs.Runs.{running_same}

pub data Kind (p : Position) : Type 0 where
  -- an instruction completed
  quiet : (m : Machine) → step_of p ≡ Running (record p { machine = m }) → entry_at p ≡ [] → ((script : Script) → play_step script (spot_of p) ≡ Running (spot m p.calls)) → Kind p
  -- a call went on
  called : (m : Machine) (w : World) (entry : CallRecord) → step_of p ≡ Running (record { machine = m; world = w; calls = p.calls + 1 }) → entry_at p ≡ entry ∷ []
      → ((script : Script) → entry_for script p.calls ≡ Some entry → play_step script (spot_of p) ≡ Running (spot m (p.calls + 1))) → Kind p
  -- the run ended
  over : (end : End) → step_of p ≡ Ended p end → entry_at p ≡ []
      → ((script : Script) → entry_for script p.calls ≡ None → (halt : Halt) × (play_step script (spot_of p) ≡ Ended (spot_of p) halt)) → Kind p

kind_by_call : (p : Position) → effect_of p.machine ≡ Call → (c : Called) → call_of p.machine p.world ≡ c → Kind p
unfolding step_of entry_at play_step
kind_by_call p is (Went m w entry sent) h =
    called m w entry (rw (is, h) refl) (rw (is, h) refl)
    (λ script found. rw (is, found) (ap (λ (next : Machine). Running (spot next (p.calls + 1))) (rw (played_is p.machine m p.world w entry sent h) refl)))
kind_by_call p is (Exits status) h = over (Exit status) (rw (is, h) refl) (rw (is, h) refl) (λ script none. (Unrecorded, rw (is, none) refl))
kind_by_call p is (calls.Unsupported number) h =
    over (Unsupported number p.machine.pc) (rw (is, h) refl) (rw (is, h) refl) (λ script none. (Unrecorded, rw (is, none) refl))

kind_by : (p : Position) (e : Effect) → effect_of p.machine ≡ e → Kind p
unfolding step_of entry_at play_step
kind_by p (Next m stored) h = quiet m (rw h refl) (rw h refl) (λ script. rw h refl)
kind_by p Call h = kind_by_call p h (call_of p.machine p.world) refl
kind_by p (Fault kind) h = over (Signal kind p.machine.pc) (rw h refl) (rw h refl) (λ script none. (Faulted kind, rw h refl))

pub kind_of : (p : Position) → Kind p
kind_of p = kind_by p (effect_of p.machine) refl

-- what the step from p to q is
pub data Onward (p q : Position) : Type 0 where
  by_machine : entry_at p ≡ [] → q.world ≡ p.world → q.calls ≡ p.calls → ((script : Script) → play_step script (spot_of p) ≡ Running (spot_of q)) → Onward p q
  by_call : (entry : CallRecord) → entry_at p ≡ entry ∷ [] → q.calls ≡ p.calls + 1 → ((script : Script) → entry_for script p.calls ≡ Some entry → play_step script (spot_of p) ≡ Running (spot_of q)) → Onward p q

pub onward : (p q : Position) → step_of p ≡ Running q → Onward p q
onward p q h = go (kind_of p)
  where
    go : Kind p → Onward p q
    go (quiet m s e played) = let same : q ≡ record p { machine = m } = running_same (step_of p) q _ h s in rw same (by_machine e refl refl played)
    go (called m w entry s e played) = let same : q ≡ record { machine = m; world = w; calls = p.calls + 1 } = running_same (step_of p) q _ h s in rw same (by_call entry e refl played)
    go (over end s e played) = cc

-- a step that ends the run leaves the position and no record, and ends a play that has no record left
pub record Stops (p last : Position) : Type 0 where
  pub stays : last ≡ p
  pub no_entry : entry_at p ≡ []
  pub halts : (script : Script) → entry_for script p.calls ≡ None → (halt : Halt) × (play_step script (spot_of p) ≡ Ended (spot_of p) halt)

pub stops : (p last : Position) (end : End) → step_of p ≡ Ended last end → Stops p last
stops p last end h = go (kind_of p)
  where
    go : Kind p → Stops p last
    go (quiet m s e played) = cc
    go (called m w entry s e played) = cc
    go (over other s e played) = record { stays = cc; no_entry = e; halts = played }
