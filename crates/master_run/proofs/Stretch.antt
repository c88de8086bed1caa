-- Instructions that a guest makes at once, as steps of a run and of a play.
use Rattle.std.proofs.Common.{◌≡◌, ◌⊎◌, inl, inr, ℕ, zero, suc, ◌+◌, ◌<◌, ◌≤◌, List, [], ◌++◌, refl, sym, ap, subst, ◌∙◌, add-zero, arith, append_assoc}
use Rattle.std.proofs.lemmas.List.{append-nil}
use Rattle.std.proofs.lemmas.Bool.{cases_lt}
use Rattle.guest_model.specs.Effect.{Effect, Next, Call, Fault, effect_of, stored_by}
use Rattle.guest_model.specs.Machine.{Machine}
use Rattle.guest_model.specs.Play.{Halt, Script, Spot, play_of, play_step, play_by, spot, written_at, written_in_play}
use Rattle.guest_model.specs.Range.{Range}
use Rattle.guest_model.specs.Runs.{RunState, Running, Ended, after, along, here}
use Rattle.guest_model.specs.Serial.{Position, entry_at, entry_by, sent_at, sent_by, step_by, step_of}
use Rattle.guest_model.proofs.Runs.{after-next, after-zero, along-next, along-zero, last_step, running_same}
use Rattle.rv_machine.specs.Ran.{machine_after, state_by, state_of}
use Rattle.boundary_verify.specs.Cuts.{writes_at, writes_by}
use Rattle.boundary_verify.specs.Job.{FitsAt}
use Rattle.boundary_verify.proofs.Along.{along-one}

-- a step that leads on is an instruction that completed
pub record IsInstruction (m next : Machine) : Type 0 where
  pub stored : List Range
  pub effect : effect_of m ≡ Next next stored

instruction_by : (m next : Machine) (e : Effect) → effect_of m ≡ e → state_by m e ≡ Running next → IsInstruction m next
instruction_by m next (Next other stored) is leads = record { stored = stored; effect = is ∙ ap (λ (k : Machine). Next k stored) (running_same (state_by m (Next other stored)) other next refl leads) }
instruction_by m next Call is leads = let no = leads in cc
instruction_by m next (Fault kind) is leads = let no = leads in cc

pub instruction : (m next : Machine) → state_of m ≡ Running next → IsInstruction m next
instruction m next leads = instruction_by m next (effect_of m) refl leads

-- a run of some kind of states with a machine in each, in which an instruction does what it does to the machine alone
module _ {S E A : Type 0} (step : S → RunState S E) (lift : S → Machine → S) (f : S → List A) (g : Machine → List A)
    (goes : (s : S) (m next : Machine) → IsInstruction m next → step (lift s m) ≡ Running (lift s next))
    (alike : (s : S) (m next : Machine) → IsInstruction m next → f (lift s m) ≡ g m) where
  -- where it leads, and what is said along it
  pub record Carries (x : RunState S E) (k n : ℕ) (s : S) (m next : Machine) : Type 0 where
    pub there : after step (k + n) x ≡ Running (lift s next)
    pub said : along step f (k + n) x ≡ along step f k x ++ along state_of g n (Running m)

  pub carries : (x : RunState S E) (k n : ℕ) (s : S) (m next : Machine) → after step k x ≡ Running (lift s m) → machine_after n m ≡ Running next → Carries x k n s m next
  carries x k zero s m next here leads =
      let same : m ≡ next = running_same (machine_after 0 m) m next (after-zero state_of (Running m)) leads in record {
        there = ap (λ (i : ℕ). after step i x) (add-zero k) ∙ here ∙ ap (λ (y : Machine). Running (lift s y)) same;
        said = ap (λ (i : ℕ). along step f i x) (add-zero k) ∙ sym (ap (λ (ys : List A). along step f k x ++ ys) (along-zero state_of g (Running m)) ∙ append-nil (along step f k x));
      }
  carries x k (suc n) s m next here leads =
      let l = last_step state_of n (Running m) next leads in
      let before : Carries x k n s m l.0 = carries x k n s m l.0 here l.1 in
      let one : IsInstruction l.0 next = instruction l.0 next l.2 in
      let more : k + suc n ≡ (k + n) + 1 = omega arith in record {
        there = ap (λ (i : ℕ). after step i x) more ∙ after-next step (k + n) x (lift s l.0) before.there ∙ goes s l.0 next one;
        said = ap (λ (i : ℕ). along step f i x) more
            ∙ along-next step f (k + n) x (lift s l.0) before.there
            ∙ ap (λ (ys : List A). along step f (k + n) x ++ ys) (alike s l.0 next one)
            ∙ ap (λ (ys : List A). ys ++ g l.0) before.said
            ∙ append_assoc (along step f k x) (along state_of g n (Running m)) (g l.0)
            ∙ ap (λ (ys : List A). along step f k x ++ ys) (sym (along-one state_of g n (Running m) l.0 l.1));
      }

-- nothing is said of any state
nothing_here : {A : Type 0} (g : Machine → List A) → ((m : Machine) → g m ≡ []) → (y : RunState Machine Effect) → here g y ≡ []
nothing_here g none (Running s) = none s
nothing_here g none (Ended s e) = refl

pub nothing_along : {A : Type 0} (g : Machine → List A) → ((m : Machine) → g m ≡ []) → (n : ℕ) (y : RunState Machine Effect) → along state_of g n y ≡ []
unfolding along
nothing_along g none zero y = refl
nothing_along g none (suc n) y = rw (nothing_along g none n y) (nothing_here g none (after state_of n y))

-- the run
abbrev pub at_machine : Position → Machine → Position
at_machine q m = record q { machine = m }

pub run_goes : (q : Position) (m next : Machine) → IsInstruction m next → step_of (at_machine q m) ≡ Running (at_machine q next)
unfolding step_of
run_goes q m next i = ap (step_by (at_machine q m)) i.effect

pub run_sends : (q : Position) (m next : Machine) → IsInstruction m next → sent_at (at_machine q m) ≡ []
unfolding sent_at
run_sends q m next i = ap (sent_by (at_machine q m)) i.effect

pub run_records : (q : Position) (m next : Machine) → IsInstruction m next → entry_at (at_machine q m) ≡ []
unfolding entry_at
run_records q m next i = ap (entry_by (at_machine q m)) i.effect

pub run_writes : (q : Position) (m next : Machine) → IsInstruction m next → writes_at (at_machine q m) ≡ stored_by (effect_of m)
unfolding writes_at
run_writes q m next i = ap (writes_by (at_machine q m)) i.effect ∙ sym (ap stored_by i.effect)

-- a play by a script
abbrev pub with_machine : Spot → Machine → Spot
with_machine s m = record s { machine = m }

pub play_goes : (script : Script) (s : Spot) (m next : Machine) → IsInstruction m next → play_step script (with_machine s m) ≡ Running (with_machine s next)
unfolding play_step
play_goes script s m next i = ap (play_by script (with_machine s m)) i.effect

pub play_writes : (script : Script) (s : Spot) (m next : Machine) → IsInstruction m next → written_at script (with_machine s m) ≡ stored_by (effect_of m)
unfolding written_at
play_writes script s m next i = ap (written_in_play script (with_machine s m)) i.effect ∙ sym (ap stored_by i.effect)

-- an instruction takes no record
pub fits_instruction : (script : Script) (calls : ℕ) (m next : Machine) → IsInstruction m next → FitsAt script (Running (spot m calls))
fits_instruction script calls m next i entry call found = let no = sym i.effect ∙ call in absurd (cc no)

fits_more : (script : Script) (start : Spot) (k n calls : ℕ) (m next : Machine) → play_of script (k + n) start ≡ Running (spot m calls) → IsInstruction m next
    → ((j : ℕ) → k ≤ j → j < k + n → FitsAt script (play_of script j start)) → (j : ℕ) → k ≤ j → j < k + suc n → FitsAt script (play_of script j start)
fits_more script start k n calls m next here one before j from below = by (cases_lt j (k + n))
  where
    by : (j < k + n) ⊎ (k + n ≤ j) → FitsAt script (play_of script j start)
    by (inl lt) = before j from lt
    by (inr le) =
        let same : j ≡ k + n = omega (arith, le, below) in
        subst (λ (x : RunState Spot Halt). FitsAt script x) (sym (ap (λ (i : ℕ). play_of script i start) same ∙ here)) (fits_instruction script calls m next one)

pub fits_along : (script : Script) (start : Spot) (k n calls : ℕ) (m next : Machine) → play_of script k start ≡ Running (spot m calls) → machine_after n m ≡ Running next
    → (j : ℕ) → k ≤ j → j < k + n → FitsAt script (play_of script j start)
fits_along script start k zero calls m next there leads = λ j from below. absurd (omega (arith, from, below))
fits_along script start k (suc n) calls m next there leads =
    let l = last_step state_of n (Running m) next leads in
    let before = carries (play_step script) with_machine (written_at script) (λ h. stored_by (effect_of h)) (play_goes script) (play_writes script) (Running start) k n (spot m calls) m l.0 there l.1 in
    fits_more script start k n calls l.0 next before.there (instruction l.0 next l.2) (fits_along script start k n calls m l.0 there l.1)
