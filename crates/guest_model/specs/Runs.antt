-- Runs of a step function, whatever its states and ends are.
use Rattle.std.specs.Prelude.{◌≡◌, ℕ, zero, suc, List, [], ◌∷◌, ◌++◌}

-- where a run stands: at a state from which it goes on, or ended at its last state
pub data RunState (S E : Type 0) : Type 0 where
  Running : (state : S) → RunState S E
  Ended : (last : S) (end : E) → RunState S E

-- one step more: a run that ended stays as it is
abbrev pub advance : {S E : Type 0} → (S → RunState S E) → RunState S E → RunState S E
advance step (Running s) = step s
advance step (Ended s e) = Ended s e

-- where a run stands after n steps were tried, or at its end where that came earlier
unfoldable pub after : {S E : Type 0} → (S → RunState S E) → ℕ → RunState S E → RunState S E
after step zero x = x
after step (suc n) x = advance step (after step n x)

-- what f says of the state from which a run goes on
abbrev pub here : {S E A : Type 0} → (S → List A) → RunState S E → List A
here f (Running s) = f s
here f (Ended s e) = []

-- what f says of each step that was tried, in order: f speaks of the state before the step
unfoldable pub along : {S E A : Type 0} → (S → RunState S E) → (S → List A) → ℕ → RunState S E → List A
along step f zero x = []
along step f (suc n) x = along step f n x ++ here f (after step n x)

-- the state at which a run stands, or its last one
abbrev pub state_of : {S E : Type 0} → RunState S E → S
state_of (Running s) = s
state_of (Ended s e) = s

abbrev pub IsRunning : {S E : Type 0} → RunState S E → Type 0
IsRunning {S} {E} x = (s : S) × (x ≡ Running s)

abbrev pub IsEnded : {S E : Type 0} → RunState S E → Type 0
IsEnded {S} {E} x = (last : S) × (end : E) × (x ≡ Ended last end)

-- the state to which a step led
abbrev pub landed : {S E : Type 0} → RunState S E → List S
landed (Running s) = s ∷ []
landed (Ended s e) = []

-- the states after 1, 2, .. n steps, so far as the run goes on
abbrev pub reached : {S E : Type 0} → (S → RunState S E) → ℕ → RunState S E → List S
reached step n x = along step (λ s. landed (step s)) n x
