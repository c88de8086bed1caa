-- Several steps of a machine, of which none needs the world outside.
use Rattle.std.specs.Prelude.{◌≡◌, ℕ, ◌+◌, ◌<◌, ◌≤◌, ◌⊎◌, List}
use Rattle.guest_model.specs.Effect.{Effect, Next, Call, Fault, effect_of, stored_by}
use Rattle.guest_model.specs.Machine.{Machine}
use Rattle.guest_model.specs.Range.{Range}
use Rattle.guest_model.specs.Runs.{RunState, Running, Ended, after, along}
use Rattle.guest_model.specs.declared.platform.TheConstants.{MOST_PAGES}
use Rattle.cow_pages.specs.Marks.{count_marked}
use Rattle.guest_mem.specs.Frames.{Frames, TakesFrames, marked_for_all}
use Rattle.rv_machine.specs.Guest.{GuestState}
use Rattle.rv_machine.specs.Step.{kind_number}
use Rattle.rv_machine.specs.declared.step.Ran.{Ran}
use Rattle.rv_machine.specs.declared.step.Stepped.{Stepped}
use Rattle.rv_machine.specs.declared.step.Stepped.TheVariants as answers

-- where a step leads: a call and a fault end the run
abbrev pub state_by : Machine → Effect → RunState Machine Effect
state_by m (Next next stored) = Running next
state_by m Call = Ended m Call
state_by m (Fault kind) = Ended m (Fault kind)

abbrev pub state_of : Machine → RunState Machine Effect
state_of m = state_by m (effect_of m)

-- where n steps lead
abbrev pub machine_after : ℕ → Machine → RunState Machine Effect
machine_after n m = after state_of n (Running m)

-- the ranges that they store in, in order
abbrev pub stored_along : ℕ → Machine → List Range
stored_along n m = along state_of (λ here. stored_by (effect_of here)) n (Running m)

-- how many pages count as written after n steps
abbrev pub written_after : ℕ → GuestState → ℕ
written_after n g = count_marked (marked_for_all g.frames.written (stored_along n g.machine))

-- Steps lack no frame while no more pages than that are written: there is a frame for each page that can be mapped, or two
-- more than that, and no more are written yet
abbrev pub HasFramesFor : ℕ → Frames → Type 0
HasFramesFor pages f = (MOST_PAGES ≤ f.count) ⊎ ((count_marked f.written ≤ pages) × (pages + 2 ≤ f.count))

-- why no more steps were made: all are made, or more pages are written; or the next one is a call, or faults
abbrev pub Stops : Stepped → ℕ → ℕ → ℕ → GuestState → Type 0
Stops answers.Next completed steps pages g = (completed ≡ steps) ⊎ (pages < count_marked g.frames.written)
Stops answers.Call completed steps pages g = (completed < steps) × (effect_of g.machine ≡ Call)
Stops (answers.Fault kind) completed steps pages g = (completed < steps) × (effect_of g.machine ≡ Fault (kind_number kind))

-- how many steps were tried: a call and a fault were, and did not complete
abbrev pub tried : Stepped → ℕ → ℕ
tried answers.Next completed = completed
tried answers.Call completed = completed + 1
tried (answers.Fault kind) completed = completed + 1

-- a guest ran for at most so many steps, up to the first after which more pages than that are written
pub record HasRun (steps pages : ℕ) (old new : GuestState) (ran : Ran) : Type 0 where
  pub machine : machine_after ran.completed old.machine ≡ Running new.machine
  pub frames : TakesFrames old.frames new.frames (stored_along ran.completed old.machine)
  pub origin : new.origin ≡ old.origin
  pub within : ran.completed ≤ steps
  -- no more pages than that are written after each step behind which another one was tried
  pub few : (k : ℕ) → 0 < k → k < tried ran.last ran.completed → written_after k old ≤ pages
  pub stops : Stops ran.last ran.completed steps pages new
