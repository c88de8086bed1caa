-- A run with a tool that words ask for, and how it is sliced.
use Rattle.std.specs.Prelude.{◌≡◌, ℕ, ◌/◌, ◌<◌, Bool, List, [], ◌∷◌, map}
use Rattle.guest_model.specs.Serial.{End, EndsAt, Position, TraceItem}
use Rattle.boundary_verify.specs.Cuts.{AreCuts, CutLimits}
use Rattle.boundary_verify.specs.Lines.{AreLines}
use Rattle.master_run.specs.Answers.{HasAnswered, PacerState}
use Rattle.ordered_merge.specs.declared.merger.SliceLine.{SliceLine}
use Rattle.serial_run.specs.Run.{whole_line}
use Rattle.serial_run.specs.Start.{Run as Steps}
use Rattle.sliced_run.specs.Sliced.{line_by}
use Rattle.sp_words.specs.declared.asked.By.{By}
use Rattle.sp_words.specs.declared.asked.By.TheVariants.{Serial, Windows}

-- what a tool means: the text of what it counts of a trace, and whether it may take memory for an event
pub record ToolMeaning : Type 0 where
  pub text : List TraceItem → List ℕ
  pub grows : Bool

pub record Run : Type 0 where
  pub tool : ToolMeaning
  -- the position at which it begins, and the most steps
  pub start : Position
  pub budget : ℕ
  pub by : By
  -- what makes its cuts due, and the period of its pacer in milliseconds
  pub limits : CutLimits
  pub msec : ℕ
  -- whether the lines of its slices are reported
  pub slices : Bool

-- its steps
abbrev pub steps_of : Run → Steps
steps_of r = record { start = r.start; budget = r.budget }

-- how a run is sliced: the positions at which it is cut, and a line for each slice
pub record Slicing : Type 0 where
  pub cuts : List ℕ
  pub lines : List SliceLine

-- A serial run is not cut, and its one line has the instructions that were tried and the calls that went on, and four zeros. Another
-- is sliced as it is answered.
abbrev pub slicing_of : By → List TraceItem → Position → Slicing → Slicing
slicing_of Serial items last answered = record { cuts = []; lines = whole_line items last ∷ [] }
slicing_of Windows items last answered = answered

-- The run came to its end, and these are the cuts that the pacer's answers and the limits make due, and no other, with the line of
-- each slice. The pacer, which showed the first state before the run, was given the period and then asked once at each poll.
pub record IsSliced (r : Run) (first now : PacerState) (s : Slicing) : Type 0 where
  -- the last position
  pub last : ℕ
  pub within : last < r.budget
  pub end : End
  pub ends : EndsAt r.start last end
  pub answers : ℕ → Bool
  pub answered : HasAnswered answers (last / r.limits.poll) (record first { period = r.msec }) now
  pub cuts : AreCuts r.limits answers r.start last s.cuts
  pub lines : AreLines r.start last 0 s.cuts (map line_by s.lines)

-- a serial run asks no pacer, and its slicing is its own
abbrev pub IsSlicedBy : By → Run → PacerState → PacerState → Slicing → Type 0
IsSlicedBy Serial r first now s = now ≡ first
IsSlicedBy Windows r first now s = IsSliced r first now s
