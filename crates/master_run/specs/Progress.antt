-- The run since the last cut.
use Rattle.std.specs.Prelude.{◌≡◌, ℕ, zero, suc, ◌+◌, ◌-◌, ◌/◌, ◌%◌, ◌^◌, ◌<◌, ◌≤◌, Bool, true, false, List, ◌++◌, length, Option, None, Some, Result, Ok, Err}
use Rattle.call_record.specs.Record.{CallRecord, size_of_records}
use Rattle.cow_pages.specs.Marks.{count_marked, unmarked}
use Rattle.sp_host.specs.Tally.{later_answers, tally_after}
use Rattle.sp_host.specs.Told.{Told, WhereTold}
use Rattle.guest_model.specs.Call.{Sent}
use Rattle.guest_model.specs.Effect.{Effect, effect_of}
use Rattle.guest_model.specs.Play.{Script, Spot, play_of, spot, written_of}
use Rattle.guest_model.specs.Runs.{Running}
use Rattle.guest_model.specs.Serial.{End as RunEnd, EndsAt, Position, Unsupported, entries_of, position_at, run_of, sent_at, sent_of}
use Rattle.guest_mem.specs.Frames.{marked_for_all}
use Rattle.rv_machine.specs.Guest.{GuestState}
use Rattle.rv_machine.specs.Ran.{HasRun}
use Rattle.rv_machine.specs.Step.{kind_number}
use Rattle.rv_machine.specs.declared.step.End.{End}
use Rattle.rv_machine.specs.declared.step.End.TheVariants.{Exit, Signal}
use Rattle.rv_machine.specs.declared.step.Stepped.{Stepped}
use Rattle.sp_report.specs.Lines.{end_by}
use Rattle.syscall_layer.specs.Serve.{PartWritten, told_after}
use Rattle.syscall_layer.specs.Step.{StopsInput}
use Rattle.syscall_layer.specs.declared.fault.RunFault.{RunFault}
use Rattle.syscall_layer.specs.declared.fault.RunFault.TheVariants as faults
use Rattle.boundary_verify.specs.Cuts.{CutLimits, HasNoCut, is_cut, is_full, writes_of}
use Rattle.boundary_verify.specs.Job.{FitsAt}
use Rattle.master_run.specs.Answers.{HasAnswered, PacerState}
use Rattle.master_run.specs.Master.{limits_of}
use Rattle.master_run.specs.declared.limits.Limits.{Limits}
use Rattle.master_run.specs.declared.progress.Progress.{Progress}

-- no rule that looks at the run makes a cut due, as its master counts
pub record IsBelow (limits : Limits) (l : Progress) : Type 0 where
  pub records : length l.log < limits.records
  pub bytes : size_of_records l.log < 4194304
  pub pages : count_marked l.guest.frames.written ≤ limits.frames - 32

-- what is so of each run that goes on
pub record IsOpen (limits : Limits) (l : Progress) : Type 0 where
  pub frames : l.guest.frames.count ≡ limits.frames
  pub within : l.position ≤ limits.budget
  pub calls : l.calls ≤ l.position
  pub asked : 0 < l.until_poll
  pub poll : (l.position + l.until_poll) % limits.poll ≡ 0
  pub soon : l.until_poll ≤ limits.poll

-- the play by this script is here after k steps, whose records fit, and which wrote the pages that the guest marks
pub record PlaysTo (script : Script) (start : Spot) (k : ℕ) (guest : GuestState) (calls : ℕ) : Type 0 where
  pub there : play_of script k start ≡ Running (spot guest.machine calls)
  pub fits : (j : ℕ) → j < k → FitsAt script (play_of script j start)
  pub written : guest.frames.written ≡ marked_for_all (unmarked (2 ^ 20)) (written_of script k start)

abbrev pub script_with : ℕ → List CallRecord → Script
script_with first entries = record { first = first; entries = entries }

-- the play by the records so far, whatever others come behind them
pub record PlaysFrom (start : Spot) (k : ℕ) (l : Progress) : Type 0 where
  pub plays : (more : List CallRecord) → PlaysTo (script_with start.calls (l.log ++ more)) start k l.guest l.calls
  pub count : l.calls ≡ start.calls + length l.log

-- the run from p, whose last cut is b, is here
pub record RunsTo (t : Told) (p : Position) (b : ℕ) (l : Progress) (told : Told) : Type 0 where
  pub position : Position
  pub stands : run_of l.position p ≡ Running position
  pub machine : position.machine ≡ l.guest.machine
  pub calls : position.calls ≡ l.calls
  pub told_is : told ≡ told_after t position.world (sent_of l.position p)
  pub entries : l.log ≡ entries_of (l.position - b) (position_at b p)
  pub marks : l.guest.frames.written ≡ marked_for_all (unmarked (2 ^ 20)) (writes_of (l.position - b) (position_at b p))

-- between these two positions no rule that looks at the run makes a cut due
abbrev pub IsQuiet : CutLimits → Position → ℕ → ℕ → ℕ → Type 0
IsQuiet limits p b from to = (s : ℕ) → from < s → s < to → is_full limits (position_at b p) (s - b) ≡ false

-- the run from p ended so, by the step from here
pub record RunsOut (t : Told) (p : Position) (b : ℕ) (end : RunEnd) (l : Progress) (told : Told) : Type 0 where
  pub ends : EndsAt p l.position end
  pub told_is : told ≡ told_after t (position_at l.position p).world (sent_of (l.position + 1) p)
  pub entries : l.log ≡ entries_of (l.position + 1 - b) (position_at b p)

-- the step from here was not made
pub record RunsInto (t : Told) (p : Position) (l : Progress) (P : Position → List Sent → Type 0) : Type 0 where
  pub position : Position
  pub stands : run_of l.position p ≡ Running position
  pub holds : P position (sent_of l.position p)

-- memory was wanting here
pub record RunsShort (t : Told) (p : Position) (l : Progress) (told : Told) : Type 0 where
  pub position : Position
  pub stands : run_of l.position p ≡ Running position
  pub told_is : told ≡ told_after t position.world (sent_of l.position p)

-- a part of the run from p was made: where it led
abbrev pub Leads : Told → Position → ℕ → Result (Option End) RunFault → Progress → Told → Type 0
Leads t p b (Ok None) new told = RunsTo t p b new told
Leads t p b (Ok (Some end)) new told = RunsOut t p b (end_by end) new told
Leads t p b (Err (faults.Unsupported number pc)) new told = RunsOut t p b (Unsupported number pc) new told
Leads t p b (Err (faults.BudgetSpent n)) new told = ⊥
Leads t p b (Err faults.InputFault) new told = RunsInto t p new (λ q before. StopsInput t q before told)
Leads t p b (Err (faults.OutputFault port)) new told = RunsInto t p new (λ q before. PartWritten t q.world before port (sent_at q) told)
Leads t p b (Err faults.NoMemory) new told = RunsShort t p new told

-- before which positions none is a cut: before that to which the run came, or which is not tested; behind that from which it goes on no more
abbrev pub tested_to : Result (Option End) RunFault → ℕ → ℕ
tested_to (Ok None) n = n
tested_to (Ok (Some end)) n = n + 1
tested_to (Err (faults.Unsupported number pc)) n = n + 1
tested_to (Err (faults.BudgetSpent k)) n = n + 1
tested_to (Err faults.InputFault) n = n + 1
tested_to (Err (faults.OutputFault port)) n = n + 1
tested_to (Err faults.NoMemory) n = n

abbrev pub LeadsTo : Limits → Told → Position → ℕ → Progress → Result (Option End) RunFault → Progress → Told → Type 0
LeadsTo limits t p b old result new told = Leads t p b result new told × IsQuiet (limits_of limits) p b old.position (tested_to result new.position)

-- what stops a run stops it before the next poll; want of memory is told behind a step, too
abbrev pub IsBeforePoll : Result (Option End) RunFault → Progress → Progress → Type 0
IsBeforePoll (Ok None) old new = Unit {0}
IsBeforePoll (Ok (Some end)) old new = (old.position ≤ new.position) × (new.position < old.position + old.until_poll)
IsBeforePoll (Err (faults.Unsupported number pc)) old new = (old.position ≤ new.position) × (new.position < old.position + old.until_poll)
IsBeforePoll (Err (faults.BudgetSpent n)) old new = (old.position ≤ new.position) × (new.position < old.position + old.until_poll)
IsBeforePoll (Err faults.InputFault) old new = (old.position ≤ new.position) × (new.position < old.position + old.until_poll)
IsBeforePoll (Err (faults.OutputFault port)) old new = (old.position ≤ new.position) × (new.position < old.position + old.until_poll)
IsBeforePoll (Err faults.NoMemory) old new = Unit {0}

-- a step that was not made is one of the budget
abbrev pub TriedWithin : ℕ → Result (Option End) RunFault → ℕ → Type 0
TriedWithin budget (Ok ended) position = Unit {0}
TriedWithin budget (Err (faults.Unsupported number pc)) position = position < budget
TriedWithin budget (Err (faults.BudgetSpent n)) position = Unit {0}
TriedWithin budget (Err faults.InputFault) position = position < budget
TriedWithin budget (Err (faults.OutputFault port)) position = position < budget
TriedWithin budget (Err faults.NoMemory) position = Unit {0}

-- the guest stands at the step that ends its run so
abbrev pub StandsAtEnd : End → GuestState → Type 0
StandsAtEnd (Exit status) g = effect_of g.machine ≡ Effect.Call
StandsAtEnd (Signal kind pc) g = effect_of g.machine ≡ Effect.Fault (kind_number kind)

-- a call can be served: one step more is counted
pub record IsAtCall (l : Progress) : Type 0 where
  pub room : count_marked l.guest.frames.written + 32 ≤ l.guest.frames.count
  pub asked : 0 < l.until_poll
  pub position : l.position < 2 ^ 40
  pub calls : l.calls ≤ l.position
  pub bytes : size_of_records l.log < 4194304

-- the call went on, or ends the run
abbrev pub CallsOrEnds : Option End → Progress → Progress → Type 0
CallsOrEnds None old new = new.position ≡ old.position + 1
CallsOrEnds (Some end) old new = (new.position ≡ old.position) × StandsAtEnd end new.guest

-- the run goes on behind at least one step more, or is over by one more
abbrev pub EndsOrGoesOn : Limits → Option End → Progress → Progress → Type 0
EndsOrGoesOn limits None old new = (old.position < new.position) × (new.position ≤ limits.budget)
EndsOrGoesOn limits (Some end) old new = (new.position < limits.budget) × StandsAtEnd end new.guest

-- Steps were made, of which only the last may be a call: from everywhere the play goes on by as many.
pub record Advances (old new : Progress) : Type 0 where
  pub not_less : old.position ≤ new.position
  pub plays : (start : Spot) (k : ℕ) → PlaysFrom start k old → PlaysFrom start (k + (new.position - old.position)) new
  pub frames : new.guest.frames.count ≡ old.guest.frames.count
  pub origin : new.guest.origin ≡ old.guest.origin
  pub calls : new.calls + old.position ≤ old.calls + new.position

-- the next poll is where it was
abbrev pub HasPollOf : Progress → Progress → Type 0
HasPollOf old new = new.position + new.until_poll ≡ old.position + old.until_poll

-- no call was made: the guest ran to this answer, and the rest followed
pub record RunsOn (limits : Limits) (old new : Progress) (answer : Stepped) : Type 0 where
  pub later : old.position ≤ new.position
  pub steps : ℕ
  pub some : 0 < steps
  pub ran : HasRun steps (limits.frames - 32) old.guest new.guest (record { completed = new.position - old.position; last = answer })
  pub few : steps ≤ old.until_poll
  pub within : old.position + steps ≤ limits.budget
  pub asked : new.position + new.until_poll ≡ old.position + old.until_poll
  pub calls : new.calls ≡ old.calls
  pub log : new.log ≡ old.log

-- The pacer gave this answer to one ask.
pub record IsAsked (answer : Bool) (old new : PacerState) : Type 0 where
  pub period : new.period ≡ old.period
  pub tally : new.tally ≡ tally_after answer old.tally
  pub as_told : WhereTold old.answers (λ told. answer ≡ told 1)
  pub left : new.answers ≡ later_answers old.answers

-- the pacer was asked where its turn had come, and else is as it was
abbrev pub Polls : Limits → ℕ → Bool → ℕ → PacerState → PacerState → Type 0
Polls limits zero answer until old new = (until ≡ limits.poll) × IsAsked answer old new
Polls limits (suc left) answer until old new = (until ≡ suc left) × (answer ≡ false) × (new ≡ old)

-- the same but for when the pacer is asked
pub record IsSameButPoll (old new : Progress) : Type 0 where
  pub guest : new.guest ≡ old.guest
  pub position : new.position ≡ old.position
  pub calls : new.calls ≡ old.calls
  pub log : new.log ≡ old.log

-- From the cut at b on, where the pacer showed `first` and had answered so, it was asked up to position t, and no position before
-- `bound` is a cut.
pub record Walks (limits : Limits) (p : Position) (b : ℕ) (first : PacerState) (answers : ℕ → Bool) (t bound : ℕ) (now : PacerState) : Type 0 where
  pub later : ℕ → Bool
  pub agrees : (k : ℕ) → k ≤ b / limits.poll → later k ≡ answers k
  pub answered : HasAnswered later (t / limits.poll) first now
  pub none : HasNoCut (limits_of limits) later p b bound

-- the next cut
pub record FindsCut (limits : Limits) (t : Told) (p : Position) (b : ℕ) (first : PacerState) (answers : ℕ → Bool) (new : Progress) (told : Told) (now : PacerState) : Type 0 where
  pub walks : Walks limits p b first answers new.position new.position now
  pub runs : RunsTo t p b new told
  pub later : b < new.position
  pub cut : is_cut (limits_of limits) walks.later p b new.position ≡ true

-- the end of the budget
pub record FindsNone (limits : Limits) (t : Told) (p : Position) (b : ℕ) (first : PacerState) (answers : ℕ → Bool) (n : ℕ) (new : Progress) (told : Told) (now : PacerState) : Type 0 where
  pub walks : Walks limits p b first answers new.position (new.position + 1) now
  pub runs : RunsTo t p b new told
  pub whole : new.position ≡ limits.budget
  pub budget : n ≡ limits.budget

-- where the run came from the cut at b on
abbrev pub Reaches : Limits → Told → Position → ℕ → PacerState → (ℕ → Bool) → Result (Option End) RunFault → Progress → Told → PacerState → Type 0
Reaches limits t p b first answers (Ok None) new told now = FindsCut limits t p b first answers new told now
Reaches limits t p b first answers (Ok (Some end)) new told now = Walks limits p b first answers new.position (new.position + 1) now × RunsOut t p b (end_by end) new told
Reaches limits t p b first answers (Err (faults.Unsupported number pc)) new told now = Walks limits p b first answers new.position (new.position + 1) now × RunsOut t p b (Unsupported number pc) new told
Reaches limits t p b first answers (Err (faults.BudgetSpent n)) new told now = FindsNone limits t p b first answers n new told now
Reaches limits t p b first answers (Err faults.InputFault) new told now = Walks limits p b first answers new.position (new.position + 1) now × RunsInto t p new (λ q before. StopsInput t q before told)
Reaches limits t p b first answers (Err (faults.OutputFault port)) new told now = Walks limits p b first answers new.position (new.position + 1) now × RunsInto t p new (λ q before. PartWritten t q.world before port (sent_at q) told)
Reaches limits t p b first answers (Err faults.NoMemory) new told now = RunsShort t p new told

-- the run came to a cut behind where it stood, or to its end
abbrev pub CutOrEnds : Limits → Option End → Progress → Progress → Type 0
CutOrEnds limits None old new = IsOpen limits new × (old.position < new.position)
CutOrEnds limits (Some end) old new = (new.position < limits.budget) × StandsAtEnd end new.guest
