-- What the engine of a run answers, serial or by windows, and what it does to what a host tells and to what a pacer shows.
use Rattle.std.specs.Prelude.{◌≡◌, ℕ, Bool, List, [], Result, Ok, Err}
use Rattle.sp_host.specs.Told.{Told}
use Rattle.elf_load.specs.Image.{ImageFields}
use Rattle.guest_model.specs.Call.{World}
use Rattle.guest_model.specs.Machine.{Machine}
use Rattle.guest_model.specs.Serial.{Position, TraceItem, trace_of}
use Rattle.guest_model.specs.declared.platform.TheConstants.{MOST_PAGES}
use Rattle.master_run.specs.Answers.{PacerState}
use Rattle.ordered_merge.specs.declared.finished.Finished.{Finished}
use Rattle.serial_run.specs.Run.{EndsAt, RunFails, StepBefore}
use Rattle.serial_run.specs.Start.{start_of}
use Rattle.serial_run.specs.Steps.{WantsMemory}
use Rattle.sp_report.specs.Lines.{end_by}
use Rattle.sp_words.specs.Due.{Engine, Program, limits_in}
use Rattle.sp_words.specs.Options.{bounds_of}
use Rattle.sp_words.specs.Run.{IsSlicedBy, Run, Slicing, ToolMeaning, slicing_of, steps_of}
use Rattle.sp_words.specs.declared.asked.By.{By}
use Rattle.sp_words.specs.declared.asked.By.TheVariants.{Serial, Windows}
use Rattle.superpin_top.specs.declared.engine.How.{How}
use Rattle.syscall_layer.specs.Serve.{told_after}
use Rattle.syscall_layer.specs.declared.fault.RunFault.{RunFault}
use Rattle.sliced_run.specs.Sliced.{StandsBetween, SlicedFail}

-- how a run is made, over plain data
abbrev pub engine_by : How → Engine
engine_by how = record { by = how.by; bounds = bounds_of how.limits; msec = how.msec; slices = how.slices }

-- the program of an image with these strings, whose tool means this
abbrev pub program_by : ImageFields → List (List ℕ) → ToolMeaning → How → Program
program_by image strings tool how = record { image = image; strings = strings; tool = tool; engine = engine_by how }

-- the run of a machine with a tool
abbrev pub run_from : Machine → ToolMeaning → Engine → World → Run
run_from m tool e w = record { tool = tool; start = start_of m w; budget = e.bounds.budget; by = e.by; limits = limits_in e.bounds; msec = e.msec; slices = e.slices }

-- the frames of its guest: as many as there are pages, or as many as a slice can write
abbrev pub frames_by : By → ℕ → ℕ
frames_by Serial frames = MOST_PAGES
frames_by Windows frames = frames

-- where the outside stands when memory was wanting at a step: before one that takes memory, or before or behind one where the tool
-- may take memory for an event; a run by windows may want it at any step
abbrev pub WantsWithin : By → Run → Told → Told → Type 0
WantsWithin Serial r t new = StepBefore (steps_of r) (λ q before. WantsMemory r.tool.grows t q before new)
WantsWithin Windows r t new = StandsBetween t (steps_of r) new

-- a run that did not come to an end
abbrev pub EngineFails : By → Run → Told → RunFault → Told → Type 0
EngineFails Serial r t fault new = RunFails r.tool.grows t (steps_of r) fault new
EngineFails Windows r t fault new = SlicedFail t (steps_of r) fault new

-- what an engine that came to the end of a run tells of its slices
abbrev pub sliced_by : {T L S : Type 0} → Finished T L S → Slicing
sliced_by f = record { cuts = f.cuts.items; lines = f.lines.items }

-- a run came to its end: how it ended, what the state stands for, how it was sliced, and what is told then
pub record EngineEnds {T L S : Type 0} (is_value : List TraceItem → S → Type 0) (t : Told) (r : Run) (first : PacerState) (f : Finished T L S) (new : Told) (now : PacerState) : Type 0 where
  pub last : Position
  pub ends : EndsAt t (steps_of r) last (end_by f.end) new
  pub value : is_value (trace_of r.budget r.start) f.shared
  pub told_slices : slicing_of r.by (trace_of r.budget r.start) last (sliced_by f) ≡ sliced_by f
  pub sliced : IsSlicedBy r.by r first now (sliced_by f)

abbrev pub EngineGives : {T L S : Type 0} → (List TraceItem → S → Type 0) → Told → Run → PacerState → Result (Finished T L S) RunFault → Told → PacerState → Type 0
EngineGives is_value t r first (Ok f) new now = EngineEnds is_value t r first f new now
EngineGives is_value t r first (Err fault) new now = EngineFails r.by r t fault new

-- what an engine answers of a guest whose machine stands so, whatever the tool's text is, and whatever is left
abbrev pub EngineTells : {T L S : Type 0} → (List TraceItem → S → Type 0) → Bool → Machine → How → Told → PacerState → Result (Finished T L S) RunFault → Told → PacerState → Type 0
EngineTells is_value grows m how old first result new now = (text : List TraceItem → List ℕ) (t : Told) (w : World) → old ≡ told_after t w [] →
    EngineGives is_value t (run_from m (record { text = text; grows = grows }) (engine_by how) w) first result new now
