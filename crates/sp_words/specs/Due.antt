-- The due answer of a run: what its program, its input and its moments alone determine.
use Rattle.std.specs.Prelude.{ℕ, ◌+◌, Bool, List, [], ◌++◌, Some, if◌then◌else◌}
use Rattle.sp_host.specs.Told.{Told, appended}
use Rattle.elf_load.specs.Image.{ImageFields}
use Rattle.guest_model.specs.Call.{World, Sent}
use Rattle.guest_model.specs.Runs.{RunState, Running, Ended as RunEnded}
use Rattle.guest_model.specs.Serial.{Position, End, Exit, Signal, Unsupported, TraceItem, bytes_to, run_of, sent_of, trace_of}
use Rattle.boundary_verify.specs.Cuts.{CutLimits, cut_limits}
use Rattle.ordered_merge.specs.declared.merger.SliceLine.{SliceLine}
use Rattle.rv_machine.specs.Load.{machine_of}
use Rattle.serial_run.specs.Start.{start_of}
use Rattle.sp_report.specs.Lines.{end_text, refusal_line}
use Rattle.sp_report.specs.Slices.{lines_text}
use Rattle.sp_report.specs.declared.answer.Answer.{Answer}
use Rattle.sp_report.specs.declared.answer.Answer.TheVariants.{Ended, Refused}
use Rattle.sp_report.specs.declared.answer.Refusal.{Refusal}
use Rattle.sp_report.specs.declared.answer.Refusal.TheVariants as refusals
use Rattle.sp_words.specs.Options.{Bounds, Common}
use Rattle.sp_words.specs.Run.{Run, Slicing, ToolMeaning, slicing_of}
use Rattle.sp_words.specs.declared.asked.By.{By}

pub record Due : Type 0 where
  pub answer : Answer
  -- the bytes for the standard output, for the standard error, and for the report
  pub out : List ℕ
  pub err : List ℕ
  pub report : List ℕ
  -- what is left of the input and of the moments
  pub left : World

-- what the options of a run say of its engine
pub record Engine : Type 0 where
  pub by : By
  pub bounds : Bounds
  pub msec : ℕ
  pub slices : Bool

abbrev pub engine_of : By → Common → Engine
engine_of by c = record { by = by; bounds = c.bounds; msec = c.msec; slices = c.slices }

-- an accepted program: its image, the strings that it gets, its tool and its engine
pub record Program : Type 0 where
  pub image : ImageFields
  pub strings : List (List ℕ)
  pub tool : ToolMeaning
  pub engine : Engine

abbrev pub limits_in : Bounds → CutLimits
limits_in b = cut_limits b.poll b.records b.frames

-- its run, with this input and these moments
abbrev pub run_of_program : Program → World → Run
run_of_program p w = record {
  tool = p.tool;
  start = start_of (machine_of p.image p.strings) w;
  budget = p.engine.bounds.budget;
  by = p.engine.by;
  limits = limits_in p.engine.bounds;
  msec = p.engine.msec;
  slices = p.engine.slices;
}

-- the tool's text, how the run ended, and the lines of its slices where they are asked for
abbrev pub report_of : Bool → List ℕ → End → List SliceLine → List ℕ
report_of slices text end lines = (text ++ end_text end) ++ (if slices then lines_text lines else [])

-- what is due where nothing is reported but a refusal, and where the run sent these bytes
abbrev pub due_refused : Refusal → List Sent → World → Due
due_refused refusal sent left = record { answer = Refused refusal; out = bytes_to 1 sent; err = bytes_to 2 sent; report = refusal_line refusal; left = left }

abbrev pub due_reported : ℕ → Slicing → List ℕ → List Sent → World → Due
due_reported status s report sent left = record { answer = Ended status s.cuts s.lines; out = bytes_to 1 sent; err = bytes_to 2 sent; report = report; left = left }

-- the status of a run that ended: that of its exit, or 128 and the number of its signal
abbrev pub due_ended : End → Slicing → List ℕ → List Sent → World → Due
due_ended (Exit status) s report sent left = due_reported status s report sent left
due_ended (Signal kind pc) s report sent left = due_reported (128 + kind) s report sent left
due_ended (Unsupported number pc) s report sent left = due_refused (refusals.UnsupportedCall number pc) sent left

abbrev pub due_sliced : Run → Position → End → List TraceItem → List Sent → Slicing → Due
due_sliced r p end items sent s = due_ended end s (report_of r.slices (r.tool.text items) end s.lines) sent p.world

abbrev pub due_state : Run → Slicing → RunState Position End → List TraceItem → List Sent → Due
due_state r s (Running p) items sent = due_refused (refusals.BudgetSpent r.budget) sent p.world
due_state r s (RunEnded p end) items sent = due_sliced r p end items sent (slicing_of r.by items p s)

abbrev pub due_run : Run → Slicing → Due
due_run r s = due_state r s (run_of r.budget r.start) (trace_of r.budget r.start) (sent_of r.budget r.start)

-- what is told once the due bytes were written, and this report
abbrev pub delivered : Told → Due → List ℕ → Told
delivered t d report = record t { input = Some d.left.input; moments = Some d.left.moments; out = appended t.out d.out; err = appended t.err d.err; report = appended t.report report }
