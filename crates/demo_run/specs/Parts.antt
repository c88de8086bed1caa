-- What the parts of the demonstration answer.
use Rattle.std.specs.Prelude.{◌≡◌, ℕ, ◌<◌, List, map, None, Some, Result, Ok, Err}
use Rattle.boundary_verify.specs.Cuts.{AreCuts}
use Rattle.boundary_verify.specs.Lines.{AreLines}
use Rattle.demo_run.specs.Demo.{RunRefused, demo_answers, demo_limits, demo_run, bcount_line, cache_line, icount_line}
use Rattle.demo_run.specs.declared.demo.Three.{Three}
use Rattle.demo_run.specs.declared.runs.Cut.{Cut}
use Rattle.demo_run.specs.declared.runs.Seen.{Seen}
use Rattle.elf_load.specs.Elf.{image_of, refusal_of}
use Rattle.elf_load.specs.Image.{ImageFields}
use Rattle.guest_model.specs.Runs.{Ended}
use Rattle.guest_model.specs.Serial.{EndsAt, Position, run_of}
use Rattle.master_run.specs.declared.limits.Limits.{Limits}
use Rattle.ordered_merge.specs.declared.merger.SliceLine.{SliceLine}
use Rattle.rv_machine.specs.declared.step.End.{End}
use Rattle.sp_report.specs.Lines.{end_by}
use Rattle.sp_report.specs.declared.answer.Refusal.{Refusal}
use Rattle.sp_report.specs.declared.answer.Refusal.TheVariants as refusals
use Rattle.syscall_layer.specs.Step.{run_source_of}
use Rattle.syscall_layer.specs.declared.fault.RunFault.{RunFault}
use Rattle.syscall_layer.specs.declared.fault.RunFault.TheVariants as faults
use Rattle.sliced_run.specs.Sliced.{line_by}

-- the image of a file, or its first fault
abbrev pub ImageGives : List ℕ → Result ImageFields Refusal → Type 0
ImageGives file (Ok image) = (refusal_of file ≡ None) × (image ≡ image_of file)
ImageGives file (Err (refusals.Elf fault)) = refusal_of file ≡ Some fault
ImageGives file (Err refusals.NoMemory) = Unit {0}
ImageGives file (Err _) = ⊥

-- a fault for which no call of the outside failed
abbrev pub HasNoSource : RunFault → Type 0
HasNoSource fault = run_source_of fault ≡ None

-- the refusal of a fault
abbrev pub refusal_by : RunFault → Refusal
refusal_by (faults.Unsupported number pc) = refusals.UnsupportedCall number pc
refusal_by (faults.BudgetSpent n) = refusals.BudgetSpent n
refusal_by faults.InputFault = refusals.InputFault
refusal_by (faults.OutputFault port) = refusals.OutputFault port
refusal_by faults.NoMemory = refusals.NoMemory

-- what bounds a run where nothing else is asked for
pub record AreUsual (limits : Limits) : Type 0 where
  pub budget : limits.budget ≡ 1000000000
  pub limit : limits.limit ≡ 8
  pub poll : limits.poll ≡ 64
  pub records : limits.records ≡ 1024
  pub frames : limits.frames ≡ 4096

-- the run of an image ended so
abbrev pub HasEnded : ImageFields → End → Type 0
HasEnded image end = (last : Position) × (run_of (demo_run image).budget (demo_run image).start ≡ Ended last (end_by end))

-- a run with a tool that makes this text of it
abbrev pub SeenGives : ImageFields → List ℕ → Result Seen Refusal → Type 0
SeenGives image text (Ok seen) = HasEnded image seen.end × (seen.text.items ≡ text)
SeenGives image text (Err refusal) = RunRefused image refusal

-- the run of an image ended so, and its cuts and lines are these
pub record IsCutRun (image : ImageFields) (end : End) (cuts : List ℕ) (lines : List SliceLine) : Type 0 where
  pub steps : ℕ
  pub within : steps < (demo_run image).budget
  pub ended : EndsAt (demo_run image).start steps (end_by end)
  pub cuts_are : AreCuts demo_limits demo_answers (demo_run image).start steps cuts
  pub lines_are : AreLines (demo_run image).start steps 0 cuts (map line_by lines)

-- a run by windows, cut so, with a tool that makes this text of it
abbrev pub CutGives : ImageFields → List ℕ → Result Cut Refusal → Type 0
CutGives image text (Ok cut) = HasEnded image cut.seen.end × IsCutRun image cut.seen.end cut.cuts.items cut.lines.items × (cut.seen.text.items ≡ text)
CutGives image text (Err refusal) = RunRefused image refusal

-- the runs by windows with the three tools
abbrev pub ThreeGive : ImageFields → Result Three Refusal → Type 0
ThreeGive image (Ok three) =
    (three.icount.seen.text.items ≡ icount_line image) × (three.bcount.seen.text.items ≡ bcount_line image) × (three.cache.seen.text.items ≡ cache_line image)
    × IsCutRun image three.cache.seen.end three.cache.cuts.items three.cache.lines.items
ThreeGive image (Err refusal) = RunRefused image refusal
