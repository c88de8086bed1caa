-- From what the runs give to what is due.
use Rattle.std.proofs.Common.{◌≡◌, ℕ, ◌/◌, ◌<◌, ◌≤◌, Bool, false, List, length, map, ap, subst, ◌∙◌, lit<}
use Rattle.std.specs.Prelude.{Some, None, Ok, Err, Vec}
use Rattle.std.specs.declared.alloc.Global.{Global}
use Rattle.sp_host.specs.Told.{Told}
use Rattle.elf_load.specs.Elf.{image_of, refusal_of}
use Rattle.elf_load.specs.Image.{ImageFields}
use Rattle.guest_model.specs.Machine.{Machine}
use Rattle.guest_model.specs.Serial.{TraceItem}
use Rattle.boundary_verify.specs.Cuts.{AreCuts, CutLimits, cut_limits}
use Rattle.master_run.specs.Answers.{PacerState}
use Rattle.master_run.specs.Master.{limits_of}
use Rattle.master_run.specs.declared.limits.Limits.{Limits}
use Rattle.ordered_merge.specs.declared.finished.Finished.{Finished}
use Rattle.prog_gen.specs.Demo.{demo_headers, demo_instrs}
use Rattle.prog_gen.specs.File.{Adds}
use Rattle.rv_machine.specs.Load.{machine_of}
use Rattle.serial_run.specs.Run.{RunFails}
use Rattle.serial_run.specs.Start.{Run, start_of}
use Rattle.sp_report.specs.Lines.{end_by}
use Rattle.sp_report.specs.declared.answer.Refusal.{Refusal}
use Rattle.sp_report.specs.declared.answer.Refusal.TheVariants as refusals
use Rattle.syscall_layer.specs.declared.fault.RunFault.{RunFault}
use Rattle.syscall_layer.specs.declared.fault.RunFault.TheVariants as faults
use Rattle.sliced_run.specs.Sliced.{SlicedEnd, SlicedFail, line_by}
use Rattle.demo_run.specs.Demo.{DemoGives, IsDemoText, RunRefused, all_lines, bcount_line, demo_answers, demo_limits, demo_run, demo_strings, icount_line, no_world}
use Rattle.demo_run.specs.Parts.{AreUsual, HasNoSource, IsCutRun, ThreeGive, refusal_by}
use Rattle.demo_run.specs.declared.demo.Three.{Three}
use Rattle.demo_run.proofs.Answered.{same_cuts}

abbrev run_with : Machine → ℕ → Run
run_with m budget = record { start = start_of m no_world; budget = budget }

-- the run of a guest that was loaded
pub begins : (image : ImageFields) (m : Machine) (budget : ℕ) → m ≡ machine_of image demo_strings → budget ≡ 1000000000 → run_with m budget ≡ demo_run image
begins image m budget is n = ap (λ (k : Machine). run_with k budget) is ∙ ap (λ (b : ℕ). run_with (machine_of image demo_strings) b) n

-- a run that came to no end is refused so
pub fails : (grows : Bool) (t new : Told) (image : ImageFields) (fault : RunFault) → HasNoSource fault → RunFails grows t (demo_run image) fault new → RunRefused image (refusal_by fault)
fails grows t new image (faults.Unsupported number pc) none gives = (gives.0, gives.1.stands)
fails grows t new image (faults.BudgetSpent n) none gives = (gives.2, (gives.0, gives.1))
fails grows t new image faults.InputFault none gives = cc
fails grows t new image (faults.OutputFault port) none gives = cc
fails grows t new image faults.NoMemory none gives = tt

pub windows_fail : (t new : Told) (image : ImageFields) (fault : RunFault) → HasNoSource fault → SlicedFail t (demo_run image) fault new → RunRefused image (refusal_by fault)
windows_fail t new image (faults.Unsupported number pc) none gives = fails false t new image (faults.Unsupported number pc) none gives
windows_fail t new image (faults.BudgetSpent n) none gives = fails false t new image (faults.BudgetSpent n) none gives
windows_fail t new image faults.InputFault none gives = cc
windows_fail t new image (faults.OutputFault port) none gives = cc
windows_fail t new image faults.NoMemory none gives = tt

-- the usual limits are those of the demonstration
usual_limits : (limits : Limits) → AreUsual limits → limits_of limits ≡ demo_limits
usual_limits limits h =
    ap (λ (x : ℕ). cut_limits x limits.records limits.frames) h.poll
    ∙ ap (λ (x : ℕ). cut_limits 64 x limits.frames) h.records
    ∙ ap (λ (x : ℕ). cut_limits 64 1024 x) h.frames

-- where a run by windows was cut, and its lines
pub cut_run : {T L S : Type 0} (is_value : List TraceItem → S → Type 0) (t new : Told) (limits : Limits) (image : ImageFields) (first now : PacerState) (f : Finished T L S) → AreUsual limits → first.answers ≡ Some demo_answers
    → SlicedEnd is_value t limits (demo_run image) first f new now → IsCutRun image f.end f.cuts.items f.lines.items
cut_run is_value t new limits image first now f usual answers h =
    let start = (demo_run image).start in
    let cuts : AreCuts demo_limits h.answers start h.steps f.cuts.items = subst (λ (l : CutLimits). AreCuts l h.answers start h.steps f.cuts.items) (usual_limits limits usual) h.cuts in
    let told : (k : ℕ) → 0 < k → k ≤ h.steps / limits.poll → h.answers k ≡ demo_answers k = h.answered.as_told demo_answers answers in
    let agree = subst (λ (m : ℕ). (k : ℕ) → 0 < k → k ≤ h.steps / m → h.answers k ≡ demo_answers k) usual.poll told in
    record {
      steps = h.steps;
      within = h.within;
      ended = h.by_step;
      cuts_are = same_cuts demo_limits h.answers demo_answers start h.steps (lit< tt) agree 0 f.cuts.items cuts;
      lines_are = h.lines;
    }

-- the refusal of the run of a file's image
pub refused : (n : ℕ) (file : List ℕ) (image : ImageFields) (refusal : Refusal) → Adds (demo_instrs n) demo_headers file → refusal_of file ≡ None → image ≡ image_of file → RunRefused image refusal → DemoGives n (Err refusal)
refused n file image (refusals.UnsupportedCall number pc) adds sound is h = (file, (adds, (sound, subst (λ (i : ImageFields). RunRefused i (refusals.UnsupportedCall number pc)) is h)))
refused n file image (refusals.BudgetSpent k) adds sound is h = (file, (adds, (sound, subst (λ (i : ImageFields). RunRefused i (refusals.BudgetSpent k)) is h)))
refused n file image refusals.NoMemory adds sound is h = tt
refused n file image (refusals.Usage kind) adds sound is h = absurd h
refused n file image refusals.FileFault adds sound is h = absurd h
refused n file image refusals.FileTooLarge adds sound is h = absurd h
refused n file image (refusals.Elf fault) adds sound is h = absurd h
refused n file image (refusals.ArgsTooLong bytes) adds sound is h = absurd h
refused n file image refusals.InputFault adds sound is h = absurd h
refused n file image (refusals.OutputFault port) adds sound is h = absurd h
refused n file image refusals.ReportFault adds sound is h = absurd h

-- the text of the runs of a file's image
pub printed : (n bytes : ℕ) (file : List ℕ) (image : ImageFields) (three : Three) (text : Vec ℕ Global) → Adds (demo_instrs n) demo_headers file → refusal_of file ≡ None → image ≡ image_of file → ThreeGive image (Ok three) → bytes ≡ length file
    → text.items ≡ all_lines n bytes three.icount.seen.text.items three.bcount.seen.text.items three.cache.seen.text.items (end_by three.cache.seen.end) three.cache.cuts.items (map line_by three.cache.lines.items) → DemoGives n (Ok text)
printed n bytes file image three text adds sound is gives size lines = (file, (adds, (sound, subst (λ (i : ImageFields). IsDemoText n (length file) i text.items) is whole)))
  where
    whole : IsDemoText n (length file) image text.items
    whole = record {
      end = three.cache.seen.end;
      steps = gives.3.steps;
      within = gives.3.within;
      ended = gives.3.ended;
      cuts = three.cache.cuts.items;
      cuts_are = gives.3.cuts_are;
      lines = map line_by three.cache.lines.items;
      lines_are = gives.3.lines_are;
      text_is = lines
          ∙ ap (λ (k : ℕ). all_lines n k three.icount.seen.text.items three.bcount.seen.text.items three.cache.seen.text.items (end_by three.cache.seen.end) three.cache.cuts.items (map line_by three.cache.lines.items)) size
          ∙ ap (λ (x : List ℕ). all_lines n (length file) x three.bcount.seen.text.items three.cache.seen.text.items (end_by three.cache.seen.end) three.cache.cuts.items (map line_by three.cache.lines.items)) gives.0
          ∙ ap (λ (x : List ℕ). all_lines n (length file) (icount_line image) x three.cache.seen.text.items (end_by three.cache.seen.end) three.cache.cuts.items (map line_by three.cache.lines.items)) gives.1
          ∙ ap (λ (x : List ℕ). all_lines n (length file) (icount_line image) (bcount_line image) x (end_by three.cache.seen.end) three.cache.cuts.items (map line_by three.cache.lines.items)) gives.2;
    }
