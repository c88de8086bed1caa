-- From what the two engines answer to what an engine answers.
use Rattle.std.proofs.Common.{◌≡◌, ◌/◌, ℕ, List, [], ◌∷◌, refl, ap, sym, subst, ◌∙◌}
use Rattle.std.specs.Prelude.{Bool, Option, Result, Ok, Err, IfOk}
use Rattle.sp_host.specs.Tally.{Tally}
use Rattle.sp_host.specs.Told.{Told}
use Rattle.guest_model.specs.Call.{World}
use Rattle.guest_model.specs.Machine.{Machine}
use Rattle.guest_model.specs.Serial.{TraceItem, trace_of}
use Rattle.master_run.specs.Answers.{HasAnswered, PacerState}
use Rattle.ordered_merge.specs.declared.finished.Finished.{Finished}
use Rattle.ordered_merge.specs.declared.merger.SliceLine.{SliceLine}
use Rattle.serial_run.specs.Run.{RunEnds, RunGives, whole_line}
use Rattle.sp_report.specs.Lines.{end_by}
use Rattle.sp_words.specs.Run.{IsSliced, IsSlicedBy, Run, ToolMeaning, slicing_of, steps_of}
use Rattle.sp_words.specs.declared.asked.By.{By}
use Rattle.sp_words.specs.declared.asked.By.TheVariants.{Serial, Windows}
use Rattle.syscall_layer.specs.declared.fault.RunFault.{RunFault}
use Rattle.sliced_run.specs.Sliced.{SlicedEnd, SlicedGives}
use Rattle.superpin_top.specs.Engine.{EngineEnds, EngineFails, EngineGives, engine_by, run_from, sliced_by}
use Rattle.superpin_top.specs.declared.engine.How.{How}

-- a serial run
serial_ends : {T L S : Type 0} (is_value : List TraceItem → S → Type 0) (t : Told) (r : Run) (first : PacerState) (f : Finished T L S) (new : Told) → r.by ≡ Serial → RunEnds is_value t (steps_of r) f new → f.cuts.items ≡ []
    → EngineEnds is_value t r first f new first
serial_ends is_value t r first f new by gives uncut =
    let items = trace_of r.budget r.start in
    let one : List SliceLine = whole_line items gives.last ∷ [] in
    let told : record { cuts = []; lines = one } ≡ sliced_by f =
    ap (λ (cuts : List ℕ). record { cuts = cuts; lines = one }) (sym uncut) ∙ ap (λ (lines : List SliceLine). record { cuts = f.cuts.items; lines = lines }) (sym gives.lines) in
    record {
      last = gives.last;
      ends = gives.ends;
      value = gives.value;
      told_slices = subst (λ (b : By). slicing_of b items gives.last (sliced_by f) ≡ sliced_by f) (sym by) told;
      sliced = subst (λ (b : By). IsSlicedBy b r first first (sliced_by f)) (sym by) refl;
    }

pub serial_gives : {T L S : Type 0} (is_value : List TraceItem → S → Type 0) (t : Told) (r : Run) (first : PacerState) (result : Result (Finished T L S) RunFault) (new : Told) → r.by ≡ Serial → RunGives is_value r.tool.grows t (steps_of r) result new
    → IfOk result (λ f. f.cuts.items ≡ []) → EngineGives is_value t r first result new first
serial_gives is_value t r first (Ok f) new by gives uncut = serial_ends is_value t r first f new by gives uncut
serial_gives is_value t r first (Err fault) new by gives uncut = subst (λ (b : By). EngineFails b r t fault new) (sym by) gives

-- a run by windows
windows_ends : {T L S : Type 0} (is_value : List TraceItem → S → Type 0) (t : Told) (m : Machine) (tool : ToolMeaning) (how : How) (w : World) (first middle now : PacerState) (f : Finished T L S) (new : Told) → how.by ≡ Windows
    → middle ≡ record first { period = how.msec } → SlicedEnd is_value t how.limits (steps_of (run_from m tool (engine_by how) w)) middle f new now → EngineEnds is_value t (run_from m tool (engine_by how) w) first f new now
windows_ends is_value t m tool how w first middle now f new by paced gives =
    let r = run_from m tool (engine_by how) w in
    let sliced : IsSliced r first now (sliced_by f) = record {
      last = gives.steps;
      within = gives.within;
      end = end_by f.end;
      ends = gives.by_step;
      answers = gives.answers;
      answered = subst (λ (p : PacerState). HasAnswered gives.answers (gives.steps / how.limits.poll) p now) paced gives.answered;
      cuts = gives.cuts;
      lines = gives.lines;
    } in
    record {
      last = gives.last;
      ends = gives.ends;
      value = gives.value;
      told_slices = subst (λ (b : By). slicing_of b (trace_of r.budget r.start) gives.last (sliced_by f) ≡ sliced_by f) (sym by) refl;
      sliced = subst (λ (b : By). IsSlicedBy b r first now (sliced_by f)) (sym by) sliced;
    }

pub windows_gives : {T L S : Type 0} (is_value : List TraceItem → S → Type 0) (t : Told) (m : Machine) (tool : ToolMeaning) (how : How) (w : World) (first middle now : PacerState) (result : Result (Finished T L S) RunFault) (new : Told)
    → how.by ≡ Windows → middle ≡ record first { period = how.msec } → SlicedGives is_value t how.limits (steps_of (run_from m tool (engine_by how) w)) middle result new now
    → EngineGives is_value t (run_from m tool (engine_by how) w) first result new now
windows_gives is_value t m tool how w first middle now (Ok f) new by paced gives = windows_ends is_value t m tool how w first middle now f new by paced gives
windows_gives is_value t m tool how w first middle now (Err fault) new by paced gives =
    subst (λ (b : By). EngineFails b (run_from m tool (engine_by how) w) t fault new) (sym by) gives

-- a pacer that was given a period
pub paced : (first : PacerState) (period : ℕ) (tally : Tally) (answers : Option (ℕ → Bool)) (msec : ℕ) → period ≡ msec → tally ≡ first.tally → answers ≡ first.answers → record { period = period; tally = tally; answers = answers } ≡ record first { period = msec }
paced first period tally answers msec shown same told =
    ap (λ (n : ℕ). record { period = n; tally = tally; answers = answers }) shown
    ∙ (ap (λ (k : Tally). record { period = msec; tally = k; answers = answers }) same ∙ ap (λ (o : Option (ℕ → Bool)). record { period = msec; tally = first.tally; answers = o }) told)

-- a run that failed, and one that came to its end
pub engine_fails : {T L S : Type 0} (is_value : List TraceItem → S → Type 0) (t : Told) (r : Run) (first : PacerState) (result : Result (Finished T L S) RunFault) (fault : RunFault) (new : Told) (now : PacerState) → result ≡ Err fault → EngineGives is_value t r first result new now
    → EngineFails r.by r t fault new
engine_fails is_value t r first (Err other) fault new now is gives = let same : other ≡ fault = cc in subst (λ (k : RunFault). EngineFails r.by r t k new) same gives
engine_fails is_value t r first (Ok f) fault new now is gives = cc

pub engine_ends : {T L S : Type 0} (is_value : List TraceItem → S → Type 0) (t : Told) (r : Run) (first : PacerState) (result : Result (Finished T L S) RunFault) (f : Finished T L S) (new : Told) (now : PacerState) → result ≡ Ok f → EngineGives is_value t r first result new now
    → EngineEnds is_value t r first f new now
engine_ends {T = T} {L = L} {S = S} is_value t r first (Ok other) f new now is gives = let same : other ≡ f = cc in subst (λ (k : Finished T L S). EngineEnds is_value t r first k new now) same gives
engine_ends is_value t r first (Err fault) f new now is gives = cc
