-- What a demonstration leaves.
use Rattle.std.proofs.Common.{◌≡◌, ℕ, List, [], refl, ap, sym, subst, ◌∙◌}
use Rattle.std.specs.Prelude.{None, Some, Result, Ok, Err}
use Rattle.sp_host.specs.Told.{Told}
use Rattle.sp_host.specs.Faults.{Faults}
use Rattle.sp_host.specs.declared.host.Port.{Port}
use Rattle.guest_model.specs.Call.{World}
use Rattle.master_run.specs.Answers.{PacerState}
use Rattle.sp_report.specs.declared.answer.Answer.TheVariants.{Ended}
use Rattle.sp_report.specs.declared.answer.Refusal.{Refusal}
use Rattle.sp_report.specs.declared.answer.Refusal.TheVariants as refusals
use Rattle.sp_report.specs.declared.answer.UsageKind.{UsageKind}
use Rattle.ordered_merge.specs.declared.merger.SliceLine.{SliceLine}
use Rattle.sp_words.specs.Asked.{Answers, Wanted}
use Rattle.sp_words.specs.declared.asked.WordFault.{WordFault}
use Rattle.sp_words.specs.declared.asked.WordFault.TheVariants as words
use Rattle.demo_run.specs.Demo.{DemoGives}
use Rattle.superpin_top.specs.Causes.{CausedBy, refusal_of_words}
use Rattle.superpin_top.specs.Due.{Task, demo_wanted}
use Rattle.superpin_top.specs.Outcome.{AttemptGives, DemoOutcome, DemoPrints, DemoRefuses, DemoTells, IsAccepted, IsDecided, OfText, ShowTells}
use Rattle.superpin_top.specs.Top.{IsPastWords}
use Rattle.superpin_top.specs.declared.engine.Done.{Done}
use Rattle.superpin_top.proofs.Outcomes.{not_shown, shown}

-- a text of a file's code was written, or a part of it
pub view_told : (t new : Told) (task : Result Task Refusal) (text : List ℕ) (w : World) (pacer : PacerState) (r : Result Done Refusal) → OfText task (λ due. text ≡ due) → t.input ≡ Some w.input → t.moments ≡ Some w.moments → ShowTells text t r new
    → AttemptGives t task w pacer r new pacer
view_told t new task text w pacer (Ok done) of input moments tells = subst (λ (d : Done). AttemptGives t task w pacer (Ok d) new pacer) (sym tells.0) (shown t new task text w pacer of input moments tells.1)
view_told t new task text w pacer (Err (refusals.OutputFault port)) of input moments tells =
    subst (λ (p : Port). AttemptGives t task w pacer (Err (refusals.OutputFault p)) new pacer) (sym tells.0) (not_shown t new task text w pacer of tells.1)
view_told t new task text w pacer (Err (refusals.Usage kind)) of input moments tells = absurd tells
view_told t new task text w pacer (Err refusals.FileFault) of input moments tells = absurd tells
view_told t new task text w pacer (Err refusals.FileTooLarge) of input moments tells = absurd tells
view_told t new task text w pacer (Err (refusals.Elf fault)) of input moments tells = absurd tells
view_told t new task text w pacer (Err (refusals.ArgsTooLong bytes)) of input moments tells = absurd tells
view_told t new task text w pacer (Err (refusals.UnsupportedCall number pc)) of input moments tells = absurd tells
view_told t new task text w pacer (Err (refusals.BudgetSpent n)) of input moments tells = absurd tells
view_told t new task text w pacer (Err refusals.InputFault) of input moments tells = absurd tells
view_told t new task text w pacer (Err refusals.ReportFault) of input moments tells = absurd tells
view_told t new task text w pacer (Err refusals.NoMemory) of input moments tells = absurd tells

pub view_decides : (text : List ℕ) (t new : Told) (task : Result Task Refusal) (r : Result Done Refusal) → IsAccepted task → ShowTells text t r new → IsDecided task r
view_decides text t new task (Ok done) accepted tells = accepted
view_decides text t new task (Err (refusals.OutputFault port)) accepted tells = accepted
view_decides text t new task (Err (refusals.Usage kind)) accepted tells = absurd tells
view_decides text t new task (Err refusals.FileFault) accepted tells = absurd tells
view_decides text t new task (Err refusals.FileTooLarge) accepted tells = absurd tells
view_decides text t new task (Err (refusals.Elf fault)) accepted tells = absurd tells
view_decides text t new task (Err (refusals.ArgsTooLong bytes)) accepted tells = absurd tells
view_decides text t new task (Err (refusals.UnsupportedCall number pc)) accepted tells = absurd tells
view_decides text t new task (Err (refusals.BudgetSpent n)) accepted tells = absurd tells
view_decides text t new task (Err refusals.InputFault) accepted tells = absurd tells
view_decides text t new task (Err refusals.ReportFault) accepted tells = absurd tells
view_decides text t new task (Err refusals.NoMemory) accepted tells = absurd tells

-- so did a demonstration
pub demo_shown : (n : ℕ) (t new : Told) (text : List ℕ) (r : Result Done Refusal) → DemoPrints n text → ShowTells text t r new → DemoTells n t r new
demo_shown n t new text (Ok done) prints tells = (ap (λ (d : Done). d.status) tells.0, ap (λ (d : Done). d.cuts) tells.0, ap (λ (d : Done). d.lines) tells.0, (text, prints, tells.1))
demo_shown n t new text (Err (refusals.OutputFault port)) prints tells = (tells.0, (text, prints, tells.1))
demo_shown n t new text (Err (refusals.Usage kind)) prints tells = absurd tells
demo_shown n t new text (Err refusals.FileFault) prints tells = absurd tells
demo_shown n t new text (Err refusals.FileTooLarge) prints tells = absurd tells
demo_shown n t new text (Err (refusals.Elf fault)) prints tells = absurd tells
demo_shown n t new text (Err (refusals.ArgsTooLong bytes)) prints tells = absurd tells
demo_shown n t new text (Err (refusals.UnsupportedCall number pc)) prints tells = absurd tells
demo_shown n t new text (Err (refusals.BudgetSpent m)) prints tells = absurd tells
demo_shown n t new text (Err refusals.InputFault) prints tells = absurd tells
demo_shown n t new text (Err refusals.ReportFault) prints tells = absurd tells
demo_shown n t new text (Err refusals.NoMemory) prints tells = absurd tells

-- a demonstration that was refused before its text was made
pub record IsNoDemo (n : ℕ) (t : Told) (refusal : Refusal) : Type 0 where
  pub refuses : DemoRefuses n t refusal t
  pub calm : (f : Faults) → CausedBy refusal f f
  pub past : IsPastWords refusal

pub demo_refused : (n : ℕ) (t : Told) (refusal : Refusal) → DemoGives n (Err refusal) → IsNoDemo n t refusal
demo_refused n t (refusals.Elf fault) gives = record { refuses = (gives, refl); calm = λ f. (refl, tt); past = tt }
demo_refused n t (refusals.UnsupportedCall number pc) gives = record { refuses = (gives, refl); calm = λ f. (refl, tt); past = tt }
demo_refused n t (refusals.BudgetSpent m) gives = record { refuses = (gives, refl); calm = λ f. (refl, tt); past = tt }
demo_refused n t refusals.NoMemory gives = record { refuses = (gives, refl); calm = λ f. (refl, tt); past = tt }
demo_refused n t (refusals.Usage kind) gives = absurd (gives.1.1.1)
demo_refused n t refusals.FileFault gives = absurd (gives.1.1.1)
demo_refused n t refusals.FileTooLarge gives = absurd (gives.1.1.1)
demo_refused n t (refusals.ArgsTooLong bytes) gives = absurd (gives.1.1.1)
demo_refused n t refusals.InputFault gives = absurd (gives.1.1.1)
demo_refused n t (refusals.OutputFault port) gives = absurd (gives.1.1.1)
demo_refused n t refusals.ReportFault gives = absurd (gives.1.1.1)

-- words that are refused ask for no demonstration
pub words_demo : (wanted : Result Wanted UsageKind) (fault : WordFault) (n : ℕ) (t : Told) → Answers wanted (Err fault) → demo_wanted wanted ≡ Some n → DemoTells n t (Err (refusal_of_words fault)) t
words_demo wanted (words.Usage kind) n t due is = absurd (none (sym (ap demo_wanted due) ∙ is))
  where
    none : None ≡ Some n → ⊥
    none e = cc
words_demo wanted words.NoMemory n t due is = (tt, refl)

-- from what a demonstration answers to its outcome
pub demo_ended : (n : ℕ) (t new : Told) (before after : Faults) (done : Done) → DemoTells n t (Ok done) new → after ≡ before → DemoOutcome n t before (Ended done.status done.cuts done.lines) new after
demo_ended n t new before after done tells same = record {
  answer_is = ap (λ (k : ℕ). Ended k done.cuts done.lines) tells.0 ∙ (ap (λ (cuts : List ℕ). Ended 0 cuts done.lines) tells.1 ∙ ap (λ (lines : List SliceLine). Ended 0 [] lines) tells.2);
  text = tells.3.0;
  prints = tells.3.1;
  told_is = tells.3.2;
  same = same;
}
