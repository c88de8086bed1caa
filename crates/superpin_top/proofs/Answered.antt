-- From an attempt to its answer.
use Rattle.std.proofs.Common.{◌≡◌, ◌≢◌, ℕ, ap, arith}
use Rattle.std.specs.Prelude.{Option, Result, Ok, Err}
use Rattle.sp_host.specs.Told.{Files, Told}
use Rattle.sp_host.specs.Faults.{Faults, File, Input, To, count_of}
use Rattle.guest_model.specs.Call.{World}
use Rattle.master_run.specs.Answers.{PacerState}
use Rattle.sp_report.specs.Answer.{exit_code_of}
use Rattle.sp_report.specs.declared.answer.Answer.{Answer}
use Rattle.sp_report.specs.declared.answer.Answer.TheVariants.{Ended, Refused}
use Rattle.sp_report.specs.declared.answer.Refusal.{Refusal}
use Rattle.sp_report.specs.declared.answer.Refusal.TheVariants.{NoMemory}
use Rattle.sp_report.specs.declared.answer.UsageKind.{UsageKind}
use Rattle.sp_words.specs.Asked.{Wanted}
use Rattle.superpin_top.specs.Answered.{ExitsAt, IsAnswered, IsAttempt, OutcomeAt}
use Rattle.superpin_top.specs.Due.{Task, due_task, not_sliced}
use Rattle.superpin_top.specs.Outcome.{AddsFront, AttemptGives, CanRise, IsCaused, IsDecided, IsDelivered, IsEarly, NoneRose, Outcome, TellsSlices, WritesLine, done_slicing}
use Rattle.superpin_top.specs.declared.engine.Done.{Done}
use Rattle.superpin_top.proofs.Causes.{refused_where, port_where, report_rose, guests_port}
use Rattle.superpin_top.proofs.Headline.{done_follows, done_outcome, early_ended, early_of, refused_follows}
use Rattle.superpin_top.proofs.Ready.{of_each}

module _ (wanted : Result Wanted UsageKind) (task_at : Files → Option (Result Task Refusal)) (t : Told) (before : Faults) (first : PacerState) where
  -- a command that was done
  pub done_answers : (done : Done) (new : Told) (after : Faults) (now : PacerState) → IsAttempt wanted task_at t before first (Ok done) new after now
      → IsAnswered wanted task_at t before first (Ended done.status done.cuts done.lines) new after now
  done_answers done new after now is =
      let answer : Answer = Ended done.status done.cuts done.lines in
      let s = done_slicing done in
      let given : Result Task Refusal → World → Type 0 = λ task w. AttemptGives t task w first (Ok done) new now in
      record {
        words = is.words;
        file_fault = λ below. ((λ e. cc), λ rose. absurd (omega (arith, rose, ap (λ (f : Faults). f.file) is.faults)));
        input_fault = λ below. ((λ e. cc), λ rose. absurd (omega (arith, rose, ap (λ (f : Faults). f.input) is.faults)));
        output_fault = λ port other below. ((λ e. cc), λ rose. absurd (omega (arith, rose, ap (λ (f : Faults). count_of (To port) f) is.faults)));
        report_fault = λ below e. cc;
        ended = is.faults;
        other_port = λ port e. cc;
        early = λ files files_are below same found. of_each (task_at files) (λ task. IsDecided task (Ok done)) (λ task. IsEarly task answer)
            (λ task accepted. early_ended task done.status done.cuts done.lines accepted) (is.early files files_are);
        outcome = λ files w files_are input moments. of_each (task_at files) (λ task. given task w) (λ task. Outcome t task w first before answer new after now)
            (λ task gives. done_outcome t new task w first now before after done gives is.faults) (is.told files w files_are input moments);
        headline = λ files w files_are input moments. of_each (task_at files) (λ task. given task w) (λ task. CanRise before → after ≡ before → IsDelivered t (due_task task w s) answer new)
            (λ task gives. (done_follows t new task w first now before after done gives is.faults).headline) (is.told files w files_are input moments);
        sliced = λ files w files_are input moments. of_each (task_at files) (λ task. given task w) (λ task. TellsSlices task w first now answer)
            (λ task gives. gives.sliced) (is.told files w files_are input moments);
        causes = λ files w files_are input moments. of_each (task_at files) (λ task. given task w) (λ task. CanRise before → NoneRose before after → answer ≢ Refused NoMemory → IsCaused (due_task task w s) before after answer)
            (λ task gives. (done_follows t new task w first now before after done gives is.faults).causes) (is.told files w files_are input moments);
        front = λ files w files_are input moments. of_each (task_at files) (λ task. given task w) (λ task. AddsFront t.out (due_task task w s).out new.out)
            (λ task gives. (done_follows t new task w first now before after done gives is.faults).fronts.out) (is.told files w files_are input moments);
        error_front = λ files w files_are input moments. of_each (task_at files) (λ task. given task w) (λ task. AddsFront t.err (due_task task w s).err new.err)
            (λ task gives. (done_follows t new task w first now before after done gives is.faults).fronts.err) (is.told files w files_are input moments);
      }

  -- a command that was refused, with the line of its refusal
  pub refused_answers : (refusal : Refusal) (mid new : Told) (middle after : Faults) (now : PacerState) → IsAttempt wanted task_at t before first (Err refusal) mid middle now → WritesLine refusal mid new middle after
      → IsAnswered wanted task_at t before first (Refused refusal) new after now
  refused_answers refusal mid new middle after now is writes =
      let answer : Answer = Refused refusal in
      let given : Result Task Refusal → World → Type 0 = λ task w. AttemptGives t task w first (Err refusal) mid now in
      record {
        words = is.words;
        file_fault = λ below. refused_where File refusal mid new before middle after is.faults writes (λ e. cc) below;
        input_fault = λ below. refused_where Input refusal mid new before middle after is.faults writes (λ e. cc) below;
        output_fault = λ port other below. port_where port refusal mid new before middle after is.faults writes other below;
        report_fault = λ below e. report_rose refusal mid new before middle after is.faults writes below e;
        ended = tt;
        other_port = λ port e. guests_port refusal port before middle e is.faults;
        early = λ files files_are below same found. of_each (task_at files) (λ task. IsDecided task (Err refusal)) (λ task. IsEarly task answer)
            (λ task decided. early_of task refusal decided
            (λ e. let rose = (refused_where File refusal mid new before middle after is.faults writes (λ k. cc) below).0 (ap (λ (r : Refusal). Refused r) e) in omega (arith, rose, same))
            (λ e. found (ap (λ (r : Refusal). Refused r) e))) (is.early files files_are);
        outcome = λ files w files_are input moments. of_each (task_at files) (λ task. given task w) (λ task. Outcome t task w first before answer new after now)
            (λ task refuses. record { mid = mid; middle = middle; refuses = refuses; caused = is.faults; writes = writes }) (is.told files w files_are input moments);
        headline = λ files w files_are input moments. of_each (task_at files) (λ task. given task w) (λ task. CanRise before → after ≡ before → IsDelivered t (due_task task w not_sliced) answer new)
            (λ task refuses. (refused_follows t task w first refusal before middle after mid new now refuses is.faults writes).headline) (is.told files w files_are input moments);
        sliced = λ files w files_are input moments. of_each (task_at files) (λ task. given task w) (λ task. TellsSlices task w first now answer)
            (λ task refuses. tt) (is.told files w files_are input moments);
        causes = λ files w files_are input moments. of_each (task_at files) (λ task. given task w) (λ task. CanRise before → NoneRose before after → answer ≢ Refused NoMemory → IsCaused (due_task task w not_sliced) before after answer)
            (λ task refuses. (refused_follows t task w first refusal before middle after mid new now refuses is.faults writes).causes) (is.told files w files_are input moments);
        front = λ files w files_are input moments. of_each (task_at files) (λ task. given task w) (λ task. AddsFront t.out (due_task task w not_sliced).out new.out)
            (λ task refuses. (refused_follows t task w first refusal before middle after mid new now refuses is.faults writes).fronts.out) (is.told files w files_are input moments);
        error_front = λ files w files_are input moments. of_each (task_at files) (λ task. given task w) (λ task. AddsFront t.err (due_task task w not_sliced).err new.err)
            (λ task refuses. (refused_follows t task w first refusal before middle after mid new now refuses is.faults writes).fronts.err) (is.told files w files_are input moments);
      }

-- a status that says an answer with its outcome
pub says_status : (task_at : Files → Option (Result Task Refusal)) (t : Told) (before : Faults) (first : PacerState) (answer : Answer) (code : ℕ) (new : Told) (after : Faults) (now : PacerState) → code ≡ exit_code_of answer
    → OutcomeAt task_at t before first answer new after now → ExitsAt task_at t before first code new after now
says_status task_at t before first answer code new after now is holds files w files_are input moments =
    of_each (task_at files) (λ task. Outcome t task w first before answer new after now) (λ task. (x : Answer) × (code ≡ exit_code_of x) × Outcome t task w first before x new after now)
    (λ task outcome. (answer, is, outcome)) (holds files w files_are input moments)
