-- Attempts at what words ask for.
use Rattle.std.proofs.Common.{◌≡◌, ℕ, List, refl, ap, sym, subst, ◌∙◌, inl}
use Rattle.std.specs.Prelude.{Option, Some, Result, Ok, Err, IfErr}
use Rattle.sp_host.specs.Told.{Files, Told}
use Rattle.sp_host.specs.Faults.{Faults}
use Rattle.guest_model.specs.Call.{World}
use Rattle.master_run.specs.Answers.{PacerState}
use Rattle.sp_report.specs.declared.answer.Refusal.{Refusal}
use Rattle.sp_report.specs.declared.answer.Refusal.TheVariants as refusals
use Rattle.sp_report.specs.declared.answer.UsageKind.{UsageKind}
use Rattle.sp_words.specs.Asked.{Answers, Wanted, words_wanted}
use Rattle.sp_words.specs.declared.asked.WordFault.{WordFault}
use Rattle.sp_words.specs.declared.asked.WordFault.TheVariants as words
use Rattle.superpin_top.specs.Answered.{IsAttempt, IsTried}
use Rattle.superpin_top.specs.Causes.{refusal_of_words}
use Rattle.superpin_top.specs.Due.{OfTask, Task, task_in, task_of, task_of_wanted}
use Rattle.superpin_top.specs.Outcome.{AttemptGives, IsDecided, Refuses}
use Rattle.superpin_top.specs.Top.{IsPastWords}
use Rattle.superpin_top.specs.declared.engine.Done.{Done}
use Rattle.superpin_top.proofs.Causes.{words_caused}
use Rattle.superpin_top.proofs.Outcomes.{refused_before}
use Rattle.superpin_top.proofs.Ready.{of_any, read_words_pass, refused_words}

pub task_is : (words : List (List ℕ)) (files : Files) → task_of words files ≡ task_of_wanted (words_wanted words) files
unfolding task_of
task_is words files = refl

abbrev OfErr : (Refusal → Type 0) → Result Done Refusal → Type 0
OfErr P r = (refusal : Refusal) → r ≡ Err refusal → P refusal

of_err : (P : Refusal → Type 0) (r : Result Done Refusal) → IfErr r P → OfErr P r
of_err P r holds refusal e = subst (λ (k : Result Done Refusal). IfErr k P) e holds

module _ (wanted : Result Wanted UsageKind) (task_at : Files → Option (Result Task Refusal)) (is_task : (files : Files) → task_at files ≡ task_of_wanted wanted files) (t : Told) (before : Faults) (first : PacerState) where
  -- what the words ask for was tried
  pub asked_attempted : (asked : Wanted) (attempt : Result Done Refusal) (mid : Told) (middle : Faults) (now : PacerState) → wanted ≡ Ok asked → IsTried asked t before first attempt mid middle now
      → IsAttempt wanted task_at t before first attempt mid middle now
  asked_attempted asked attempt mid middle now is tried =
      let at : (files : Files) → task_in files asked ≡ task_at files = λ files. sym (is_task files ∙ ap (λ (w : Result Wanted UsageKind). task_of_wanted w files) is) in
      record {
        words = read_words_pass wanted asked attempt is (of_err IsPastWords attempt tried.past);
        early = λ files files_are. subst (λ (o : Option (Result Task Refusal)). OfTask o (λ task. IsDecided task attempt)) (at files) (tried.early files files_are);
        told = λ files w files_are input moments. subst (λ (o : Option (Result Task Refusal)). OfTask o (λ task. AttemptGives t task w first attempt mid now)) (at files) (tried.told files w files_are input moments);
        faults = tried.faults;
      }

  -- words that ask for nothing
  no_words : (kind : UsageKind) → wanted ≡ Err kind → (files : Files) → Some (Err (refusals.Usage kind)) ≡ task_at files
  no_words kind is files = sym (is_task files ∙ ap (λ (w : Result Wanted UsageKind). task_of_wanted w files) is)

  unread_decides : (fault : WordFault) → Answers wanted (Err fault) → (files : Files) → OfTask (task_at files) (λ task. IsDecided task (Err (refusal_of_words fault)))
  unread_decides (words.Usage kind) due files = subst (λ (o : Option (Result Task Refusal)). OfTask o (λ task. IsDecided task (Err (refusals.Usage kind)))) (no_words kind due files) refl
  unread_decides words.NoMemory due files = of_any (task_at files) (λ task. IsDecided task (Err refusals.NoMemory)) (λ task. tt)

  unread_refuses : (fault : WordFault) → Answers wanted (Err fault) → (files : Files) (w : World) → t.input ≡ Some w.input → t.moments ≡ Some w.moments → OfTask (task_at files) (λ task. Refuses t task w first (refusal_of_words fault) t first)
  unread_refuses (words.Usage kind) due files w input moments =
      subst (λ (o : Option (Result Task Refusal)). OfTask o (λ task. Refuses t task w first (refusals.Usage kind) t first)) (no_words kind due files)
      (refused_before t t (Err (refusals.Usage kind)) (refusals.Usage kind) w first first tt refl input moments refl)
  unread_refuses words.NoMemory due files w input moments = of_any (task_at files) (λ task. Refuses t task w first refusals.NoMemory t first) (λ task. inl refl)

  -- words that were not read
  pub unread_attempted : (fault : WordFault) (refusal : Refusal) → Answers wanted (Err fault) → refusal ≡ refusal_of_words fault → IsAttempt wanted task_at t before first (Err refusal) t before first
  unread_attempted fault refusal due is = subst (λ (e : Refusal). IsAttempt wanted task_at t before first (Err e) t before first) (sym is) (record {
    words = refused_words wanted fault due;
    early = λ files files_are. unread_decides fault due files;
    told = λ files w files_are input moments. unread_refuses fault due files w input moments;
    faults = words_caused fault before;
  })
