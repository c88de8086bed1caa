-- The counts that refusals raised.
use Rattle.std.proofs.Common.{◌≡◌, ◌≢◌, ◌<◌, ◌≤◌, ◌-◌, ◌^◌, ◌⊎◌, ℕ, refl, ap, sym, subst, ◌∙◌, arith, inl, inr}
use Rattle.std.specs.Prelude.{Option, None, Some, ◌↔◌, Result, Ok, IfErr, MatchResult}
use Rattle.std.specs.Prelude as std
use Rattle.sp_host.specs.Told.{Told}
use Rattle.sp_host.specs.Count.{one_more}
use Rattle.sp_host.specs.Faults.{Source, File, Input, To, Faults, Faulted, Caused, CausedIn, count_of, with_count}
use Rattle.sp_host.specs.declared.host.Port.{Port}
use Rattle.sp_host.specs.declared.host.Port.TheVariants.{Out, Err, Report}
use Rattle.sp_report.specs.declared.answer.Answer.TheVariants.{Refused}
use Rattle.sp_report.specs.declared.answer.Refusal.{Refusal}
use Rattle.sp_report.specs.declared.answer.Refusal.TheVariants as refusals
use Rattle.syscall_layer.specs.declared.fault.RunFault.{RunFault}
use Rattle.syscall_layer.specs.declared.fault.RunFault.TheVariants as faults
use Rattle.syscall_layer.specs.Step.{IsOfGuest as IsRunGuests, run_source_of as run_source}
use Rattle.sp_words.specs.declared.asked.WordFault.{WordFault}
use Rattle.sp_words.specs.declared.asked.WordFault.TheVariants as words
use Rattle.superpin_top.specs.Causes.{cause_of, refusal_of_run, refusal_of_words, IsOfGuest, CausedBy}
use Rattle.superpin_top.specs.Top.{IsLate}
use Rattle.superpin_top.specs.Outcome.{WritesLine}

-- a refusal without a cause, where no count rose
pub calm : (refusal : Refusal) (f : Faults) → cause_of refusal ≡ None → CausedBy refusal f f
calm (refusals.Usage kind) f e = (refl, tt)
calm refusals.FileFault f e = cc
calm refusals.FileTooLarge f e = (refl, tt)
calm (refusals.Elf fault) f e = (refl, tt)
calm (refusals.ArgsTooLong bytes) f e = (refl, tt)
calm (refusals.UnsupportedCall number pc) f e = (refl, tt)
calm (refusals.BudgetSpent n) f e = (refl, tt)
calm refusals.InputFault f e = cc
calm (refusals.OutputFault port) f e = cc
calm refusals.ReportFault f e = cc
calm refusals.NoMemory f e = (refl, tt)

-- a fault of the run
pub run_caused : (fault : RunFault) (before now : Faults) → Caused (run_source fault) before now → IsRunGuests fault → CausedBy (refusal_of_run fault) before now
run_caused (faults.Unsupported number pc) before now caused guests = (caused, tt)
run_caused (faults.BudgetSpent n) before now caused guests = (caused, tt)
run_caused faults.InputFault before now caused guests = (caused, tt)
run_caused (faults.OutputFault port) before now caused guests = (caused, guests)
run_caused faults.NoMemory before now caused guests = (caused, tt)

-- so is that of a result
pub result_caused : {X : Type 0} (result : Result X RunFault) (fault : RunFault) (before now : Faults) → result ≡ std.Err fault → CausedIn run_source before now result → IfErr result IsRunGuests → CausedBy (refusal_of_run fault) before now
result_caused (std.Err other) fault before now is caused guests = let same : other ≡ fault = cc in subst (λ (k : RunFault). CausedBy (refusal_of_run k) before now) same (run_caused other before now caused guests)
result_caused (Ok x) fault before now is caused guests = cc

pub result_calm : {X : Type 0} (result : Result X RunFault) (x : X) (before now : Faults) → result ≡ Ok x → CausedIn run_source before now result → now ≡ before
result_calm (Ok other) x before now is calm = calm
result_calm (std.Err fault) x before now is calm = cc

-- a fault of the words has no cause in the outside
pub words_caused : (fault : WordFault) (f : Faults) → CausedBy (refusal_of_words fault) f f
words_caused (words.Usage kind) f = (refl, tt)
words_caused words.NoMemory f = (refl, tt)

-- and it is none of a file
pub run_late : (fault : RunFault) → IsLate (refusal_of_run fault)
run_late (faults.Unsupported number pc) = tt
run_late (faults.BudgetSpent n) = tt
run_late faults.InputFault = tt
run_late (faults.OutputFault port) = tt
run_late faults.NoMemory = tt

pub calm_result : {X : Type 0} (r : Result X Refusal) (before now : Faults) → now ≡ before → IfErr r (λ e. cause_of e ≡ None) → MatchResult r (λ _. now ≡ before) (λ e. CausedBy e before now)
calm_result (Ok x) before now same h = same
calm_result (std.Err e) before now same h = subst (λ (f : Faults). CausedBy e before f) (sym same) (calm e before h)

-- the counts of other sources stay
abbrev KeepsOthers : Source → ℕ → Faults → Type 0
KeepsOthers source n f = (s : Source) → s ≢ source → count_of s (with_count source n f) ≡ count_of s f

others : (source : Source) (n : ℕ) (f : Faults) → KeepsOthers source n f
others File n f File other = absurd (other refl)
others File n f Input other = refl
others File n f (To Out) other = refl
others File n f (To Err) other = refl
others File n f (To Report) other = refl
others Input n f File other = refl
others Input n f Input other = absurd (other refl)
others Input n f (To Out) other = refl
others Input n f (To Err) other = refl
others Input n f (To Report) other = refl
others (To Out) n f File other = refl
others (To Out) n f Input other = refl
others (To Out) n f (To Out) other = absurd (other refl)
others (To Out) n f (To Err) other = refl
others (To Out) n f (To Report) other = refl
others (To Err) n f File other = refl
others (To Err) n f Input other = refl
others (To Err) n f (To Out) other = refl
others (To Err) n f (To Err) other = absurd (other refl)
others (To Err) n f (To Report) other = refl
others (To Report) n f File other = refl
others (To Report) n f Input other = refl
others (To Report) n f (To Out) other = refl
others (To Report) n f (To Err) other = refl
others (To Report) n f (To Report) other = absurd (other refl)

itself : (source : Source) (n : ℕ) (f : Faults) → count_of source (with_count source n f) ≡ n
itself File n f = refl
itself Input n f = refl
itself (To Out) n f = refl
itself (To Err) n f = refl
itself (To Report) n f = refl

pub kept_by : (source s : Source) (before now : Faults) → Faulted source before now → s ≢ source → count_of s now ≡ count_of s before
kept_by source s before now fault other = ap (count_of s) fault ∙ others source (one_more (count_of source before)) before s other

-- the count after a fault
pub count_after : (source : Source) (before now : Faults) → Faulted source before now → count_of source now ≡ one_more (count_of source before)
count_after source before now fault = ap (count_of source) fault ∙ itself source (one_more (count_of source before)) before

pub rose_by : (source : Source) (before now : Faults) → Faulted source before now → count_of source before < 2 ^ 64 - 1 → count_of source before < count_of source now
rose_by source before now fault below = omega (arith, count_after source before now fault)

-- the line of a refusal leaves the other counts, and Report's does not fall
line_keeps : (s : Source) (middle now : Faults) (p q : Type 0) → s ≢ To Report → (p × (now ≡ middle)) ⊎ (q × Faulted (To Report) middle now) → count_of s now ≡ count_of s middle
line_keeps s middle now p q other (inl same) = ap (count_of s) same.1
line_keeps s middle now p q other (inr fault) = kept_by (To Report) s middle now fault.1 other

line_rises : (middle now : Faults) (p q : Type 0) → (p × (now ≡ middle)) ⊎ (q × Faulted (To Report) middle now) → middle.report ≤ now.report
line_rises middle now p q (inl same) = omega (arith, ap (λ (f : Faults). f.report) same.1)
line_rises middle now p q (inr fault) = omega (arith, count_after (To Report) middle now fault.1)

pub line_kept : (s : Source) (refusal : Refusal) (mid new : Told) (middle now : Faults) → WritesLine refusal mid new middle now → s ≢ To Report → count_of s now ≡ count_of s middle
line_kept s refusal mid new middle now writes other = line_keeps s middle now _ _ other writes.cause

pub line_report : (refusal : Refusal) (mid new : Told) (middle now : Faults) → WritesLine refusal mid new middle now → middle.report ≤ now.report
line_report refusal mid new middle now writes = line_rises middle now _ _ writes.cause

same_source : (a b : Source) → (a ≡ b) ⊎ (a ≢ b)
same_source File File = inl refl
same_source File Input = inr (λ e. cc)
same_source File (To Out) = inr (λ e. cc)
same_source File (To Err) = inr (λ e. cc)
same_source File (To Report) = inr (λ e. cc)
same_source Input File = inr (λ e. cc)
same_source Input Input = inl refl
same_source Input (To Out) = inr (λ e. cc)
same_source Input (To Err) = inr (λ e. cc)
same_source Input (To Report) = inr (λ e. cc)
same_source (To Out) File = inr (λ e. cc)
same_source (To Out) Input = inr (λ e. cc)
same_source (To Out) (To Out) = inl refl
same_source (To Out) (To Err) = inr (λ e. cc)
same_source (To Out) (To Report) = inr (λ e. cc)
same_source (To Err) File = inr (λ e. cc)
same_source (To Err) Input = inr (λ e. cc)
same_source (To Err) (To Out) = inr (λ e. cc)
same_source (To Err) (To Err) = inl refl
same_source (To Err) (To Report) = inr (λ e. cc)
same_source (To Report) File = inr (λ e. cc)
same_source (To Report) Input = inr (λ e. cc)
same_source (To Report) (To Out) = inr (λ e. cc)
same_source (To Report) (To Err) = inr (λ e. cc)
same_source (To Report) (To Report) = inl refl

-- a count other than Report's rose exactly where it is the cause
pub rose_where : (s : Source) (cause : Option Source) (refusal : Refusal) (mid new : Told) (before middle now : Faults) → cause_of refusal ≡ cause → Caused cause before middle → WritesLine refusal mid new middle now → s ≢ To Report → count_of s before < 2 ^ 64 - 1
    → (cause ≡ Some s) ↔ (count_of s before < count_of s now)
rose_where s None refusal mid new before middle now is caused writes other below =
    ((λ e. cc), λ rose. absurd (omega (arith, rose, line_kept s refusal mid new middle now writes other, ap (count_of s) caused)))
rose_where s (Some source) refusal mid new before middle now is caused writes other below = (
  (λ e. let same : source ≡ s = cc in
      let fault = subst (λ (k : Source). Faulted k before middle) same caused in
      subst (λ (n : ℕ). count_of s before < n) (sym (line_kept s refusal mid new middle now writes other)) (rose_by s before middle fault below)),
  λ rose. elim (same_source source s) [
    | inl same ↦ ap (λ (k : Source). Some k) same
    | inr differ ↦ absurd (omega (arith, rose, line_kept s refusal mid new middle now writes other, kept_by source s before middle caused (λ e. differ (sym e))))
  ],
)

-- the refusal of each cause
abbrev refusal_with : Source → Refusal
refusal_with File = refusals.FileFault
refusal_with Input = refusals.InputFault
refusal_with (To Out) = refusals.OutputFault Out
refusal_with (To Err) = refusals.OutputFault Err
refusal_with (To Report) = refusals.ReportFault

has_cause : (s : Source) → cause_of (refusal_with s) ≡ Some s
has_cause File = refl
has_cause Input = refl
has_cause (To Out) = refl
has_cause (To Err) = refl
has_cause (To Report) = refl

port_refusal : (port : Port) → port ≢ Report → refusal_with (To port) ≡ refusals.OutputFault port
port_refusal Out other = refl
port_refusal Err other = refl
port_refusal Report other = absurd (other refl)

with_cause : (s : Source) (refusal : Refusal) → IsOfGuest refusal → cause_of refusal ≡ Some s → refusal ≡ refusal_with s
with_cause s refusals.FileFault guests e = let same : File ≡ s = cc in subst (λ (k : Source). refusals.FileFault ≡ refusal_with k) same refl
with_cause s refusals.InputFault guests e = let same : Input ≡ s = cc in subst (λ (k : Source). refusals.InputFault ≡ refusal_with k) same refl
with_cause s (refusals.OutputFault port) guests e = let same : To port ≡ s = cc in subst (λ (k : Source). refusals.OutputFault port ≡ refusal_with k) same (sym (port_refusal port guests))
with_cause s refusals.ReportFault guests e = let same : To Report ≡ s = cc in subst (λ (k : Source). refusals.ReportFault ≡ refusal_with k) same refl
with_cause s (refusals.Usage kind) guests e = cc
with_cause s refusals.FileTooLarge guests e = cc
with_cause s (refusals.Elf fault) guests e = cc
with_cause s (refusals.ArgsTooLong bytes) guests e = cc
with_cause s (refusals.UnsupportedCall number pc) guests e = cc
with_cause s (refusals.BudgetSpent n) guests e = cc
with_cause s refusals.NoMemory guests e = cc

-- so the refusal of a source comes exactly where its count rose
pub refused_where : (s : Source) (refusal : Refusal) (mid new : Told) (before middle now : Faults) → CausedBy refusal before middle → WritesLine refusal mid new middle now → s ≢ To Report → count_of s before < 2 ^ 64 - 1
    → (Refused refusal ≡ Refused (refusal_with s)) ↔ (count_of s before < count_of s now)
refused_where s refusal mid new before middle now caused writes other below =
    let both = rose_where s (cause_of refusal) refusal mid new before middle now refl caused.0 writes other below in (
      (λ e. let same : refusal ≡ refusal_with s = cc in both.0 (ap cause_of same ∙ has_cause s)),
      λ rose. ap (λ (r : Refusal). Refused r) (with_cause s refusal caused.1 (both.1 rose)),
    )

pub port_where : (port : Port) (refusal : Refusal) (mid new : Told) (before middle now : Faults) → CausedBy refusal before middle → WritesLine refusal mid new middle now → port ≢ Report → count_of (To port) before < 2 ^ 64 - 1
    → (Refused refusal ≡ Refused (refusals.OutputFault port)) ↔ (count_of (To port) before < count_of (To port) now)
port_where port refusal mid new before middle now caused writes other below =
    subst (λ (r : Refusal). (Refused refusal ≡ Refused r) ↔ (count_of (To port) before < count_of (To port) now)) (port_refusal port other)
    (refused_where (To port) refusal mid new before middle now caused writes (λ e. other (cc)) below)

-- a report fault comes only where the count of Report rose
pub report_rose : (refusal : Refusal) (mid new : Told) (before middle now : Faults) → CausedBy refusal before middle → WritesLine refusal mid new middle now → before.report < 2 ^ 64 - 1 → Refused refusal ≡ Refused refusals.ReportFault → before.report < now.report
report_rose refusal mid new before middle now caused writes below e =
    let same : refusal ≡ refusals.ReportFault = cc in
    let fault = subst (λ (r : Refusal). Caused (cause_of r) before middle) same caused.0 in
    omega (arith, rose_by (To Report) before middle fault below, line_report refusal mid new middle now writes)

-- the report is no port of an output fault
pub guests_port : (refusal : Refusal) (port : Port) (before middle : Faults) → Refused refusal ≡ Refused (refusals.OutputFault port) → CausedBy refusal before middle → port ≢ Report
guests_port refusal port before middle e caused =
    let same : refusal ≡ refusals.OutputFault port = cc in
    subst IsOfGuest same caused.1
