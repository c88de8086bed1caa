-- The jobs that a master hands out, as they are published.
use Rattle.std.proofs.Common.{◌≡◌, ℕ, zero, suc, ◌+◌, ◌-◌, ◌^◌, ◌<◌, List, [], ◌∷◌, ◌++◌, length, get_or, refl, sym, ap, subst, ◌∙◌, arith, length-append, Ok}
use Rattle.std.specs.Prelude.{None, Some}
use Rattle.sp_host.specs.Told.{Told}
use Rattle.guest_model.specs.Machine.{Machine}
use Rattle.guest_model.specs.Serial.{EndsAt, Position}
use Rattle.boundary_verify.specs.Job.{JobFields, Lasts, path_of}
use Rattle.boundary_verify.specs.Path.{Path, last_path, path_between}
use Rattle.master_run.specs.Answers.{PacerState}
use Rattle.master_run.specs.Master.{MasterState}
use Rattle.master_run.specs.Turn.{EndsAtCut, EndsWithRun, HandsOut, HandsOutOfRun}
use Rattle.master_run.specs.declared.master.Turn.{Turn}
use Rattle.master_run.specs.declared.master.Turn.TheVariants as turns
use Rattle.rv_machine.specs.declared.step.End.{End}
use Rattle.serial_run.specs.Start.{start_of}
use Rattle.slice_ring.specs.Ticket.{Tag, Ticket}
use Rattle.sp_report.specs.Lines.{end_by}
use Rattle.live_run.specs.Live.{IsJobOfRun, IsPathBetween, LastsBetween, RunStart, WhereStarted}
use Rattle.live_run.specs.Merged.{IsCutSoFar, IsRun, last_cut}
use Rattle.live_run.specs.Tags.{tags_from}
use Rattle.live_run.proofs.Tags.{as_many_tags, last_more, tags_last, tags_more}

lasts_between : (b c : ℕ) (job : JobFields) → b < c → Lasts (path_of job) job.peak (c - b) → LastsBetween b c job
lasts_between b zero job order lasts = absurd (omega (arith, order))
lasts_between b (suc c) job order lasts = (order, lasts)

is_between : (p : Position) (b c : ℕ) (path : Path) → 0 < c → path ≡ path_between p b c → IsPathBetween p b c path
is_between p b zero path some is = absurd (omega (arith, some))
is_between p b (suc c) path some is = is

-- where the new master's last cut lies
pub cut_here : (old new : MasterState) (job : JobFields) → EndsAtCut old job new → last_cut 0 new.cuts ≡ new.position
cut_here old new job is = ap (last_cut 0) is.cuts ∙ last_more 0 new.position old.cuts

-- the turn that hands out a job up to the next cut
pub at_cut : (old new : MasterState) (turn : Turn) (job : JobFields) → turn ≡ turns.Job job → HandsOut old turn new → EndsAtCut old job new
at_cut old new turn job is h = subst (λ (k : Turn). HandsOut old k new) is h

pub cut_in_run : (t : Told) (p : Position) (first : PacerState) (old new : MasterState) (turn : Turn) (job : JobFields) (told : Told) (now : PacerState) → turn ≡ turns.Job job → HandsOutOfRun t p first old (Ok turn) new told now
    → IsRun t p first None new told now × (path_of job ≡ path_between p old.position new.position)
cut_in_run t p first old new turn job told now is h = subst (λ (k : Turn). HandsOutOfRun t p first old (Ok k) new told now) is h

-- the turn that hands out the last job
pub at_end : (old new : MasterState) (turn : Turn) (job : JobFields) (end : End) → turn ≡ turns.Last job end → HandsOut old turn new → EndsWithRun old job new
at_end old new turn job end is h = subst (λ (k : Turn). HandsOut old k new) is h

pub end_in_run : (t : Told) (p : Position) (first : PacerState) (old new : MasterState) (turn : Turn) (job : JobFields) (end : End) (told : Told) (now : PacerState) → turn ≡ turns.Last job end → HandsOutOfRun t p first old (Ok turn) new told now
    → IsRun t p first (Some end) new told now × (path_of job ≡ last_path p old.position new.position)
end_in_run t p first old new turn job end told now is h = subst (λ (k : Turn). HandsOutOfRun t p first old (Ok k) new told now) is h

-- the job up to the next cut
pub cut_job : (launch : Told) (m : Machine) (old new : MasterState) (job : JobFields) (b c : ℕ) → IsCutSoFar old.limits None old → EndsAtCut old job new → b ≡ last_cut 0 old.cuts → c ≡ last_cut 0 new.cuts
    → WhereStarted launch m (λ t p. path_of job ≡ path_between p old.position new.position) → IsJobOfRun launch m b c job
cut_job launch m old new job b c cut is from to paths =
    let start : old.position ≡ b = cut.ready.1 ∙ sym from in
    let end : new.position ≡ c = sym (cut_here old new job is) ∙ sym to in
    let later : b < c = omega (arith, is.later, start, end) in
    record {
      lasts = lasts_between b c job later (subst (λ (n : ℕ). Lasts (path_of job) job.peak (n - b)) end (subst (λ (n : ℕ). Lasts (path_of job) job.peak (new.position - n)) start is.starts.lasts));
      told = λ t w same. is_between (start_of m w) b c (path_of job) (omega (arith, later)) (paths t w same ∙ (ap (λ (n : ℕ). path_between (start_of m w) n new.position) start ∙ ap (λ (n : ℕ). path_between (start_of m w) b n) end));
    }

-- the job up to the end of the run
pub last_job : (launch : Told) (m : Machine) (old new : MasterState) (job : JobFields) (end : End) (b : ℕ) → IsCutSoFar old.limits None old → EndsWithRun old job new → b ≡ last_cut 0 old.cuts
    → WhereStarted launch m (λ t p. EndsAt p new.position (end_by end) × (path_of job ≡ last_path p old.position new.position)) → IsJobOfRun launch m b 0 job
last_job launch m old new job end b cut is from paths =
    let start : old.position ≡ b = cut.ready.1 ∙ sym from in
    record {
      lasts = (new.position + 1 - b, omega (arith, is.within, old.limits.budget_range.1), subst (λ (n : ℕ). Lasts (path_of job) job.peak (new.position + 1 - n)) start is.starts.lasts);
      told = λ t w same. (new.position, end_by end, (paths t w same).0, omega (arith, is.later, start), (paths t w same).1 ∙ ap (λ (n : ℕ). last_path (start_of m w) n new.position) start);
    }

-- what is so of the master behind a job
pub cut_more : (old new : MasterState) (job : JobFields) → IsCutSoFar old.limits None old → EndsAtCut old job new → new.limits ≡ old.limits → IsCutSoFar old.limits None new
cut_more old new job cut is limits =
    let longer : length (old.cuts ++ new.position ∷ []) ≡ length old.cuts + 1 = simp length-append in
    record {
      ready = (is.ready, sym (cut_here old new job is));
      few = omega (arith, cut.few, is.later, ap length is.cuts, longer);
      within = is.within;
      limits_are = limits;
    }

-- the tags with the job's
pub published_more : (old new : MasterState) (job : JobFields) (tags : List Tag) (b c : ℕ) → EndsAtCut old job new → tags ≡ tags_from 0 old.cuts None → b ≡ last_cut 0 old.cuts → c ≡ last_cut 0 new.cuts → tags ++ (b, c) ∷ [] ≡ tags_from 0 new.cuts None
published_more old new job tags b c is are from to =
    ap (λ (ts : List Tag). ts ++ (b, c) ∷ []) are
    ∙ (ap (λ (n : ℕ). tags_from 0 old.cuts None ++ (n, c) ∷ []) from
    ∙ (ap (λ (n : ℕ). tags_from 0 old.cuts None ++ (last_cut 0 old.cuts, n) ∷ []) (to ∙ cut_here old new job is)
    ∙ (sym (tags_more 0 new.position old.cuts) ∙ ap (λ (cuts : List ℕ). tags_from 0 cuts None) (sym is.cuts))))

pub published_last : (old new : MasterState) (job : JobFields) (end : End) (tags : List Tag) (b : ℕ) → EndsWithRun old job new → tags ≡ tags_from 0 old.cuts None → b ≡ last_cut 0 old.cuts → tags ++ (b, 0) ∷ [] ≡ tags_from 0 new.cuts (Some end)
published_last old new job end tags b is are from =
    ap (λ (ts : List Tag). ts ++ (b, 0) ∷ []) are
    ∙ (ap (λ (n : ℕ). tags_from 0 old.cuts None ++ (n, 0) ∷ []) from ∙ (sym (tags_last 0 old.cuts end) ∙ ap (λ (cuts : List ℕ). tags_from 0 cuts (Some end)) (sym is.cuts)))

-- the ticket of the job is the next one of its ring
pub next_ticket : {X : Type 0} (old : MasterState) (tags : List Tag) (number : ℕ) (tag : Tag) (run topic : RunStart X) (ticket : Ticket (RunStart X)) → ticket ≡ record { number = number; tag = tag; topic = run } → tags ≡ tags_from 0 old.cuts None
    → number ≡ length old.cuts → topic ≡ run → (ticket.number ≡ length tags) × (ticket.topic ≡ topic)
next_ticket {X} old tags number tag run topic ticket is are place same =
    (ap (λ (k : Ticket (RunStart X)). k.number) is ∙ (place ∙ sym (ap length are ∙ as_many_tags 0 old.cuts)), ap (λ (k : Ticket (RunStart X)). k.topic) is ∙ sym same)

-- the last of a list's elements, by its place
last_from : (b c : ℕ) (cuts : List ℕ) → get_or (c ∷ cuts) (length cuts) b ≡ last_cut c cuts
last_from b c [] = refl
last_from b c (d ∷ cuts) = last_from b d cuts

pub last_is : (b : ℕ) (cuts : List ℕ) → 0 < length cuts → get_or cuts (length cuts - 1) b ≡ last_cut b cuts
last_is b [] some = absurd (omega (arith, some))
last_is b (c ∷ cuts) some = let place : length (c ∷ cuts) - 1 ≡ length cuts = omega arith in ap (λ (n : ℕ). get_or (c ∷ cuts) n b) place ∙ last_from b c cuts

-- there is room for one more number
pub few_tags : (old : MasterState) (tags : List Tag) → tags ≡ tags_from 0 old.cuts None → IsCutSoFar old.limits None old → length tags < 2 ^ 62
few_tags old tags are cut = omega (arith, ap length are, as_many_tags 0 old.cuts, cut.few, cut.within, old.limits.budget_range.1)
