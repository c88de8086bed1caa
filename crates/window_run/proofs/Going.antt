-- A run by windows, part of the way.
use Rattle.std.proofs.Common.{◌≡◌, ℕ, ◌+◌, ◌-◌, ◌<◌, ◌≤◌, List, [], ◌++◌, length, refl, sym, ap, subst, ◌∙◌, arith}
use Rattle.std.specs.Prelude.{Option, None}
use Rattle.insert_points.specs.Plan.{PlanFields}
use Rattle.insert_points.specs.declared.call.Event.{Event}
use Rattle.boundary_verify.specs.Job.{JobFields}
use Rattle.guest_model.specs.Machine.{Machine}
use Rattle.master_run.specs.Master.{MasterState, start_at}
use Rattle.master_run.specs.declared.limits.Limits.{Limits}
use Rattle.ordered_merge.specs.declared.merger.SliceLine.{SliceLine}
use Rattle.rv_machine.specs.declared.step.End.{End}
use Rattle.window_run.specs.Jobs.{AreJobs, HandsJobs, HasMerged, IsReady, MergesJobs, and_one}
use Rattle.window_run.proofs.Lists.{jobs_rise}
use Rattle.window_run.proofs.Merging.{merged_none}

module _ {L S : Type 0} (stands : List Event → L → Type 0) (is_value : List Event → S → Type 0) (plan : PlanFields) (limits : Limits) where
  -- some jobs were merged, up to position e, and these wait, up to where the master stands or with the run's end
  pub record IsGoing (shared : S) (lines : List SliceLine) (jobs : List JobFields) (end : Option End) (m : MasterState) : Type 0 where
    pub done : List JobFields
    pub e : ℕ
    pub merged : HasMerged stands is_value plan done e shared lines
    pub waiting : AreJobs (length lines) e jobs (and_one end m.position)
    pub count : length lines + length jobs ≡ and_one end (length m.cuts)
    pub within : and_one end m.position ≤ limits.budget
    pub limits_are : m.limits ≡ limits
    pub ready : IsReady end m

  -- the first window
  pub going_first : (shared : S) (lines : List SliceLine) (jobs : List JobFields) (end : Option End) (machine : Machine) (m new : MasterState) → m ≡ start_at machine limits → is_value [] shared → lines ≡ [] → HandsJobs m jobs end new
      → (h : IsGoing shared lines jobs end new) × (h.done ≡ [])
  going_first shared lines jobs end machine m new start value none hands =
      let cuts : length m.cuts ≡ 0 = ap (λ (k : MasterState). length k.cuts) start in
      let position : m.position ≡ 0 = ap (λ (k : MasterState). k.position) start in
      let limits_are : m.limits ≡ limits = ap (λ (k : MasterState). k.limits) start in
      let size : length m.cuts ≡ length lines = cuts ∙ sym (ap length none) in
      let h : IsGoing shared lines jobs end new = record {
        done = [];
        e = 0;
        merged = merged_none stands is_value plan shared lines value none;
        waiting = subst (λ (k : ℕ). AreJobs (length lines) k jobs (and_one end new.position)) position (subst (λ (n : ℕ). AreJobs n m.position jobs (and_one end new.position)) size hands.are);
        count = omega (arith, hands.count, size);
        within = subst (λ (l : Limits). and_one end new.position ≤ l.budget) limits_are hands.within;
        limits_are = hands.limits ∙ limits_are;
        ready = hands.ready;
      } in (h, refl)

  -- the next one, behind one that is not the last
  pub going_next : (shared now : S) (lines more : List SliceLine) (jobs later : List JobFields) (before end : Option End) (m new : MasterState) (h : IsGoing shared lines jobs before m) → before ≡ None
      → MergesJobs stands is_value plan jobs m.position shared lines now more → HandsJobs m later end new → (k : IsGoing now more later end new) × (k.done ≡ h.done ++ jobs)
  going_next shared now lines more jobs later before end m new h none merges hands =
      let position : and_one before m.position ≡ m.position = ap (λ (o : Option End). and_one o m.position) none in
      let cuts : and_one before (length m.cuts) ≡ length m.cuts = ap (λ (o : Option End). and_one o (length m.cuts)) none in
      let size : length m.cuts ≡ length more = omega (arith, merges.count, h.count, cuts) in
      let k : IsGoing now more later end new = record {
        done = h.done ++ jobs;
        e = m.position;
        merged = merges.merged h.done h.e (subst (λ (n : ℕ). AreJobs (length lines) h.e jobs n) position h.waiting) h.merged;
        waiting = subst (λ (n : ℕ). AreJobs n m.position later (and_one end new.position)) size hands.are;
        count = omega (arith, hands.count, size);
        within = subst (λ (l : Limits). and_one end new.position ≤ l.budget) h.limits_are hands.within;
        limits_are = hands.limits ∙ h.limits_are;
        ready = hands.ready;
      } in (k, refl)

-- less is left
pub less_left : (limits : Limits) (m new : MasterState) (jobs : List JobFields) (before end : Option End) → before ≡ None → m.limits ≡ limits → HandsJobs m jobs end new → 1 ≤ length jobs
    → limits.budget - and_one end new.position < limits.budget - and_one before m.position
less_left limits m new jobs before end none limits_are hands some =
    let position : and_one before m.position ≡ m.position = ap (λ (o : Option End). and_one o m.position) none in
    let within : and_one end new.position ≤ limits.budget = subst (λ (l : Limits). and_one end new.position ≤ l.budget) limits_are hands.within in
    let rise = jobs_rise (length m.cuts) m.position (and_one end new.position) jobs hands.are in omega (arith, rise, some, within, position)
