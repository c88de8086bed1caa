-- A run from one cut on, poll by poll.
use Rattle.std.proofs.Common.{◌≡◌, ◌⊎◌, inl, inr, ℕ, zero, suc, ◌+◌, ◌-◌, ◌*◌, ◌/◌, ◌%◌, ◌^◌, ◌<◌, ◌≤◌, ◌||◌, Bool, true, false, List, ◌++◌, length, refl, sym, ap, subst, ◌∙◌, arith}
use Rattle.std.proofs.Math.Nat.{suc-mul}
use Rattle.std.proofs.lemmas.Bool.{cases_Bool, cases_lt}
use Rattle.std.proofs.lemmas.Nat.{mod-mul-add}
use Rattle.sp_host.specs.Told.{Told}
use Rattle.call_record.specs.Record.{CallRecord}
use Rattle.guest_model.specs.Play.{Spot}
use Rattle.guest_model.specs.Serial.{Position, position_at}
use Rattle.rv_machine.specs.Guest.{GuestState}
use Rattle.boundary_verify.specs.Cuts.{HasNoCut, is_cut, is_full, is_paced}
use Rattle.master_run.specs.Answers.{HasAnswered, PacerState}
use Rattle.master_run.specs.Master.{limits_of}
use Rattle.master_run.specs.Progress.{Advances, FindsCut, HasPollOf, IsBeforePoll, IsBelow, IsOpen, IsQuiet, IsSameButPoll, PlaysFrom, PlaysTo, LeadsTo, Polls, Reaches, RunsTo, Walks, script_with}
use Rattle.syscall_layer.specs.declared.fault.RunFault.{RunFault}
use Rattle.syscall_layer.specs.declared.fault.RunFault.TheVariants as faults
use Rattle.std.specs.Prelude.{Err}
use Rattle.master_run.specs.declared.limits.Limits.{Limits}
use Rattle.master_run.specs.declared.progress.Progress.{Progress}
use Rattle.master_run.proofs.Full.{is_below, none_full}
use Rattle.master_run.proofs.Polls.{IsBefore, answer_before, answer_there, answered_more, before, before_quotient, cut_same, not_paced, paced_at, quotient_at, quotient_below, with_answer}

-- a run that goes on behind a poll
pub open_more : (limits : Limits) (old mid new : Progress) (due : Bool) (now later : PacerState) (until : ℕ) → IsOpen limits old → Advances old mid → HasPollOf old mid → mid.position ≤ limits.budget → mid.until_poll ≡ until
    → IsSameButPoll mid new → Polls limits until due new.until_poll now later → IsOpen limits new
open_more limits old mid new due now later zero going on sum within is same polls =
    let n = before old.position old.until_poll limits.poll going.poll going.asked going.soon in
    let place : new.position + new.until_poll ≡ (n.0 + 2) * limits.poll + 0 = omega (arith, same.position, sum, is, polls.0, n.1.sum, suc-mul (n.0 + 1) limits.poll, suc-mul n.0 limits.poll) in
    record {
      frames = ap (λ (g : _). g.frames.count) same.guest ∙ on.frames ∙ going.frames;
      within = omega (arith, within, same.position);
      calls = omega (arith, same.calls, same.position, on.calls, going.calls, on.not_less);
      asked = omega (arith, polls.0, limits.poll_range.0);
      poll = ap (λ (x : ℕ). x % limits.poll) place ∙ mod-mul-add (n.0 + 2) limits.poll 0 (omega (arith, limits.poll_range.0));
      soon = omega (arith, polls.0);
    }
open_more limits old mid new due now later (suc left) going on sum within is same polls = record {
  frames = ap (λ (g : _). g.frames.count) same.guest ∙ on.frames ∙ going.frames;
  within = omega (arith, within, same.position);
  calls = omega (arith, same.calls, same.position, on.calls, going.calls, on.not_less);
  asked = omega (arith, polls.0);
  poll = (let whole : new.position + new.until_poll ≡ old.position + old.until_poll = omega (arith, same.position, sum, is, polls.0) in ap (λ (x : ℕ). x % limits.poll) whole ∙ going.poll);
  soon = omega (arith, polls.0, is, sum, on.not_less, going.soon);
}

pub period_kept : (limits : Limits) (until : ℕ) (due : Bool) (later : ℕ) (old new : PacerState) → Polls limits until due later old new → new.period ≡ old.period
period_kept limits zero due later old new polls = polls.1.period
period_kept limits (suc left) due later old new polls = ap (λ (s : PacerState). s.period) polls.2

plays_same : (start : Spot) (k : ℕ) (mid new : Progress) → IsSameButPoll mid new → PlaysFrom start k mid → PlaysFrom start k new
plays_same start k mid new same before_it = record {
  plays = λ more.
      subst (λ (es : List CallRecord). PlaysTo (script_with start.calls (es ++ more)) start k new.guest new.calls) (sym same.log)
      (subst (λ (c : ℕ). PlaysTo (script_with start.calls (mid.log ++ more)) start k new.guest c) (sym same.calls)
      (subst (λ (g : GuestState). PlaysTo (script_with start.calls (mid.log ++ more)) start k g mid.calls) (sym same.guest) (before_it.plays more)));
  count = same.calls ∙ before_it.count ∙ ap (λ (es : List CallRecord). start.calls + length es) (sym same.log);
}

-- a part of a run, with a poll behind it
pub advances_same : (old mid new : Progress) → Advances old mid → IsSameButPoll mid new → Advances old new
advances_same old mid new on same = record {
  not_less = omega (arith, on.not_less, same.position);
  plays = λ start k before_it.
      let steps : k + (mid.position - old.position) ≡ k + (new.position - old.position) = omega (arith, same.position) in
      subst (λ (n : ℕ). PlaysFrom start n new) steps (plays_same start (k + (mid.position - old.position)) mid new same (on.plays start k before_it));
  frames = ap (λ (g : GuestState). g.frames.count) same.guest ∙ on.frames;
  origin = ap (λ (g : GuestState). g.origin) same.guest ∙ on.origin;
  calls = omega (arith, on.calls, same.calls, same.position);
}

module _ (limits : Limits) (t : Told) (p : Position) (b : ℕ) (first : PacerState) (answers : ℕ → Bool) where
  -- the run goes on, and no position up to here is a cut
  pub record Walking (l : Progress) (told : Told) (now : PacerState) : Type 0 where
    pub walks : Walks limits p b first answers l.position (l.position + 1) now
    pub runs : RunsTo t p b l told
    pub behind : b ≤ l.position

  pub begins_walk : (l : Progress) (told : Told) (now : PacerState) → l.position ≡ b → RunsTo t p b l told → HasAnswered answers (b / limits.poll) first now → Walking l told now
  begins_walk l told now is runs answered = record {
    walks = record {
      later = answers;
      agrees = λ k le. refl;
      answered = subst (λ (x : ℕ). HasAnswered answers (x / limits.poll) first now) (sym is) answered;
      none = λ s more less. absurd (omega (arith, more, less, is));
    };
    runs = runs;
    behind = omega (arith, is);
  }

  -- behind a poll: what is a cut up to here, and whether this position is one
  pub record Turned (due : Bool) (l : Progress) (told : Told) (now : PacerState) : Type 0 where
    pub walks : Walks limits p b first answers l.position l.position now
    pub runs : RunsTo t p b l told
    pub later : b < l.position
    pub cut : is_cut (limits_of limits) walks.later p b l.position ≡ (due || is_full (limits_of limits) (position_at b p) (l.position - b))

  -- none is a cut before this position, whatever is answered there
  none_before : (old mid : Progress) (now : PacerState) (w : Walks limits p b first answers old.position (old.position + 1) now) (n : ℕ) → IsBefore old.position old.until_poll limits.poll n → IsOpen limits old
      → IsQuiet (limits_of limits) p b old.position mid.position → mid.position + mid.until_poll ≡ old.position + old.until_poll → (a : ℕ → Bool) → ((k : ℕ) → k ≤ n → a k ≡ w.later k) → HasNoCut (limits_of limits) a p b mid.position
  none_before old mid now w n at going quiet sum a agree s more less = by (cases_lt old.position s)
    where
      here : is_cut (limits_of limits) a p b s ≡ is_cut (limits_of limits) w.later p b s
      here = cut_same (limits_of limits) a w.later p b s (agree (s / limits.poll) (quotient_below s n limits.poll (omega (arith, less, sum, at.sum)) (omega (arith, limits.poll_range.0))))

      quiet_here : old.position < s → is_cut (limits_of limits) w.later p b s ≡ false
      quiet_here lt =
          let u = old.position + old.until_poll - s in
          let paced : is_paced (limits_of limits) w.later s ≡ false = not_paced (limits_of limits) w.later s u n (record { sum = omega (arith, at.sum, less, sum); some = omega (arith, less, sum); few = omega (arith, lt, going.soon) }) (omega (arith, lt, going.soon, less, sum)) in
          rw (paced, quiet s lt less) refl

      by : (old.position < s) ⊎ (s ≤ old.position) → is_cut (limits_of limits) a p b s ≡ false
      by (inl lt) = here ∙ quiet_here lt
      by (inr le) = here ∙ w.none s more (omega (arith, le))

  -- the run as it stands behind a poll
  runs_same : (mid new : Progress) (told : Told) → IsSameButPoll mid new → RunsTo t p b mid told → RunsTo t p b new told
  runs_same mid new told same runs = record {
    position = runs.position;
    stands = ap (λ (n : ℕ). Rattle.guest_model.specs.Serial.run_of n p) same.position ∙ runs.stands;
    machine = runs.machine ∙ ap (λ (g : _). g.machine) (sym same.guest);
    calls = runs.calls ∙ sym same.calls;
    told_is = runs.told_is ∙ ap (λ (n : ℕ). Rattle.syscall_layer.specs.Serve.told_after t runs.position.world (Rattle.guest_model.specs.Serial.sent_of n p)) (sym same.position);
    entries = same.log ∙ runs.entries ∙ ap (λ (n : ℕ). Rattle.guest_model.specs.Serial.entries_of (n - b) (position_at b p)) (sym same.position);
    marks = ap (λ (g : _). g.frames.written) same.guest ∙ runs.marks
        ∙ ap (λ (n : ℕ). Rattle.guest_mem.specs.Frames.marked_for_all (Rattle.cow_pages.specs.Marks.unmarked (2 ^ 20)) (Rattle.boundary_verify.specs.Cuts.writes_of (n - b) (position_at b p))) (sym same.position);
  }

  pub turned : (old mid new : Progress) (told later_told : Told) (now later : PacerState) (due : Bool) (until : ℕ) → IsOpen limits old → Walking old told now → RunsTo t p b mid later_told
      → IsQuiet (limits_of limits) p b old.position mid.position → old.position < mid.position → mid.position + mid.until_poll ≡ old.position + old.until_poll → mid.until_poll ≡ until
      → IsSameButPoll mid new → Polls limits until due new.until_poll now later → Turned due new later_told later
  turned old mid new told later_told now later due zero going w runs quiet more sum is same polls =
      let n = before old.position old.until_poll limits.poll going.poll going.asked going.soon in
      let a = with_answer w.walks.later (n.0 + 1) due in
      let poll : 0 < limits.poll = omega (arith, limits.poll_range.0) in
      let there : mid.position ≡ n.0 * limits.poll + limits.poll = omega (arith, sum, is, n.1.sum) in
      let was : HasAnswered w.walks.later n.0 first now = subst (λ (k : ℕ). HasAnswered w.walks.later k first now) (before_quotient old.position old.until_poll limits.poll n.0 n.1) w.walks.answered in
      let asked : HasAnswered a (n.0 + 1) first later = answered_more w.walks.later n.0 due first now later was polls.1 in
      let agree : (k : ℕ) → k ≤ n.0 → a k ≡ w.walks.later k = λ k le. answer_before w.walks.later (n.0 + 1) k due (omega (arith, le)) in
      let none = none_before old mid now w.walks n.0 n.1 going quiet sum a agree in
      record {
        walks = record {
          later = a;
          agrees = λ k le. agree k (omega (arith, le, quotient_below b n.0 limits.poll (omega (arith, w.behind, n.1.sum, n.1.some)) poll)) ∙ w.walks.agrees k le;
          answered = subst (λ (k : ℕ). HasAnswered a k first later) (sym (ap (λ (x : ℕ). x / limits.poll) same.position ∙ quotient_at mid.position n.0 limits.poll there poll)) asked;
          none = subst (λ (x : ℕ). HasNoCut (limits_of limits) a p b x) (sym same.position) none;
        };
        runs = runs_same mid new later_told same runs;
        later = omega (arith, w.behind, more, same.position);
        cut = ap (λ (x : Bool). x || is_full (limits_of limits) (position_at b p) (new.position - b))
            (paced_at (limits_of limits) a new.position n.0 (omega (arith, same.position, there)) poll ∙ answer_there w.walks.later (n.0 + 1) due);
      }
  turned old mid new told later_told now later due (suc left) going w runs quiet more sum is same polls =
      let n = before old.position old.until_poll limits.poll going.poll going.asked going.soon in
      let at : IsBefore mid.position mid.until_poll limits.poll n.0 = record { sum = omega (arith, sum, n.1.sum); some = omega (arith, is); few = omega (arith, sum, more, going.soon) } in
      let none = none_before old mid now w.walks n.0 n.1 going quiet sum w.walks.later (λ k le. refl) in
      record {
        walks = record {
          later = w.walks.later;
          agrees = w.walks.agrees;
          answered = subst (λ (s : PacerState). HasAnswered w.walks.later (new.position / limits.poll) first s) (sym polls.2)
              (subst (λ (k : ℕ). HasAnswered w.walks.later k first now)
              (before_quotient old.position old.until_poll limits.poll n.0 n.1 ∙ sym (ap (λ (x : ℕ). x / limits.poll) same.position ∙ before_quotient mid.position mid.until_poll limits.poll n.0 at)) w.walks.answered);
          none = subst (λ (x : ℕ). HasNoCut (limits_of limits) w.walks.later p b x) (sym same.position) none;
        };
        runs = runs_same mid new later_told same runs;
        later = omega (arith, w.behind, more, same.position);
        cut = ap (λ (x : Bool). x || is_full (limits_of limits) (position_at b p) (new.position - b))
            (ap (is_paced (limits_of limits) w.walks.later) same.position ∙ not_paced (limits_of limits) w.walks.later mid.position mid.until_poll n.0 at (omega (arith, sum, more, going.soon)) ∙ sym polls.1);
      }

  -- this position is no cut
  pub goes_on : (l : Progress) (told : Told) (now : PacerState) (due : Bool) → Turned due l told now → due ≡ false → IsBelow limits l → Walking l told now
  goes_on l told now due w false_here below =
      let full = none_full t p b limits l told w.runs (omega (arith, w.later)) below in
      let here : is_cut (limits_of limits) w.walks.later p b l.position ≡ false = w.cut ∙ rw (false_here, full) refl in
      record {
        walks = record {
          later = w.walks.later;
          agrees = w.walks.agrees;
          answered = w.walks.answered;
          none = λ s more less. up_to w.walks.later here s more less (cases_lt s l.position) (w.walks.none s more);
        };
        runs = w.runs;
        behind = omega (arith, w.later);
      }
    where
      up_to : (a : ℕ → Bool) → is_cut (limits_of limits) a p b l.position ≡ false → (s : ℕ) → b < s → s < l.position + 1 → (s < l.position) ⊎ (l.position ≤ s) → (s < l.position → is_cut (limits_of limits) a p b s ≡ false) → is_cut (limits_of limits) a p b s ≡ false
      up_to a here s more less (inl lt) earlier = earlier lt
      up_to a here s more less (inr le) earlier = let same : s ≡ l.position = omega (arith, less, le) in ap (is_cut (limits_of limits) a p b) same ∙ here

  -- it is one
  pub finds : (l : Progress) (told : Told) (now : PacerState) (due : Bool) → Turned due l told now → (due ≡ true) ⊎ (IsBelow limits l → ⊥) → FindsCut limits t p b first answers l told now
  finds l told now due w is = record { walks = w.walks; runs = w.runs; later = w.later; cut = w.cut ∙ by is }
    where
      by : (due ≡ true) ⊎ (IsBelow limits l → ⊥) → (due || is_full (limits_of limits) (position_at b p) (l.position - b)) ≡ true
      by (inl true_here) = rw true_here refl
      by (inr full) = elim (cases_Bool (is_full (limits_of limits) (position_at b p) (l.position - b))) [
        | inl there ↦ or_true due (is_full (limits_of limits) (position_at b p) (l.position - b)) there
        | inr none ↦ absurd (full (is_below t p b limits l told w.runs (omega (arith, w.later)) none))
      ]
        where
          or_true : (x y : Bool) → y ≡ true → (x || y) ≡ true
          or_true true y h = refl
          or_true false y h = h

  -- where the run stops before the next poll
  pub stops_walk : (old new : Progress) (told : Told) (now : PacerState) → IsOpen limits old → Walking old told now → IsQuiet (limits_of limits) p b old.position (new.position + 1) → old.position ≤ new.position
      → new.position < old.position + old.until_poll → Walks limits p b first answers new.position (new.position + 1) now
  stops_walk old new told now going w quiet from soon =
      let n = before old.position old.until_poll limits.poll going.poll going.asked going.soon in
      let at : IsBefore new.position (old.position + old.until_poll - new.position) limits.poll n.0 = record { sum = omega (arith, n.1.sum, soon); some = omega (arith, soon); few = omega (arith, from, going.soon) } in
      record {
        later = w.walks.later;
        agrees = w.walks.agrees;
        answered = subst (λ (k : ℕ). HasAnswered w.walks.later k first now) (before_quotient old.position old.until_poll limits.poll n.0 n.1 ∙ sym (before_quotient new.position (old.position + old.until_poll - new.position) limits.poll n.0 at)) w.walks.answered;
        none = none_before old (record old { position = new.position + 1; until_poll = old.position + old.until_poll - (new.position + 1) }) now w.walks n.0 n.1 going quiet (omega (arith, soon)) w.walks.later (λ k le. refl);
      }

  -- what a fault of a part makes of the whole
  pub fault_reached : (old new : Progress) (told later : Told) (now : PacerState) (fault : RunFault) → IsOpen limits old → Walking old told now → LeadsTo limits t p b old (Err fault) new later → IsBeforePoll (Err fault) old new
      → Reaches limits t p b first answers (Err fault) new later now
  fault_reached old new told later now (faults.Unsupported number pc) going w leads at = (stops_walk old new told now going w leads.1 at.0 at.1, leads.0)
  fault_reached old new told later now (faults.BudgetSpent n) going w leads at = absurd leads.0
  fault_reached old new told later now faults.InputFault going w leads at = (stops_walk old new told now going w leads.1 at.0 at.1, leads.0)
  fault_reached old new told later now (faults.OutputFault port) going w leads at = (stops_walk old new told now going w leads.1 at.0 at.1, leads.0)
  fault_reached old new told later now faults.NoMemory going w leads at = leads.0
