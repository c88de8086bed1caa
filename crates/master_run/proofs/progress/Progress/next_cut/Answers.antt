use Rattle.std.proofs.Common.{inl, inr, arith, refl, sym, subst, ◌∙◌}
use Rattle.std.specs.Prelude.{Option, Ok}
use Rattle.std.proofs.lemmas.Bool.{true≢false}
use Rattle.sp_host.specs.Told.{Told}
use Rattle.rv_machine.specs.declared.step.End.{End}
use Rattle.master_run.specs.Answers.{PacerState}
use Rattle.master_run.specs.Progress.{EndsOrGoesOn, IsBeforePoll, IsBelow, LeadsTo}
use Rattle.master_run.proofs.Onwards.{advances_more}
use Rattle.master_run.proofs.Walks.{Turned, Walking, advances_same, fault_reached, finds, goes_on, open_more, period_kept, stops_walk, turned}
use Rattle.master_run.proofs.progress.Progress.next_cut.Goals.{then-due-via-then-due, then-due-via-else-due+then-is_full}
use Rattle.master_run.proofs.progress.Progress.next_cut.Goals as goal

pub returns-then-due-clause-goes : goal.returns-then-due-clause-goes
returns-then-due-clause-goes g c =
    advances_same c.args.self.now c.advance.new.self c.poll-due.new.self (advances_more c.args.self.now c.run.self c.advance.new.self c.run.invariant.goes c.in-Ok-None.ensures.goes) c.poll-due.ensures.same

pub returns-then-due-clause-ends : goal.returns-then-due-clause-ends
returns-then-due-clause-ends g c =
    let limits = c.args.limits.now in
    let mid = c.advance.new.self in
    let new = c.poll-due.new.self in
    let ends = subst (λ (o : Option End). EndsOrGoesOn limits o c.run.self mid) c.in-Ok-None.field-0-is c.in-Ok-None.ensures.ends in
    let now : PacerState = record { period = g.P.Pacer.period_shown c.run.pacer; tally = g.P.Pacer.tally c.run.pacer; answers = g.P.Pacer.answers c.run.pacer } in
    let later : PacerState = record { period = g.P.Pacer.period_shown c.poll-due.new.pacer; tally = g.P.Pacer.tally c.poll-due.new.pacer; answers = g.P.Pacer.answers c.poll-due.new.pacer } in (
      open_more limits c.run.self mid new c.poll-due.result now later mid.until_poll c.run.invariant.going c.in-Ok-None.ensures.goes c.in-Ok-None.ensures.poll ends.1 refl c.poll-due.ensures.same c.poll-due.ensures.polls,
      omega (arith, ends.0, c.run.invariant.goes.not_less, c.poll-due.ensures.same.position),
    )

pub returns-then-due-clause-told : goal.returns-then-due-clause-told
returns-then-due-clause-told g c t p first answers runs answered =
    let limits = c.args.limits.now in
    let b = c.args.self.now.position in
    let old = c.run.self in
    let mid = c.advance.new.self in
    let new = c.poll-due.new.self in
    let told : Told = g.H.Host.told c.run.host in
    let later_told : Told = g.H.Host.told c.advance.new.host in
    let now : PacerState = record { period = g.P.Pacer.period_shown c.run.pacer; tally = g.P.Pacer.tally c.run.pacer; answers = g.P.Pacer.answers c.run.pacer } in
    let later : PacerState = record { period = g.P.Pacer.period_shown c.poll-due.new.pacer; tally = g.P.Pacer.tally c.poll-due.new.pacer; answers = g.P.Pacer.answers c.poll-due.new.pacer } in
    let w : Walking limits t p b first answers old told now = c.run.invariant.walking t p first answers runs answered in
    let ends = subst (λ (o : Option End). EndsOrGoesOn limits o old mid) c.in-Ok-None.field-0-is c.in-Ok-None.ensures.ends in
    let leads = subst (λ (o : Option End). LeadsTo limits t p b old (Ok o) mid later_told) c.in-Ok-None.field-0-is (c.in-Ok-None.ensures.told t p b w.behind w.runs) in
    let turn : Turned limits t p b first answers c.poll-due.result new later_told later =
    turned limits t p b first answers old mid new told later_told now later c.poll-due.result mid.until_poll c.run.invariant.going w leads.0 leads.1 ends.0 c.in-Ok-None.ensures.poll refl c.poll-due.ensures.same c.poll-due.ensures.polls in
    finds limits t p b first answers new later_told later c.poll-due.result turn (elim c.then-due.branch [
      | then-due-via-then-due via ↦ inl via.if-due.true
      | then-due-via-else-due+then-is_full via ↦ inr (λ below. absurd (true≢false (sym via.if-is_full.true ∙ via.is_full.ensures.1 below)))
    ])

pub run-preserved : goal.run-preserved
run-preserved g c =
    let limits = c.args.limits.now in
    let b = c.args.self.now.position in
    let old = c.run.self in
    let mid = c.advance.new.self in
    let new = c.poll-due.new.self in
    let told : Told = g.H.Host.told c.run.host in
    let later_told : Told = g.H.Host.told c.advance.new.host in
    let now : PacerState = record { period = g.P.Pacer.period_shown c.run.pacer; tally = g.P.Pacer.tally c.run.pacer; answers = g.P.Pacer.answers c.run.pacer } in
    let later : PacerState = record { period = g.P.Pacer.period_shown c.poll-due.new.pacer; tally = g.P.Pacer.tally c.poll-due.new.pacer; answers = g.P.Pacer.answers c.poll-due.new.pacer } in
    let ends = subst (λ (o : Option End). EndsOrGoesOn limits o old mid) c.in-Ok-None.field-0-is c.in-Ok-None.ensures.ends in
    let below : IsBelow limits new = c.is_full.ensures.0 c.if-is_full.false in
    record {
      going = open_more limits old mid new c.poll-due.result now later mid.until_poll c.run.invariant.going c.in-Ok-None.ensures.goes c.in-Ok-None.ensures.poll ends.1 refl c.poll-due.ensures.same c.poll-due.ensures.polls;
      below = below;
      goes = advances_same c.args.self.now mid new (advances_more c.args.self.now old mid c.run.invariant.goes c.in-Ok-None.ensures.goes) c.poll-due.ensures.same;
      same_faults = c.in-Ok-None.ensures.faults ∙ c.run.invariant.same_faults;
      same_period = period_kept limits mid.until_poll c.poll-due.result new.until_poll now later c.poll-due.ensures.polls ∙ c.run.invariant.same_period;
      walking = λ t p first answers runs answered.
          let w : Walking limits t p b first answers old told now = c.run.invariant.walking t p first answers runs answered in
          let leads = subst (λ (o : Option End). LeadsTo limits t p b old (Ok o) mid later_told) c.in-Ok-None.field-0-is (c.in-Ok-None.ensures.told t p b w.behind w.runs) in
          let turn : Turned limits t p b first answers c.poll-due.result new later_told later =
          turned limits t p b first answers old mid new told later_told now later c.poll-due.result mid.until_poll c.run.invariant.going w leads.0 leads.1 ends.0 c.in-Ok-None.ensures.poll refl c.poll-due.ensures.same c.poll-due.ensures.polls in
          goes_on limits t p b first answers new later_told later c.poll-due.result turn c.if-due.false below;
    }

pub returns-in-Ok-Some-clause-goes : goal.returns-in-Ok-Some-clause-goes
returns-in-Ok-Some-clause-goes g c = advances_more c.args.self.now c.run.self c.advance.new.self c.run.invariant.goes c.in-Ok-Some.ensures.goes

pub returns-in-Ok-Some-clause-told : goal.returns-in-Ok-Some-clause-told
returns-in-Ok-Some-clause-told g c t p first answers runs answered =
    let limits = c.args.limits.now in
    let b = c.args.self.now.position in
    let old = c.run.self in
    let new = c.advance.new.self in
    let told : Told = g.H.Host.told c.run.host in
    let later_told : Told = g.H.Host.told c.advance.new.host in
    let now : PacerState = record { period = g.P.Pacer.period_shown c.run.pacer; tally = g.P.Pacer.tally c.run.pacer; answers = g.P.Pacer.answers c.run.pacer } in
    let w : Walking limits t p b first answers old told now = c.run.invariant.walking t p first answers runs answered in
    let leads = subst (λ (o : Option End). LeadsTo limits t p b old (Ok o) new later_told) c.in-Ok-Some.field-0-is (c.in-Ok-Some.ensures.told t p b w.behind w.runs) in
    let at = subst (λ (o : Option End). IsBeforePoll (Ok o) old new) c.in-Ok-Some.field-0-is c.in-Ok-Some.ensures.before in
    (stops_walk limits t p b first answers old new told now c.run.invariant.going w leads.1 at.0 at.1, leads.0)

pub returns-in-Err-clause-told : goal.returns-in-Err-clause-told
returns-in-Err-clause-told g c t p first answers runs answered =
    let limits = c.args.limits.now in
    let b = c.args.self.now.position in
    let told : Told = g.H.Host.told c.run.host in
    let now : PacerState = record { period = g.P.Pacer.period_shown c.run.pacer; tally = g.P.Pacer.tally c.run.pacer; answers = g.P.Pacer.answers c.run.pacer } in
    let w : Walking limits t p b first answers c.run.self told now = c.run.invariant.walking t p first answers runs answered in
    fault_reached limits t p b first answers c.run.self c.advance.new.self told (g.H.Host.told c.advance.new.host) now c.in-Err.fault c.run.invariant.going w (c.in-Err.ensures.told t p b w.behind w.runs) c.in-Err.ensures.before

pub returns-clause-told : goal.returns-clause-told
returns-clause-told g c t p first answers runs answered =
    let w = c.run.invariant.walking t p first answers runs answered in
    record { walks = w.walks; runs = w.runs; whole = omega (arith, c.run.invariant.going.within, c.run-test.false); budget = refl }
