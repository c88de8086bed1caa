use Rattle.std.proofs.Common.{◌≡◌, ◌≤◌, ◌+◌, ◌-◌, ℕ, List, arith, refl, sym, ap, subst, ◌∙◌}
use Rattle.std.specs.Prelude.{Option, Ok, [], ◌∷◌, ◌++◌}
use Rattle.cow_pages.specs.Marks.{count_marked}
use Rattle.sp_host.specs.Told.{Told}
use Rattle.guest_model.specs.Play.{spot}
use Rattle.guest_mem.specs.Memory.{IsChangedWithin, Memory}
use Rattle.rv_machine.specs.declared.step.End.{End as GuestEnd}
use Rattle.sp_report.specs.Lines.{end_by}
use Rattle.boundary_verify.specs.Job.{JobFields, boundary_of}
use Rattle.boundary_verify.specs.Path as paths
use Rattle.boundary_verify.specs.declared.job.Boundary.TheVariants.{At, End}
use Rattle.master_run.specs.Answers.{PacerState}
use Rattle.master_run.specs.Inside.{seen_of}
use Rattle.master_run.specs.Master as seen
use Rattle.master_run.specs.Master.{HasRunTo, MasterState}
use Rattle.master_run.specs.Progress.{Advances, CutOrEnds, FindsCut, Reaches, RunsTo}
use Rattle.master_run.specs.declared.master.Stage.TheVariants.{Over}
use Rattle.master_run.proofs.Jobs.{IsJobOf, LastsSo, lasts_cut, lasts_end, plays_part}
use Rattle.master_run.proofs.Handing.{all_cuts, behind_cut, fault_hands, path_cut, path_end, runs_at_cut}
use Rattle.master_run.proofs.turn.make_turn.Goals as goal

pub invariant_of-job : goal.invariant_of-job
invariant_of-job g c =
    let limits = c.args.limits.now in
    let old = c.args.progress.now in
    let new = c.next_cut.new.self in
    let n = new.position - old.position in
    let start = c.requires.start in
    let ends = subst (λ (o : Option GuestEnd). CutOrEnds limits o old new) c.in-Ok-None.field-0-is c.in-Ok-None.ensures.ends in
    let goes : Advances old new = c.in-Ok-None.ensures.goes in
    let job : JobFields = record { index = c.len-index.result; start = c.args.start; position = old.calls; records = c.cut.result.items; end = At c.in-Ok.end c.take_cut.new.progress.calls; peak = c.written-peak.result } in
    let is : IsJobOf job old new = record {
      start = start.machine;
      position = refl;
      records = c.cut.ensures.records ∙ c.take_cut.ensures.log;
      peak = c.written-peak.ensures.written ∙ ap (λ (m : Memory). count_marked m.frames.written) c.space.ensures;
    } in
    let machine = c.in-Ok.ensures.end.0 in
    let end : boundary_of job.end ≡ paths.At (spot new.guest.machine new.calls) = λ i. paths.At (spot (machine i) (c.take_cut.ensures.calls i)) in
    let so : LastsSo job n = lasts_cut job old new n is end (plays_part old new limits.frames goes start.log start.frames) (omega (arith, ends.1)) (omega (arith, ends.0.within, limits.budget_range.1)) in
    record {
      position = omega (arith, start.goes.calls, start.goes.within, limits.budget_range.1);
      lasts = (n, so.lasts);
      near = subst (λ (bytes : List ℕ). IsChangedWithin c.in-Ok.end.changed bytes c.in-Ok.end.machine.space) (goes.origin ∙ start.origin) c.in-Ok.ensures.end.1;
    }

pub returns-in-Ok-clause-turn : goal.returns-in-Ok-clause-turn
returns-in-Ok-clause-turn g c =
    let limits = c.args.limits.now in
    let old = c.args.progress.now in
    let new = c.next_cut.new.self in
    let n = new.position - old.position in
    let start = c.requires.start in
    let ends = subst (λ (o : Option GuestEnd). CutOrEnds limits o old new) c.in-Ok-None.field-0-is c.in-Ok-None.ensures.ends in
    let goes : Advances old new = c.in-Ok-None.ensures.goes in
    let job : JobFields = record { index = c.len-index.result; start = c.args.start; position = old.calls; records = c.cut.result.items; end = At c.in-Ok.end c.take_cut.new.progress.calls; peak = c.written-peak.result } in
    let is : IsJobOf job old new = record {
      start = start.machine;
      position = refl;
      records = c.cut.ensures.records ∙ c.take_cut.ensures.log;
      peak = c.written-peak.ensures.written ∙ ap (λ (m : Memory). count_marked m.frames.written) c.space.ensures;
    } in
    let machine = c.in-Ok.ensures.end.0 in
    let end : boundary_of job.end ≡ paths.At (spot new.guest.machine new.calls) = λ i. paths.At (spot (machine i) (c.take_cut.ensures.calls i)) in
    let so : LastsSo job n = lasts_cut job old new n is end (plays_part old new limits.frames goes start.log start.frames) (omega (arith, ends.1)) (omega (arith, ends.0.within, limits.budget_range.1)) in
    let place = c.take_cut.ensures.position in
    let steps : n ≡ c.take_cut.new.progress.position - old.position = ap (λ (x : ℕ). x - old.position) (sym place) in
    let there : LastsSo job (c.take_cut.new.progress.position - old.position) = subst (LastsSo job) steps so in
    record {
      starts = record { index = omega (arith, c.len-index.ensures, c.args.cuts.now.ok); start = start.machine; position = refl; lasts = there.lasts; peak = there.peak };
      later = omega (arith, ends.1, place);
      within = omega (arith, ends.0.within, place);
      end = λ i. paths.At (spot ((machine ∙ sym c.take_cut.ensures.machine) i) c.take_cut.new.progress.calls);
      cuts = c.in-Ok.ensures.cuts ∙ ap (λ (x : ℕ). c.args.cuts.now.items ++ x ∷ []) (sym place);
      ready = refl;
    }

pub returns-in-Ok-clause-told : goal.returns-in-Ok-clause-told
returns-in-Ok-clause-told g c t p first h =
    let limits = c.args.limits.now in
    let old = c.args.progress.now in
    let new = c.next_cut.new.self in
    let n = new.position - old.position in
    let start = c.requires.start in
    let ends = subst (λ (o : Option GuestEnd). CutOrEnds limits o old new) c.in-Ok-None.field-0-is c.in-Ok-None.ensures.ends in
    let goes : Advances old new = c.in-Ok-None.ensures.goes in
    let job : JobFields = record { index = c.len-index.result; start = c.args.start; position = old.calls; records = c.cut.result.items; end = At c.in-Ok.end c.take_cut.new.progress.calls; peak = c.written-peak.result } in
    let is : IsJobOf job old new = record {
      start = start.machine;
      position = refl;
      records = c.cut.ensures.records ∙ c.take_cut.ensures.log;
      peak = c.written-peak.ensures.written ∙ ap (λ (m : Memory). count_marked m.frames.written) c.space.ensures;
    } in
    let machine = c.in-Ok.ensures.end.0 in
    let end : boundary_of job.end ≡ paths.At (spot new.guest.machine new.calls) = λ i. paths.At (spot (machine i) (c.take_cut.ensures.calls i)) in
    let told : Told = g.H.Host.told c.args.host.now in
    let later : Told = g.H.Host.told c.next_cut.new.host in
    let now : PacerState = record { period = g.P.Pacer.period_shown c.args.pacer.now; tally = g.P.Pacer.tally c.args.pacer.now; answers = g.P.Pacer.answers c.args.pacer.now } in
    let shown : PacerState = record { period = g.P.Pacer.period_shown c.next_cut.new.pacer; tally = g.P.Pacer.tally c.next_cut.new.pacer; answers = g.P.Pacer.answers c.next_cut.new.pacer } in
    let runs : RunsTo t p old.position old told = runs_at_cut limits t p first old c.args.cuts.now.items (seen_of limits old c.args.cuts.now.items Over) told now c.args.start start refl refl refl h in
    let f : FindsCut limits t p old.position first h.answers new later shown =
    subst (λ (o : Option GuestEnd). Reaches limits t p old.position first h.answers (Ok o) new later shown) c.in-Ok-None.field-0-is (c.in-Ok-None.ensures.told t p first h.answers runs h.answered) in
    let stands = behind_cut limits t p first old new c.args.cuts.now.items (seen_of limits old c.args.cuts.now.items Over) told later now shown h refl refl refl f seen.Ready in
    let same : record { machine = new.guest.machine; position = new.position; calls = new.calls; cuts = c.args.cuts.now.items ++ new.position ∷ []; limits = limits; standing = seen.Ready }
    ≡ record { machine = c.take_cut.new.progress.guest.machine; position = c.take_cut.new.progress.position; calls = c.take_cut.new.progress.calls; cuts = c.take_cut.new.cuts.items; limits = limits; standing = seen.Ready } =
    λ i. record {
      machine = sym c.take_cut.ensures.machine i;
      position = sym c.take_cut.ensures.position i;
      calls = sym c.take_cut.ensures.calls i;
      cuts = sym c.in-Ok.ensures.cuts i;
      limits = limits;
      standing = seen.Ready;
    } in (
      subst (λ (m : MasterState). HasRunTo t p first m later shown) same stands,
      path_cut limits t p first job old new told later is runs f.runs end ∙ ap (λ (x : ℕ). paths.path_between p old.position x) (sym c.take_cut.ensures.position),
    )

pub returns-in-Err-take_cut-clause-told : goal.returns-in-Err-take_cut-clause-told
returns-in-Err-take_cut-clause-told g c t p first h =
    let limits = c.args.limits.now in
    let old = c.args.progress.now in
    let new = c.next_cut.new.self in
    let start = c.requires.start in
    let told : Told = g.H.Host.told c.args.host.now in
    let later : Told = g.H.Host.told c.next_cut.new.host in
    let now : PacerState = record { period = g.P.Pacer.period_shown c.args.pacer.now; tally = g.P.Pacer.tally c.args.pacer.now; answers = g.P.Pacer.answers c.args.pacer.now } in
    let shown : PacerState = record { period = g.P.Pacer.period_shown c.next_cut.new.pacer; tally = g.P.Pacer.tally c.next_cut.new.pacer; answers = g.P.Pacer.answers c.next_cut.new.pacer } in
    let runs : RunsTo t p old.position old told = runs_at_cut limits t p first old c.args.cuts.now.items (seen_of limits old c.args.cuts.now.items Over) told now c.args.start start refl refl refl h in
    let f : FindsCut limits t p old.position first h.answers new later shown =
    subst (λ (o : Option GuestEnd). Reaches limits t p old.position first h.answers (Ok o) new later shown) c.in-Ok-None.field-0-is (c.in-Ok-None.ensures.told t p first h.answers runs h.answered) in
    let place = sym c.take_cut.ensures.position in
    record {
      position = f.runs.position;
      stands = subst (λ (x : ℕ). Rattle.guest_model.specs.Serial.run_of x p ≡ Rattle.guest_model.specs.Runs.Running f.runs.position) place f.runs.stands;
      within = subst (λ (x : ℕ). x ≤ limits.budget) place c.in-Ok-None.ensures.within;
      told_is = subst (λ (x : ℕ). later ≡ Rattle.syscall_layer.specs.Serve.told_after t f.runs.position.world (Rattle.guest_model.specs.Serial.sent_of x p)) place f.runs.told_is;
    }

pub invariant_of-job-in-Ok-Some : goal.invariant_of-job-in-Ok-Some
invariant_of-job-in-Ok-Some g c =
    let limits = c.args.limits.now in
    let old = c.args.progress.now in
    let new = c.next_cut.new.self in
    let n = new.position - old.position in
    let start = c.requires.start in
    let ends = subst (λ (o : Option GuestEnd). CutOrEnds limits o old new) c.in-Ok-Some.field-0-is c.in-Ok-Some.ensures.ends in
    let goes : Advances old new = c.in-Ok-Some.ensures.goes in
    let job : JobFields = record { index = c.len-index.result; start = c.args.start; position = old.calls; records = c.cut-in-Ok-Some.result.items; end = End; peak = c.written.result } in
    let is : IsJobOf job old new = record {
      start = start.machine;
      position = refl;
      records = c.cut-in-Ok-Some.ensures.records;
      peak = c.written.ensures.written ∙ ap (λ (m : Memory). count_marked m.frames.written) c.space-in-Ok-Some.ensures;
    } in
    let so : LastsSo job (n + 1) = lasts_end job old new n c.in-Ok-Some.end is refl (plays_part old new limits.frames goes start.log start.frames) ends.1 (omega (arith, ends.0, limits.budget_range.1)) in
    record {
      position = omega (arith, start.goes.calls, start.goes.within, limits.budget_range.1);
      lasts = (n + 1, so.lasts);
      near = tt;
    }

pub returns-in-Ok-Some-clause-turn : goal.returns-in-Ok-Some-clause-turn
returns-in-Ok-Some-clause-turn g c =
    let limits = c.args.limits.now in
    let old = c.args.progress.now in
    let new = c.next_cut.new.self in
    let n = new.position - old.position in
    let start = c.requires.start in
    let ends = subst (λ (o : Option GuestEnd). CutOrEnds limits o old new) c.in-Ok-Some.field-0-is c.in-Ok-Some.ensures.ends in
    let goes : Advances old new = c.in-Ok-Some.ensures.goes in
    let job : JobFields = record { index = c.len-index.result; start = c.args.start; position = old.calls; records = c.cut-in-Ok-Some.result.items; end = End; peak = c.written.result } in
    let is : IsJobOf job old new = record {
      start = start.machine;
      position = refl;
      records = c.cut-in-Ok-Some.ensures.records;
      peak = c.written.ensures.written ∙ ap (λ (m : Memory). count_marked m.frames.written) c.space-in-Ok-Some.ensures;
    } in
    let so : LastsSo job (n + 1) = lasts_end job old new n c.in-Ok-Some.end is refl (plays_part old new limits.frames goes start.log start.frames) ends.1 (omega (arith, ends.0, limits.budget_range.1)) in
    let steps : n + 1 ≡ new.position + 1 - old.position = omega (arith, goes.not_less) in
    let there : LastsSo job (new.position + 1 - old.position) = subst (LastsSo job) steps so in
    record {
      starts = record { index = omega (arith, c.len-index.ensures, c.args.cuts.now.ok); start = start.machine; position = refl; lasts = there.lasts; peak = there.peak };
      later = goes.not_less;
      within = ends.0;
      end = refl;
      cuts = refl;
      over = refl;
    }

pub returns-in-Ok-Some-clause-told : goal.returns-in-Ok-Some-clause-told
returns-in-Ok-Some-clause-told g c t p first h =
    let limits = c.args.limits.now in
    let old = c.args.progress.now in
    let new = c.next_cut.new.self in
    let n = new.position - old.position in
    let start = c.requires.start in
    let ends = subst (λ (o : Option GuestEnd). CutOrEnds limits o old new) c.in-Ok-Some.field-0-is c.in-Ok-Some.ensures.ends in
    let goes : Advances old new = c.in-Ok-Some.ensures.goes in
    let job : JobFields = record { index = c.len-index.result; start = c.args.start; position = old.calls; records = c.cut-in-Ok-Some.result.items; end = End; peak = c.written.result } in
    let is : IsJobOf job old new = record {
      start = start.machine;
      position = refl;
      records = c.cut-in-Ok-Some.ensures.records;
      peak = c.written.ensures.written ∙ ap (λ (m : Memory). count_marked m.frames.written) c.space-in-Ok-Some.ensures;
    } in
    let told : Told = g.H.Host.told c.args.host.now in
    let later : Told = g.H.Host.told c.next_cut.new.host in
    let now : PacerState = record { period = g.P.Pacer.period_shown c.args.pacer.now; tally = g.P.Pacer.tally c.args.pacer.now; answers = g.P.Pacer.answers c.args.pacer.now } in
    let shown : PacerState = record { period = g.P.Pacer.period_shown c.next_cut.new.pacer; tally = g.P.Pacer.tally c.next_cut.new.pacer; answers = g.P.Pacer.answers c.next_cut.new.pacer } in
    let runs : RunsTo t p old.position old told = runs_at_cut limits t p first old c.args.cuts.now.items (seen_of limits old c.args.cuts.now.items Over) told now c.args.start start refl refl refl h in
    let reaches = subst (λ (o : Option GuestEnd). Reaches limits t p old.position first h.answers (Ok o) new later shown) c.in-Ok-Some.field-0-is (c.in-Ok-Some.ensures.told t p first h.answers runs h.answered) in (
      record {
        ends = reaches.1.ends;
        within = ends.0;
        told_is = reaches.1.told_is;
        all = all_cuts limits t p first old new c.args.cuts.now.items (seen_of limits old c.args.cuts.now.items Over) told now shown h refl refl refl goes.not_less reaches.0 new.guest.machine seen.Over;
      },
      path_end limits t p first job old new told later (end_by c.in-Ok-Some.end) is runs reaches.1 refl,
    )

pub returns-in-Err-clause-told : goal.returns-in-Err-clause-told
returns-in-Err-clause-told g c t p first h =
    let limits = c.args.limits.now in
    let old = c.args.progress.now in
    let new = c.next_cut.new.self in
    let start = c.requires.start in
    let told : Told = g.H.Host.told c.args.host.now in
    let later : Told = g.H.Host.told c.next_cut.new.host in
    let now : PacerState = record { period = g.P.Pacer.period_shown c.args.pacer.now; tally = g.P.Pacer.tally c.args.pacer.now; answers = g.P.Pacer.answers c.args.pacer.now } in
    let shown : PacerState = record { period = g.P.Pacer.period_shown c.next_cut.new.pacer; tally = g.P.Pacer.tally c.next_cut.new.pacer; answers = g.P.Pacer.answers c.next_cut.new.pacer } in
    let runs : RunsTo t p old.position old told = runs_at_cut limits t p first old c.args.cuts.now.items (seen_of limits old c.args.cuts.now.items Over) told now c.args.start start refl refl refl h in
    fault_hands limits t p first old new c.args.cuts.now.items (seen_of limits old c.args.cuts.now.items Over) told later now shown h c.in-Err.fault refl c.in-Err.ensures.within c.in-Err.ensures.tried c.in-Err.ensures.later (c.in-Err.ensures.told t p first h.answers runs h.answered)
