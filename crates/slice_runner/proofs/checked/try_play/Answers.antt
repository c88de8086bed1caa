use Rattle.std.proofs.Common.{◌∙◌, Bool, true, false, ℕ, ◌+◌, ap, inl, arith, refl, subst, sym}
use Rattle.std.specs.Prelude.{Ok}
use Rattle.cow_pages.specs.Marks.{count_marked}
use Rattle.guest_mem.specs.Memory.{Memory}
use Rattle.boundary_verify.specs.Job.{path_of, script_of_job}
use Rattle.guest_model.specs.Play.{spot}
use Rattle.slice_runner.specs.Checked.{EndsJob, Passes, TryGives, fields_of}
use Rattle.slice_runner.proofs.Trying.{end_found, ended_short, fault_found, passes, peak_passed, room_now, same_steps, tried_more, tried_none_yet}
use Rattle.slice_runner.proofs.checked.try_play.Goals as goal

pub loop-steps-init : goal.loop-steps-init
loop-steps-init c = tried_none_yet (fields_of c.args.draft.now) (c.min-frames.result + 31) c.in-Ok.guest c.in-Ok.ensures

pub try_turn-requires-clause-frames : goal.try_turn-requires-clause-frames
try_turn-requires-clause-frames c =
    room_now (fields_of c.args.draft.now) (c.min-frames.result + 31) c.loop-steps.steps c.loop-steps.guest c.loop-steps.calls (ap (λ (n : ℕ). n + 31) c.min-frames.ensures) c.loop-steps.invariant c.know_frames.ensures

pub returns-in-Err : goal.returns-in-Err
returns-in-Err c =
    fault_found (fields_of c.args.draft.now) (c.min-frames.result + 31) c.loop-steps.steps c.args.within c.loop-steps.guest c.try_turn.new.guest c.loop-steps.calls c.try_turn.new.calls c.in-Err.fault
    c.loop-steps.invariant c.loop-steps-test.true c.in-Err.ensures

pub returns-then-pages-draft : goal.returns-then-pages-draft
returns-then-pages-draft c =
    peak_passed (fields_of c.args.draft.now) (c.min-frames.result + 31) c.loop-steps.steps c.args.within c.loop-steps.guest c.try_turn.new.guest c.loop-steps.calls c.try_turn.new.calls c.in-Ok-try_turn.on c.written-pages.result
    c.loop-steps.invariant c.loop-steps-test.true c.in-Ok-try_turn.ensures (c.written-pages.ensures.written ∙ ap (λ (m : Memory). count_marked m.frames.written) c.space.ensures) c.if-pages-draft.true

pub returns-then-is_end : goal.returns-then-is_end
returns-then-is_end c =
    end_found (fields_of c.args.draft.now) (c.min-frames.result + 31) c.loop-steps.steps c.args.within c.loop-steps.guest c.try_turn.new.guest c.loop-steps.calls c.try_turn.new.calls c.in-Ok-try_turn.on c.written-pages.result
    c.loop-steps.invariant c.loop-steps-test.true c.requires.within c.in-Ok-try_turn.ensures (c.written-pages.ensures.written ∙ ap (λ (m : Memory). count_marked m.frames.written) c.space.ensures) (omega (arith, c.if-pages-draft.false)) (c.if-is_end.ensures.0 refl)

pub returns-then-not-on : goal.returns-then-not-on
returns-then-not-on c =
    let job = fields_of c.args.draft.now in
    let old = c.loop-steps.guest in
    let new = c.try_turn.new.guest in
    let later = c.try_turn.new.calls in
    let tried : TryGives (script_of_job job) old c.loop-steps.calls new later (Ok false) =
    subst (λ (on : Bool). TryGives (script_of_job job) old c.loop-steps.calls new later (Ok on)) c.if-not-on.true c.in-Ok-try_turn.ensures in
    ended_short job (c.min-frames.result + 31) c.loop-steps.steps c.args.within old new c.loop-steps.calls later (c.loop-steps.steps + 1) c.loop-steps.invariant c.loop-steps-test.true tried
    (λ e. let no_end = c.if-is_end.ensures.1 (subst (λ (on : Bool). EndsJob job (spot new.machine later) on) (sym c.if-not-on.true) e) in cc (no_end)) refl

pub loop-steps-preserved : goal.loop-steps-preserved
loop-steps-preserved c =
    let job = fields_of c.args.draft.now in
    let old = c.loop-steps.guest in
    let new = c.try_turn.new.guest in
    let later = c.try_turn.new.calls in
    let tried : TryGives (script_of_job job) old c.loop-steps.calls new later (Ok true) =
    subst (λ (on : Bool). TryGives (script_of_job job) old c.loop-steps.calls new later (Ok on)) c.if-not-on.false c.in-Ok-try_turn.ensures in
    tried_more job (c.min-frames.result + 31) c.loop-steps.steps old new c.loop-steps.calls later c.written-pages.result c.loop-steps.invariant tried (c.written-pages.ensures.written ∙ ap (λ (m : Memory). count_marked m.frames.written) c.space.ensures) (omega (arith, c.if-pages-draft.false))
    (λ e. let no_end = c.if-is_end.ensures.1 (subst (λ (on : Bool). EndsJob job (spot new.machine later) on) (sym c.if-not-on.false) e) in cc (no_end))

pub returns : goal.returns
returns c =
    let job = fields_of c.args.draft.now in
    inl (refl, subst (λ (k : ℕ). Passes (path_of job) job.peak k) (same_steps c.loop-steps.steps c.args.within c.loop-steps.auto.steps-end c.loop-steps-test.false) (passes job (c.min-frames.result + 31) c.loop-steps.steps c.loop-steps.guest c.loop-steps.calls c.loop-steps.invariant))
