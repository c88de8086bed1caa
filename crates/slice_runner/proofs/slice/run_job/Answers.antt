use Rattle.std.proofs.Common.{ℕ, Bool, true, false, refl, sym, ap, subst}
use Rattle.std.specs.Prelude.{is_some}
use Rattle.guest_model.specs.Machine.{instruction_at}
use Rattle.guest_model.specs.Play.{spot}
use Rattle.boundary_verify.specs.Job.{IsJob, JobFields, path_of, script_of_job}
use Rattle.slice_runner.specs.Piece.{IsPieceWith, counts_of}
use Rattle.slice_runner.specs.Turn.{IsTurn}
use Rattle.slice_runner.proofs.SoFar.{Played}
use Rattle.slice_runner.proofs.Slices.{heard_more, heard_none, next_has, piece_at_end, piece_at_halt, played_more, played_none, tested_more, tested_none}
use Rattle.slice_runner.proofs.slice.run_job.Goals as goal

pub loop-turn-init : goal.loop-turn-init
loop-turn-init g c =
    let job = c.args.job.now in record {
      played = subst (λ (n : ℕ). Played job job.peak 0 c.args.guest n) (sym (ap (λ (j : JobFields). j.position) c.job.view_is)) (played_none job job.peak c.args.guest c.requires.guest);
      heard = heard_none (g.T.Tool.is_local c.args.tool.now) c.args.plan.now (path_of job) c.args.local c.requires.local;
      tested = tested_none job;
    }

pub play_turn-requires-clause-frames : goal.play_turn-requires-clause-frames
play_turn-requires-clause-frames g c κs within =
    next_has c.args.job.now c.loop-turn.turn c.loop-turn.guest c.loop-turn.calls (subst IsJob c.job.view_is c.job.invariant) c.loop-turn.invariant.played c.know_frames.ensures

pub returns-then-not-branch-clause-piece : goal.returns-then-not-branch-clause-piece
returns-then-not-branch-clause-piece g c =
    let job = c.args.job.now in
    let stands = g.T.Tool.is_local c.args.tool.now in
    let old = c.loop-turn.guest in
    let new = c.play_turn.new.guest in
    let k = c.loop-turn.turn in
    let turn : IsTurn (script_of_job job) old c.loop-turn.calls false new c.play_turn.new.calls =
    subst (λ (on : Bool). IsTurn (script_of_job job) old c.loop-turn.calls on new c.play_turn.new.calls) c.if-not-branch.true c.in_ok-play_turn.ensures.turn in
    piece_at_halt stands c.args.plan.now job k old new c.loop-turn.calls c.play_turn.new.calls (is_some (instruction_at new.machine)) c.play_turn.new.local c.loop-turn.hits c.piece_of.result
    (subst IsJob c.job.view_is c.job.invariant) c.loop-turn.invariant.played turn refl
    (heard_more stands c.args.plan.now (path_of job) k (spot old.machine c.loop-turn.calls) c.loop-turn.local c.play_turn.new.local c.loop-turn-test.true c.loop-turn.invariant.played.there c.loop-turn.invariant.heard
    c.in_ok-play_turn.ensures.few c.in_ok-play_turn.ensures.events)
    c.loop-turn.invariant.tested
    (subst (λ (n : ℕ). IsPieceWith stands job c.play_turn.new.local n c.play_turn.new.calls c.loop-turn.hits c.piece_of.result) c.tried-steps.ensures c.piece_of.ensures)

pub returns-then-is_at_end-clause-piece : goal.returns-then-is_at_end-clause-piece
returns-then-is_at_end-clause-piece g c =
    let job = c.args.job.now in
    let stands = g.T.Tool.is_local c.args.tool.now in
    let old = c.loop-turn.guest in
    let new = c.play_turn.new.guest in
    let k = c.loop-turn.turn in
    let turn : IsTurn (script_of_job job) old c.loop-turn.calls true new c.play_turn.new.calls =
    subst (λ (on : Bool). IsTurn (script_of_job job) old c.loop-turn.calls on new c.play_turn.new.calls) c.if-not-branch.false c.in_ok-play_turn.ensures.turn in
    piece_at_end stands c.args.plan.now job k old new c.loop-turn.calls c.play_turn.new.calls c.play_turn.new.local c.is_at_end.new.hits c.piece_of-then-is_at_end.result c.loop-turn.invariant.played turn
    (c.if-is_at_end.ensures.end.0 refl)
    (heard_more stands c.args.plan.now (path_of job) k (spot old.machine c.loop-turn.calls) c.loop-turn.local c.play_turn.new.local c.loop-turn-test.true c.loop-turn.invariant.played.there c.loop-turn.invariant.heard
    c.in_ok-play_turn.ensures.few c.in_ok-play_turn.ensures.events)
    (tested_more job k old new c.loop-turn.calls c.play_turn.new.calls (counts_of c.loop-turn.hits) (counts_of c.is_at_end.new.hits) c.loop-turn.invariant.played turn c.loop-turn.invariant.tested c.if-is_at_end.ensures.counts)
    c.piece_of-then-is_at_end.ensures

pub loop-turn-preserved : goal.loop-turn-preserved
loop-turn-preserved g c =
    let job = c.args.job.now in
    let stands = g.T.Tool.is_local c.args.tool.now in
    let old = c.loop-turn.guest in
    let new = c.play_turn.new.guest in
    let k = c.loop-turn.turn in
    let turn : IsTurn (script_of_job job) old c.loop-turn.calls true new c.play_turn.new.calls =
    subst (λ (on : Bool). IsTurn (script_of_job job) old c.loop-turn.calls on new c.play_turn.new.calls) c.if-not-branch.false c.in_ok-play_turn.ensures.turn in
    record {
      played = played_more job k old new c.loop-turn.calls c.play_turn.new.calls c.loop-turn.invariant.played turn (λ e. let no = c.if-is_at_end.ensures.end.1 e in cc (no));
      heard = heard_more stands c.args.plan.now (path_of job) k (spot old.machine c.loop-turn.calls) c.loop-turn.local c.play_turn.new.local c.loop-turn-test.true c.loop-turn.invariant.played.there c.loop-turn.invariant.heard
          c.in_ok-play_turn.ensures.few c.in_ok-play_turn.ensures.events;
      tested = tested_more job k old new c.loop-turn.calls c.play_turn.new.calls (counts_of c.loop-turn.hits) (counts_of c.is_at_end.new.hits) c.loop-turn.invariant.played turn c.loop-turn.invariant.tested c.if-is_at_end.ensures.counts;
    }
