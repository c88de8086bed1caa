use Rattle.std.proofs.Common.{sym}
use Rattle.boundary_verify.specs.Job.{script_of_job}
use Rattle.guest_model.specs.Play.{spot}
use Rattle.slice_runner.proofs.Turns.{call_turn, has_for_call, none_turn}
use Rattle.slice_runner.proofs.turn.play_call.Goals as goal

pub play-requires-clause-frames : goal.play-requires-clause-frames
play-requires-clause-frames g c =
    has_for_call c.args.guest.now.frames (script_of_job c.args.job.now) (spot c.args.guest.now.machine c.args.calls.now) c.in-Some.entry.now c.requires.call (sym c.in-Some.ensures) c.requires.frames

pub returns-in-None-clause-turn : goal.returns-in-None-clause-turn
returns-in-None-clause-turn g c = none_turn (script_of_job c.args.job.now) c.args.guest.now c.args.calls.now c.requires.call (sym c.in-None.ensures)

pub returns-in-Ok-clause-turn : goal.returns-in-Ok-clause-turn
returns-in-Ok-clause-turn g c =
    call_turn (script_of_job c.args.job.now) c.args.guest.now c.play.new.guest c.args.calls.now c.in-Some.entry.now c.requires.call (sym c.in-Some.ensures) c.play.ensures.machine c.play.ensures.marks c.play.ensures.origin
