use Rattle.std.proofs.Common.{sym, ◌∙◌}
use Rattle.boundary_verify.specs.Job.{script_of_job}
use Rattle.slice_runner.specs.Checked.{fields_of}
use Rattle.slice_runner.proofs.Trying.{room_for_record, same_entry, tried_call, tried_none}
use Rattle.slice_runner.proofs.checked.try_call.Goals as goal

pub play-requires-clause-frames : goal.play-requires-clause-frames
play-requires-clause-frames c =
    room_for_record c.args.guest.now.frames c.args.guest.now.machine c.in-Some.entry.now (sym c.fits.ensures ∙ c.if-not-fits.false) c.requires.frames

pub returns-in-None : goal.returns-in-None
returns-in-None c =
    tried_none (script_of_job (fields_of c.args.draft.now)) c.args.guest.now c.args.calls.now c.requires.call
    (same_entry c.args.draft.now.position c.args.calls.now c.args.draft.now.records.items c.deref.result.now _ c.deref.ensures.value c.in-None.ensures)

pub returns-else-not-fits : goal.returns-else-not-fits
returns-else-not-fits c =
    tried_call (script_of_job (fields_of c.args.draft.now)) c.args.guest.now c.play.new.guest c.args.calls.now c.in-Some.entry.now c.requires.call
    (same_entry c.args.draft.now.position c.args.calls.now c.args.draft.now.records.items c.deref.result.now _ c.deref.ensures.value c.in-Some.ensures) (sym c.fits.ensures ∙ c.if-not-fits.false)
    c.play.ensures.machine c.play.ensures.marks c.play.ensures.origin
