use Rattle.std.proofs.Common.{◌∙◌, ap, sym, arith, inr}
use Rattle.guest_model.specs.Calls.{deed_of}
use Rattle.guest_mem.specs.Frames.{Frames}
use Rattle.rv_machine.specs.Guest.{GuestState}
use Rattle.call_playback.proofs.Records.{few_for_record}
use Rattle.syscall_layer.proofs.Kept.{kept_by_call}
use Rattle.tests_playback.proofs.playing.same_when_played.Goals as goal

pub returns-in_default : goal.returns-in_default
returns-in_default c =
    (kept_by_call (deed_of c.snapshot.new.self.machine) c.serve.result c.snapshot.new.self c.serve.new.guest c.serve.ensures.answer).count
    ∙ ap (λ (f : Frames). f.count) (c.in_ok-base.ensures.frames) ∙ c.requires.frames

pub play-requires-clause-frames : goal.play-requires-clause-frames
play-requires-clause-frames c =
    let other = c.in_ok-other.other in
    let fits = sym c.fits.ensures ∙ c.if-not-fits.false in
    inr (omega (arith, few_for_record other.frames.framed other.machine c.in-Ok-Went.record fits, ap (λ (g : GuestState). g.frames.free) c.in_ok-other.ensures))
