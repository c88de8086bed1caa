use Rattle.std.proofs.Common.{◌≡◌, ◌∙◌, ap, subst, sym, List, map, length}
use Rattle.std.specs.List.{list_all}
use Rattle.call_record.specs.Record.{Stored}
use Rattle.guest_model.specs.Areas.{is_range_permitted}
use Rattle.guest_model.specs.Call.{store_all}
use Rattle.guest_model.specs.Space.{Space, with_bytes}
use Rattle.guest_model.specs.declared.Access.TheVariants.{Write}
use Rattle.guest_mem.specs.Frames.{Frames, HasAllFrames, TakesFrames}
use Rattle.guest_mem.specs.Memory.{Memory}
use Rattle.call_playback.specs.Stores.{range_of}
use Rattle.call_playback.proofs.Finished.{same_space, finished_with}
use Rattle.call_playback.proofs.storing.finish_storing.Goals as goal

pub put_all-requires-clause-writable : goal.put_all-requires-clause-writable
put_all-requires-clause-writable c =
    let test = λ (s : Space) (ws : List Stored). list_all (λ w. is_range_permitted Write s.areas w.at (length w.bytes)) ws in
    ap (λ (m : Memory). test m.space c.args.writes.now) (c.space_mut.ensures.memory)
    ∙ ap (λ (s : Space). test s c.args.writes.now) (same_space c.args.guest.now.machine c.finish_call.new.self.machine c.args.answer c.finish_call.ensures.machine)
    ∙ c.requires.writable

pub put_all-requires-clause-frames : goal.put_all-requires-clause-frames
put_all-requires-clause-frames c =
    let same : c.space_mut.result.now.frames ≡ c.args.guest.now.frames = ap (λ (m : Memory). m.frames) c.space_mut.ensures.memory ∙ c.finish_call.ensures.frames in
    subst (λ (f : Frames). HasAllFrames f (map range_of c.args.writes.now)) (sym same) c.requires.frames

pub returns : goal.returns
returns c =
    let old = c.args.guest.now in
    let answer = c.args.answer in
    let ws = c.args.writes.now in
    let same : c.space_mut.result.now.frames ≡ old.frames = ap (λ (m : Memory). m.frames) c.space_mut.ensures.memory ∙ c.finish_call.ensures.frames in
    let space =
    c.put_all.ensures.space
    ∙ ap (λ (m : Memory). with_bytes m.space (store_all m.space.bytes c.args.writes.now)) c.space_mut.ensures.memory
    ∙ ap (λ (s : Space). with_bytes s (store_all s.bytes c.args.writes.now)) (same_space old.machine c.finish_call.new.self.machine answer c.finish_call.ensures.machine) in
    record {
      machine = finished_with old.machine c.finish_call.new.self.machine answer c.put_all.new.space.space (with_bytes old.machine.space (store_all old.machine.space.bytes ws)) c.finish_call.ensures.machine space;
      frames = subst (λ (f : Frames). TakesFrames f c.put_all.new.space.frames (map range_of ws)) same c.put_all.ensures.frames;
      origin = c.put_all.ensures.origin ∙ (ap (λ (m : Memory). m.origin) c.space_mut.ensures.memory ∙ c.finish_call.ensures.origin);
    }
