use Rattle.std.proofs.Common.{◌≡◌, ◌∙◌, ap, sym, refl, subst, List, ℕ, [], ◌∷◌, length, get_or, take}
use Rattle.call_record.specs.Record.{Stored}
use Rattle.guest_model.specs.Bytes.{put_bytes}
use Rattle.guest_model.specs.Call.{store_all}
use Rattle.guest_model.specs.Range.{range}
use Rattle.guest_model.specs.Space.{Space, with_bytes}
use Rattle.guest_mem.specs.Frames.{HasAllFrames, TakesFrames}
use Rattle.guest_mem.proofs.Ranges.{takes_none}
use Rattle.call_playback.proofs.Stores.{has_next, stored_more, takes_next}
use Rattle.call_playback.proofs.storing.put_all.Goals as goal

pub loop-write-init : goal.loop-write-init
loop-write-init c = record { space = refl; frames = takes_none c.args.space.now.frames c.args.space.now.frames refl; origin = refl }

pub put-requires-clause-frames : goal.put-requires-clause-frames
put-requires-clause-frames c =
    let w : Stored = record { at = c.write.inside.at; bytes = c.write.inside.bytes.items } in
    let here : get_or c.args.writes.now c.loop-write.write-index w ≡ w = ap (get_or c.args.writes.now c.loop-write.write-index) c.write.view_is ∙ sym c.write-item.is ∙ sym c.write.view_is in
    subst (λ (xs : List ℕ). HasAllFrames c.loop-write.space.frames (range c.write.inside.at (length xs) ∷ [])) (sym c.deref.ensures.value)
    (has_next c.args.space.now.frames c.loop-write.space.frames c.args.writes.now c.loop-write.write-index w c.loop-write-test.true here c.loop-write.invariant.frames c.requires.frames)

pub loop-write-preserved : goal.loop-write-preserved
loop-write-preserved c =
    let w : Stored = record { at = c.write.inside.at; bytes = c.write.inside.bytes.items } in
    let k = c.loop-write.write-index in
    let old = c.args.space.now.space in
    let here : get_or c.args.writes.now k w ≡ w = ap (get_or c.args.writes.now k) c.write.view_is ∙ sym c.write-item.is ∙ sym c.write.view_is in
    record {
      space =
          c.put.ensures.space
          ∙ ap (λ (s : Space). with_bytes s (put_bytes s.bytes w.at c.deref.result.now)) c.loop-write.invariant.space
          ∙ ap (λ (xs : List ℕ). with_bytes old (put_bytes (store_all old.bytes (take k c.args.writes.now)) w.at xs)) c.deref.ensures.value
          ∙ ap (with_bytes old) (sym (stored_more old.bytes c.args.writes.now k w c.loop-write-test.true here));
      frames =
          takes_next c.args.space.now.frames c.loop-write.space.frames c.put.new.self.frames c.args.writes.now k w c.loop-write-test.true here c.loop-write.invariant.frames
          (subst (λ (xs : List ℕ). TakesFrames c.loop-write.space.frames c.put.new.self.frames (range w.at (length xs) ∷ [])) c.deref.ensures.value c.put.ensures.frames);
      origin = c.put.ensures.origin ∙ c.loop-write.invariant.origin;
    }
