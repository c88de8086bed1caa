use Rattle.std.proofs.Common.{◌+◌, ◌-◌, ◌∙◌, refl, sym, ap, length, take, drop, arith}
use Rattle.guest_model.specs.Bytes.{put_bytes}
use Rattle.guest_model.specs.Space.{Space, with_bytes}
use Rattle.guest_mem.proofs.Ranges.{took_one}
use Rattle.guest_mem.proofs.Stored.{put_none, put_part, length_part, takes_nothing, takes_part, takes_whole, has_left}
use Rattle.guest_mem.proofs.space.Space.store_bytes.Goals as goal

pub loop-done-init : goal.loop-done-init
loop-done-init c = record {
  in_bytes = omega arith;
  space = ap (with_bytes c.args.self.now.space) (sym (put_none c.args.self.now.space.bytes c.args.at));
  frames = takes_nothing c.args.self.now.frames c.args.at;
  origin = refl;
}

pub store_in_page-requires-clause-frames : goal.store_in_page-requires-clause-frames
store_in_page-requires-clause-frames c =
    has_left c.args.self.now.frames c.loop-done.self.frames c.args.at c.loop-done.done c.min-part.result (length c.args.bytes.now) _
    (length_part c.args.bytes.now c.loop-done.done c.min-part.result (omega arith)) (omega arith) c.loop-done.invariant.frames c.requires.frames

pub loop-done-preserved : goal.loop-done-preserved
loop-done-preserved c =
    let at = c.args.at + c.loop-done.done in
    record {
      in_bytes = omega arith;
      space =
          c.store_in_page.ensures.space
          ∙ ap (λ (s : Space). with_bytes s (put_bytes s.bytes at (take (c.loop-done.done + c.min-part.result - c.loop-done.done) (drop c.loop-done.done c.args.bytes.now)))) c.loop-done.invariant.space
          ∙ ap (with_bytes c.args.self.now.space) (put_part c.args.self.now.space.bytes c.args.at c.loop-done.done c.min-part.result c.args.bytes.now (omega arith));
      frames =
          takes_part c.args.self.now.frames c.loop-done.self.frames _ c.args.at c.loop-done.done c.min-part.result _
          (length_part c.args.bytes.now c.loop-done.done c.min-part.result (omega arith)) c.loop-done.invariant.frames (took_one _ _ _ _ c.store_in_page.ensures.frames);
      origin = c.store_in_page.ensures.origin ∙ c.loop-done.invariant.origin;
    }

pub returns-clause-frames : goal.returns-clause-frames
returns-clause-frames c =
    takes_whole c.args.self.now.frames c.loop-done.self.frames c.args.at c.loop-done.done (length c.args.bytes.now) (omega arith) (omega arith) c.loop-done.invariant.frames
