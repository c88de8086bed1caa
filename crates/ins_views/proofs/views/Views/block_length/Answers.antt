use Rattle.std.proofs.Common.{◌∙◌, sym}
use Rattle.ins_views.proofs.Blocks.{walk_ends, walk_goes, walk_stops}
use Rattle.ins_views.proofs.views.Views.block_length.Goals as goal

pub returns-then-is_terminator : goal.returns-then-is_terminator
returns-then-is_terminator c =
    walk_ends c.args.self.now c.args.head c.loop-i.pc c.loop-i.len c.in-Some.i c.loop-i.invariant c.in-Some.ensures.placed (sym c.in-Some.ensures.value) (sym c.is_terminator.ensures ∙ c.if-is_terminator.true)

pub loop-i-preserved : goal.loop-i-preserved
loop-i-preserved c =
    walk_goes c.args.self.now c.args.head c.loop-i.pc c.loop-i.len c.in-Some.i c.loop-i.invariant c.in-Some.ensures.placed (sym c.in-Some.ensures.value) (sym c.is_terminator.ensures ∙ c.if-is_terminator.false)

pub returns : goal.returns
returns c = walk_stops c.args.self.now c.args.head c.loop-i.pc c.loop-i.len c.loop-i.invariant (sym c.in_default.ensures.value)
