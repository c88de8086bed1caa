use Rattle.std.proofs.Common.{◌≡◌, ◌+◌, ◌*◌, ◌≤◌, ◌∙◌, ap, false, true, get_or, length, arith}
use Rattle.frame_pool.proofs.Rules.{frame_in, part_at}
use Rattle.std.proofs.lemmas.Grind.{common_steps}
use Rattle.frame_pool.proofs.pool.Pool.bytes.Goals as goal

pub slice_bounds-result-end : goal.slice_bounds-result-end
slice_bounds-result-end c =
    let given : get_or c.self.inside.given.items c.frame.inside.index false ≡ true =
    ap (λ k. get_or c.self.inside.given.items k false) c.frame.view_is ∙ ap (λ v. get_or v.given c.args.frame.now false) c.self.view_is ∙ c.requires in
    let inside : 4096 * c.frame.inside.index + 4096 ≤ length c.self.inside.bytes.items = frame_in c.self.inside.given.items c.self.inside.bytes.items c.frame.inside.index c.self.invariant.bytes_len given in
    grind (arith, common_steps)

pub returns-clause-bytes : goal.returns-clause-bytes
returns-clause-bytes c = λ i lt. grind (arith, common_steps, part_at c.self.inside.bytes.items (4096 * c.frame.inside.index) 4096 i lt)
