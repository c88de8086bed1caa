use Rattle.std.proofs.Common.{◌≡◌, ◌/◌, ◌∙◌, ap, get_or, length, arith}
use Rattle.std.proofs.Math.ListN.{set}
use Rattle.std.proofs.lemmas.Grind.{common_steps}
use Rattle.slot_table.specs.Sparse.{entry}
use Rattle.slot_table.proofs.Rules.{few_leaves, sparse_more, entry_more}
use Rattle.slot_table.proofs.table.own_leaf.Goals as goal

pub overflow_cast-len : goal.overflow_cast-len
overflow_cast-len c =
    let none : get_or c.args.directory.now.items c.args.chunk 0 ≡ 0 = grind (arith, common_steps) in
    let len : c.len.result ≡ length c.args.leaves.now.items = grind (arith, common_steps) in
    let few = few_leaves _ _ c.args.chunk (c.len.result / 1024) c.requires.chunk none c.requires.sparse (ap (λ n. n / 1024) len) in
    omega (arith, few.1)

pub add_leaf-requires : goal.add_leaf-requires
add_leaf-requires c =
    let none : get_or c.args.directory.now.items c.args.chunk 0 ≡ 0 = grind (arith, common_steps) in
    let len : c.len.result ≡ length c.args.leaves.now.items = grind (arith, common_steps) in
    let few = few_leaves _ _ c.args.chunk (c.len.result / 1024) c.requires.chunk none c.requires.sparse (ap (λ n. n / 1024) len) in
    omega (arith, few.0, few.1, c.requires.sparse.leaves_len, c.requires.room)

pub returns-then-index-eq0-clause-sparse : goal.returns-then-index-eq0-clause-sparse
returns-then-index-eq0-clause-sparse c =
    let none : get_or c.args.directory.now.items c.args.chunk 0 ≡ 0 = grind (arith, common_steps) in
    let len : c.len.result ≡ length c.args.leaves.now.items = grind (arith, common_steps) in
    let few = few_leaves _ _ c.args.chunk (c.len.result / 1024) c.requires.chunk none c.requires.sparse (ap (λ n. n / 1024) len) in
    rw c.add_leaf.ensures.items (sparse_more c.args.directory.now.items c.args.leaves.now.items c.args.chunk (c.len.result / 1024) c.requires.chunk none few.0 c.requires.sparse)

pub returns-then-index-eq0-clause-same : goal.returns-then-index-eq0-clause-same
returns-then-index-eq0-clause-same c = λ q.
    let none : get_or c.args.directory.now.items c.args.chunk 0 ≡ 0 = grind (arith, common_steps) in
    let len : c.len.result ≡ length c.args.leaves.now.items = grind (arith, common_steps) in
    let few = few_leaves _ _ c.args.chunk (c.len.result / 1024) c.requires.chunk none c.requires.sparse (ap (λ n. n / 1024) len) in
    ap (λ l. entry (set c.args.directory.now.items c.args.chunk (c.len.result / 1024)) l q) c.add_leaf.ensures.items
    ∙ entry_more c.args.directory.now.items c.args.leaves.now.items c.args.chunk (c.len.result / 1024) c.requires.chunk none few.0 c.requires.sparse q
