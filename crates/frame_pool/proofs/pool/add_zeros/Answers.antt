use Rattle.std.proofs.Common.{◌≡◌, ℕ, ◌+◌, ◌-◌, ◌≤◌, ◌++◌, ◌∙◌, ap, List, length, take, replicate, arith}
use Rattle.std.proofs.lemmas.List.{take_all}
use Rattle.std.proofs.lemmas.Grind.{common_steps}
use Rattle.frame_pool.proofs.pool.add_zeros.Goals as goal

resized : (xs : List ℕ) (n k len : ℕ) → len ≡ length xs → n ≡ len + k → take n xs ++ replicate (n - len) 0 ≡ xs ++ replicate k 0
resized xs n k len e f =
    let le : length xs ≤ n = omega arith in
    let rest : n - len ≡ k = omega arith in
    ap (λ l. l ++ replicate (n - len) 0) (take_all n xs le) ∙ ap (λ j. xs ++ replicate j 0) rest

pub returns-clause-items : goal.returns-clause-items
returns-clause-items c =
    let shape = resized c.args.bytes.now.items (c.len.result + 4096) 4096 c.args.bytes.now.len (grind (arith, common_steps)) (grind (arith, common_steps)) in
    grind (arith, c.resize.ensures.items, c.unwrap.ensures, shape)
