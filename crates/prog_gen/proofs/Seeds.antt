-- Draws one after the other.
use Rattle.std.proofs.Common.{◌≡◌, ℕ, ◌+◌, ◌*◌, ◌%◌, ◌^◌, sym, ◌∙◌, ap, add-one, refl}
use Rattle.std.proofs.Math.Nat.{mod-add-mod}
use Rattle.prog_gen.specs.Draws.{state, next}

pub state_first : (seed : ℕ) → seed ≡ state seed 0
unfolding state
state_first seed = refl

pub state_next : (seed k x : ℕ) → x ≡ state seed k → (x * 6364136223846793005 % 2 ^ 64 + 1442695040888963407) % 2 ^ 64 ≡ state seed (k + 1)
unfolding state
state_next seed k x is =
    mod-add-mod (x * 6364136223846793005) (2 ^ 64) 1442695040888963407 ∙ ap next is ∙ ap (state seed) (sym (add-one k))
