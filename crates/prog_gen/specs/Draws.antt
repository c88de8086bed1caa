-- Numbers that are drawn from a seed.
use Rattle.std.specs.Prelude.{ℕ, zero, suc, ◌+◌, ◌*◌, ◌/◌, ◌%◌, ◌^◌}

-- what a draw makes of x
abbrev pub next : ℕ → ℕ
next x = (x * 6364136223846793005 + 1442695040888963407) % 2 ^ 64

-- x after k draws. At first it is the seed.
unfoldable pub state : ℕ → ℕ → ℕ
state seed zero = seed
state seed (suc k) = next (state seed k)

-- the number that the k-th draw gives, the first with number 1: the high 31 bits of x
abbrev pub draw : ℕ → ℕ → ℕ
draw seed k = state seed k / 2 ^ 33
