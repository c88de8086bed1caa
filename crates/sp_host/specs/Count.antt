-- Counts that stand still at the end of their type.
use Rattle.std.specs.Prelude.{ℕ, ◌+◌, ◌-◌, ◌^◌, max, min}

-- A count after one more. It stands still at 2^64 - 1.
abbrev pub one_more : ℕ → ℕ
one_more count = max count (min (count + 1) (2 ^ 64 - 1))
