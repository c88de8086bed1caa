-- The results of calls that failed (Linux, errno(3)).
use Rattle.std.specs.Prelude.{ℕ, ◌-◌, ◌^◌}

-- an error's result: its number, negative, modulo 2^32
abbrev pub failure : ℕ → ℕ
failure number = 2 ^ 32 - number
