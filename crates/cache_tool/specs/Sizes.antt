-- The sizes that a cache may have.
use Rattle.std.specs.Prelude.{◌≡◌, ℕ, ◌&&◌, Bool, nat_le}
use Rattle.std.specs.Int.{is_power_of_two}

-- how many sets: a power of two up to 4,096
abbrev pub is_sets : ℕ → Bool
is_sets n = is_power_of_two n && nat_le n 4096

-- how many bytes a line has: a power of two from 4 to 4,096
abbrev pub is_line : ℕ → Bool
is_line n = is_power_of_two n && (nat_le 4 n && nat_le n 4096)

-- the usual ones: 64 sets of 32 bytes
abbrev pub IsUsual : ℕ → ℕ → Type 0
IsUsual sets line = (sets ≡ 64) × (line ≡ 32)
