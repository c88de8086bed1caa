-- Words of 32 bits: their bits, and the numbers that they stand for in two's complement.
use Rattle.std.specs.Prelude.{ℕ, ◌+◌, ◌-◌, ◌/◌, ◌%◌, ◌^◌, ℤ, pos, ◌-ℤ◌, if◌then◌else◌, nat_lt, unsigned_abs}
use Rattle.std.specs.Int.{w32, cast_signed, cast_unsigned, int_rem_euclid}

-- bits `high` to `low` of a word, as a number; bit 0 is the lowest
abbrev pub bits : ℕ → ℕ → ℕ → ℕ
bits word high low = word / 2 ^ low % 2 ^ (high - low + 1)

-- the number that the `width` bits of n stand for in two's complement
abbrev pub signed : ℕ → ℕ → ℤ
signed width n = if nat_lt n (2 ^ (width - 1)) then pos n else (pos n -ℤ pos (2 ^ width))

-- a register's 32 bits, read in two's complement
abbrev pub signed_of : ℕ → ℤ
signed_of a = cast_signed w32 a

-- the 32 bits that stand for z in two's complement
abbrev pub unsigned_of : ℤ → ℕ
unsigned_of z = cast_unsigned w32 z

-- z modulo 2 ^ 32: the low 32 bits of a result of any size
abbrev pub modulo : ℤ → ℕ
modulo z = unsigned_abs (int_rem_euclid z (pos (2 ^ 32)))
