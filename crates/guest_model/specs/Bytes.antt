-- A flat map from addresses to bytes. Numbers are little-endian (RISC-V unprivileged manual, "Load and Store Instructions").
use Rattle.std.specs.Prelude.{ℕ, zero, suc, ◌+◌, ◌*◌, ◌/◌, ◌%◌, List, [], ◌∷◌, map}
use Rattle.std.specs.List.{range_with_len}
use Rattle.std.specs.Option.{unwrap_or}
use Rattle.std.specs.Ordering.{nat_cmp}
use Rattle.std.specs.FinMap as flat
use Rattle.guest_model.specs.Areas.{wrap}

abbrev pub Bytes : Type 0
Bytes = flat.FinMap nat_cmp ℕ

-- the byte at an address, 0 where none is
abbrev pub byte_at : Bytes → ℕ → ℕ
byte_at m a = unwrap_or (flat.get m a) 0

-- the n bytes from a on
abbrev pub bytes_at : Bytes → ℕ → ℕ → List ℕ
bytes_at m a n = map (λ i. byte_at m (wrap (a + i))) (range_with_len 0 n)

-- the number whose digits in base 256 these are, the lowest first
abbrev pub number_of : List ℕ → ℕ
number_of [] = 0
number_of (b ∷ bs) = b + 256 * number_of bs

-- the n low bytes of a number, the lowest first
abbrev pub low_bytes : ℕ → ℕ → List ℕ
low_bytes zero v = []
low_bytes (suc n) v = (v % 256) ∷ low_bytes n (v / 256)

-- the map with these bytes from a on
unfoldable pub put_bytes : Bytes → ℕ → List ℕ → Bytes
put_bytes m a [] = m
put_bytes m a (b ∷ bs) = put_bytes (flat.insert m (wrap a) b) (a + 1) bs
