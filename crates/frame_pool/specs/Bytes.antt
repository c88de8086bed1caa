-- Bytes that are put over others, in a list of all bytes.
use Rattle.std.specs.Prelude.{◌≡◌, ℕ, ◌+◌, ◌-◌, ◌/◌, ◌%◌, ◌==◌, Bool, ◌&&◌, if◌then◌else◌, List, length, nat_le, nat_lt, slice_index}

-- whether q is one of the n numbers from a on
abbrev pub is_among : ℕ → ℕ → ℕ → Bool
is_among a n q = nat_le a q && nat_lt q (a + n)

-- the bytes stand from a on, and elsewhere all is as before
abbrev pub PutsBytes : (old new : List ℕ) (a : ℕ) (bytes : List ℕ) → Type 0
PutsBytes old new a bytes =
    (q : ℕ) → slice_index new q ≡ (if is_among a (length bytes) q then slice_index bytes (q - a) else slice_index old q)

-- each of the 4,096 bytes of a page is 0, and elsewhere all is as before
abbrev pub ClearsPage : (old new : List ℕ) (page : ℕ) → Type 0
ClearsPage old new page = (q : ℕ) → slice_index new q ≡ (if q / 4096 == page then 0 else slice_index old q)

-- the 4,096 bytes of a page are these, and elsewhere all is as before
abbrev pub FillsPage : (old new : List ℕ) (page : ℕ) (bytes : List ℕ) → Type 0
FillsPage old new page bytes = (q : ℕ) → slice_index new q ≡ (if q / 4096 == page then slice_index bytes (q % 4096) else slice_index old q)
