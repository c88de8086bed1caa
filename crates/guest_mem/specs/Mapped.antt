-- The bytes that areas hold, out of the bytes of all addresses.
use Rattle.std.specs.Prelude.{ℕ, zero, suc, ◌+◌, ◌-◌, List, [], ◌∷◌, slice_index}
use Rattle.std.specs.FinMap as flat
use Rattle.guest_model.specs.Bytes.{Bytes}
use Rattle.guest_model.specs.Space.{Space}
use Rattle.guest_model.specs.declared.Area.{Area}

-- the map with what f gives at the n addresses from a on
abbrev pub with_range : Bytes → (ℕ → ℕ) → ℕ → ℕ → Bytes
with_range m f a zero = m
with_range m f a (suc n) = flat.insert (with_range m f a n) (a + n) (f (a + n))

-- what f gives at each address that lies in an area
unfoldable pub of_areas : List Area → (ℕ → ℕ) → Bytes
of_areas [] f = flat.empty
of_areas (x ∷ xs) f = with_range (of_areas xs f) f x.start (x.end - x.start)

-- the space of these areas over a list of the bytes of all addresses
abbrev pub space_over : List Area → List ℕ → ℕ → ℕ → Space
space_over areas all heap_break next_map = record { bytes = of_areas areas (λ a. slice_index all a); areas = areas; heap_break = heap_break; next_map = next_map }
