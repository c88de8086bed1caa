-- Two lists, place by place.
use Rattle.std.specs.Prelude.{ℕ, List, map}
use Rattle.std.specs.List.{sum, zip}

-- f of the two at each place
abbrev pub zip_with : {X Y Z : Type 0} → (X → Y → Z) → List X → List Y → List Z
zip_with f xs ys = map (λ p. f p.0 p.1) (zip xs ys)

-- its sum
abbrev pub sum_zip : {X Y : Type 0} → (X → Y → ℕ) → List X → List Y → ℕ
sum_zip f xs ys = sum (zip_with f xs ys)
