-- The areas that are left where a range is unmapped.
use Rattle.std.proofs.Common.{◌≡◌, ℕ, ◌+◌, ◌<◌, ◌≤◌, ◌++◌, List, [], ◌∷◌, length, take, get_or, ap, ◌∙◌, sym}
use Rattle.std.specs.List.{flat_map}
use Rattle.std.proofs.lemmas.List.{take_more, append-nil}
use Rattle.std.proofs.lemmas.List.Folds.{length-flat_map-take}
use Rattle.std.proofs.lemmas.Grind.{flat_map-append}
use Rattle.guest_model.specs.Maps.{cut, cut_areas}
use Rattle.guest_model.specs.declared.Area.{Area}

pub first_of_cut : (from to : ℕ) (xs : List Area) → xs ≡ [] → [] ≡ cut_areas from to xs
unfolding cut_areas
first_of_cut from to xs e = ap (λ l. flat_map (cut from to) l) (sym e)

pub cut_more : (from to : ℕ) (xs : List Area) (i : ℕ) (d : Area) → i < length xs → cut_areas from to (take (i + 1) xs) ≡ cut_areas from to (take i xs) ++ cut from to (get_or xs i d)
unfolding cut_areas
cut_more from to xs i d lt = ap (flat_map (cut from to)) (take_more xs i d lt) ∙ flat_map-append (cut from to) (take i xs) (get_or xs i d ∷ []) ∙ ap (λ l. flat_map (cut from to) (take i xs) ++ l) (append-nil (cut from to (get_or xs i d)))

pub cut_longer : (from to : ℕ) (xs : List Area) (i : ℕ) (d : Area) → i < length xs → length (cut_areas from to (take i xs)) + length (cut from to (get_or xs i d)) ≤ length (cut_areas from to xs)
unfolding cut_areas
cut_longer from to xs i d lt = length-flat_map-take (cut from to) xs i d lt

pub ruleset cut_rules = (first_of_cut, cut_more, cut_longer)
