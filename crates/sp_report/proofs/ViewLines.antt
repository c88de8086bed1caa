-- Lines, one word after the other.
use Rattle.std.proofs.Common.{◌≡◌, ◌+◌, ◌∙◌, ◌++◌, ℕ, List, [], ◌∷◌, ap, sym, zero-add}
use Rattle.std.specs.List.{flat_map, range_with_len}
use Rattle.std.proofs.lemmas.List.{flat_map_more, map-id}
use Rattle.std.proofs.lemmas.List.FromFn.{map-range_with_len_more}
use Rattle.elf_load.specs.Image.{ImageFields}
use Rattle.ins_views.specs.Views.{ViewFields, views_of}

range_more : (n : ℕ) → range_with_len 0 n ++ n ∷ [] ≡ range_with_len 0 (n + 1)
range_more n =
    ap (λ xs. xs ++ n ∷ []) (sym (map-id (range_with_len 0 n)))
    ∙ sym (map-range_with_len_more (λ k. k) 0 n n (zero-add n))
    ∙ map-id (range_with_len 0 (n + 1))

-- one more
pub flat_map_range : (f : ℕ → List ℕ) (text : List ℕ) (n : ℕ) → (text ++ flat_map f (range_with_len 0 n)) ++ f n ≡ text ++ flat_map f (range_with_len 0 (n + 1))
flat_map_range f text n = flat_map_more f text (range_with_len 0 n) n ∙ ap (λ xs. text ++ flat_map f xs) (range_more n)

pub same_routines : (v : ViewFields) (image : ImageFields) → v ≡ views_of image → v.routines ≡ image.functions
unfolding views_of
same_routines v image e = ap (λ (w : ViewFields). w.routines) e
