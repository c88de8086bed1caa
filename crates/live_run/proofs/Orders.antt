-- The locals of pieces, merged in the order of the pieces, stand for all of them.
use Rattle.std.proofs.Common.{◌≡◌, ℕ, suc, ◌+◌, ◌^◌, ◌<◌, List, [], ◌∷◌, ◌++◌, length, refl, sym, ap, subst, ◌∙◌, arith, length-append, append_assoc}
use Rattle.std.specs.List.{flat_map, range_with_len}
use Rattle.std.proofs.lemmas.Grind.{flat_map-append}
use Rattle.std.proofs.lemmas.List.{append-nil}
use mathlib.Core.Option.{some}
use lib.ListN.{get_elem?}
use Rattle.insert_points.specs.declared.call.Event.{Event}
use Rattle.live_run.specs.Order.{MergesInOrder}

-- the events of lists of items, one after the other, are those of all items
flat : {A B : Type 0} (f : A → List B) (xss : List (List A)) → flat_map f (flat_map (λ xs. xs) xss) ≡ flat_map (λ xs. flat_map f xs) xss
flat f [] = refl
flat f (xs ∷ xss) = flat_map-append f xs (flat_map (λ ys. ys) xss) ∙ ap (λ zs. flat_map f xs ++ zs) (flat f xss)

module _ {L S I : Type 0} (stands : List Event → L → Type 0) (is_value : List Event → S → Type 0) (events : List I → List Event) (locals : ℕ → L) where
  -- these pieces, from the n-th on, behind what was merged before
  from : (pieces : List (List I)) (n : ℕ) (before : List Event) (old new : S) → ((k : ℕ) (items : List I) → get_elem? pieces k ≡ some items → stands (events items) (locals (n + k))) → length (before ++ flat_map events pieces) < 2 ^ 50
      → is_value before old → MergesInOrder stands is_value locals (range_with_len n (length pieces)) old new → is_value (before ++ flat_map events pieces) new
  from [] n before old new each few value same = subst (λ (s : S). is_value (before ++ []) s) (sym same) (subst (λ (es : List Event). is_value es old) (sym (append-nil before)) value)
  from (items ∷ pieces) n before old new each few value merges =
      let more : List Event = before ++ events items in
      let all : more ++ flat_map events pieces ≡ before ++ (events items ++ flat_map events pieces) = append_assoc before (events items) (flat_map events pieces) in
      let whole = length-append before (events items ++ flat_map events pieces) in
      let part = length-append (events items) (flat_map events pieces) in
      let joinable : length before + length (events items) < 2 ^ 50 = omega (arith, few, whole, part) in
      let at : n + 0 ≡ n = omega arith in
      let one : stands (events items) (locals n) = subst (λ (k : ℕ). stands (events items) (locals k)) at (each 0 items refl) in
      subst (λ (es : List Event). is_value es new) all
      (from pieces (n + 1) more merges.0 new (λ k other there. let shift : n + suc k ≡ n + 1 + k = omega arith in subst (λ (j : ℕ). stands (events other) (locals j)) shift (each (suc k) other there)) (subst (λ (es : List Event). length es < 2 ^ 50) (sym all) few)
      (merges.1 before (events items) joinable value one) merges.2)

-- all pieces, whose joined items are these
pub in_order : {L S I : Type 0} (stands : List Event → L → Type 0) (is_value : List Event → S → Type 0) (f : I → List Event) (locals : ℕ → L) (pieces : List (List I)) (items : List I) (order : List ℕ) (first last : S) → flat_map (λ xs. xs) pieces ≡ items
    → order ≡ range_with_len 0 (length pieces) → ((n : ℕ) (xs : List I) → get_elem? pieces n ≡ some xs → stands (flat_map f xs) (locals n)) → length (flat_map f items) < 2 ^ 50 → is_value [] first
    → MergesInOrder stands is_value locals order first last → is_value (flat_map f items) last
in_order stands is_value f locals pieces items order first last joins is each few value merges =
    let all : flat_map f items ≡ flat_map (λ xs. flat_map f xs) pieces = ap (λ xs. flat_map f xs) (sym joins) ∙ flat f pieces in
    subst (λ (es : List Event). is_value es last) (sym all)
    (from stands is_value (λ xs. flat_map f xs) locals pieces 0 [] first last (λ n xs at. let same : n ≡ 0 + n = omega arith in subst (λ (k : ℕ). stands (flat_map f xs) (locals k)) same (each n xs at))
    (subst (λ (es : List Event). length es < 2 ^ 50) all few) value (subst (λ (ns : List ℕ). MergesInOrder stands is_value locals ns first last) is merges))
