-- Lists that grow at their end.
use Rattle.std.proofs.Common.{◌≡◌, List, [], ◌∷◌, ◌++◌, length, map, refl, ap, ◌∙◌, arith}
use Rattle.std.specs.List.{AllZip}
use Rattle.std.proofs.lemmas.Grind.{flat_map-append}
use Rattle.std.proofs.lemmas.List.{append-nil}
use Rattle.guest_model.specs.Serial.{TraceItem}
use Rattle.sliced_run.specs.Sliced.{joined_items}

pub zip_push : {A B : Type 0} (P : A → B → Type 0) (xs : List A) (ys : List B) (x : A) (y : B) → AllZip P xs ys → P x y → AllZip P (xs ++ x ∷ []) (ys ++ y ∷ [])
zip_push P [] [] x y z h = (h, tt)
zip_push P [] (b ∷ ys) x y z h = absurd z
zip_push P (a ∷ xs) [] x y z h = absurd z
zip_push P (a ∷ xs) (b ∷ ys) x y z h = (z.0, zip_push P xs ys x y z.1 h)

pub zip_length : {A B : Type 0} (P : A → B → Type 0) (xs : List A) (ys : List B) → AllZip P xs ys → length xs ≡ length ys
zip_length P [] [] z = refl
zip_length P [] (y ∷ ys) z = absurd z
zip_length P (x ∷ xs) [] z = absurd z
zip_length P (x ∷ xs) (y ∷ ys) z = let rest = zip_length P xs ys z.1 in omega (arith, rest)

pub map_push : {A B : Type 0} (f : A → B) (xs : List A) (x : A) → map f (xs ++ x ∷ []) ≡ map f xs ++ f x ∷ []
map_push f [] x = refl
map_push f (y ∷ xs) x = ap (λ ys. f y ∷ ys) (map_push f xs x)

pub joined_push : (pieces : List (List TraceItem)) (items : List TraceItem) → joined_items (pieces ++ items ∷ []) ≡ joined_items pieces ++ items
joined_push pieces items = flat_map-append (λ (xs : List TraceItem). xs) pieces (items ∷ []) ∙ ap (λ (xs : List TraceItem). joined_items pieces ++ xs) (append-nil items)
