-- Two lists, place by place: reads, writes, and a loop over both.
use Rattle.std.proofs.Common.{◌≡◌, ◌∙◌, ℕ, suc, zero, ◌+◌, ◌<◌, ◌≤◌, List, [], ◌∷◌, ◌++◌, length, get_or, set, take, drop, replicate, refl, sym, ap, arith, append_assoc}
use Rattle.std.specs.List.{sum}
use Rattle.std.proofs.Math.Seq.{drop-cons, take-suc-set}
use Rattle.std.proofs.Math.Numerals.{add-one}
use Rattle.std.proofs.lemmas.List.{drop-set-lt, append-nil, take_all, drop_all, length-set}
use Rattle.std.proofs.lemmas.List.Sums.{sum_by-cons}
use Rattle.tool_parts.specs.Pairs.{zip_with, sum_zip}

module _ {X Y Z : Type 0} (f : X → Y → Z) where
  pub get_or-zip_with : (xs : List X) (ys : List Y) (i : ℕ) (x : X) (y : Y) (z : Z) → i < length xs → length ys ≡ length xs → get_or (zip_with f xs ys) i z ≡ f (get_or xs i x) (get_or ys i y)
  get_or-zip_with [] ys i x y z h e = absurd (omega arith)
  get_or-zip_with (a ∷ xs) [] i x y z h e = absurd (omega arith)
  get_or-zip_with (a ∷ xs) (b ∷ ys) zero x y z h e = refl
  get_or-zip_with (a ∷ xs) (b ∷ ys) (suc i) x y z h e = get_or-zip_with xs ys i x y z (omega arith) (omega arith)

  pub zip_with-set : (xs : List X) (ys : List Y) (i : ℕ) (x : X) (y : Y) → i < length xs → length ys ≡ length xs → zip_with f (set xs i x) ys ≡ set (zip_with f xs ys) i (f x (get_or ys i y))
  zip_with-set [] ys i x y h e = absurd (omega arith)
  zip_with-set (a ∷ xs) [] i x y h e = absurd (omega arith)
  zip_with-set (a ∷ xs) (b ∷ ys) zero x y h e = refl
  zip_with-set (a ∷ xs) (b ∷ ys) (suc i) x y h e = ap (λ l. f a b ∷ l) (zip_with-set xs ys i x y (omega arith) (omega arith))

  pub length-zip_with : (xs : List X) (ys : List Y) → length ys ≡ length xs → length (zip_with f xs ys) ≡ length xs
  length-zip_with [] ys e = refl
  length-zip_with (a ∷ xs) [] e = absurd (omega arith)
  length-zip_with (a ∷ xs) (b ∷ ys) e = ap suc (length-zip_with xs ys (omega arith))

  zip_with-drop : (xs : List X) (ys : List Y) (i : ℕ) (x : X) (y : Y) → i < length xs → length ys ≡ length xs
      → zip_with f (drop i xs) (drop i ys) ≡ f (get_or xs i x) (get_or ys i y) ∷ zip_with f (drop (suc i) xs) (drop (suc i) ys)
  zip_with-drop xs ys i x y h e =
      let h' : i < length ys = omega arith in
      ap (λ l. zip_with f l (drop i ys)) (drop-cons xs i x h) ∙ ap (zip_with f (get_or xs i x ∷ drop (suc i) xs)) (drop-cons ys i y h')

-- a list whose every place leaves the other as it is, and adds nothing
pub zip_with-same : {X Y : Type 0} (f : X → Y → Y) (x : X) → ((y : Y) → f x y ≡ y) → (n : ℕ) (ys : List Y) → length ys ≡ n → zip_with f (replicate n x) ys ≡ ys
zip_with-same f x same zero [] e = refl
zip_with-same f x same zero (y ∷ ys) e = absurd (omega arith)
zip_with-same f x same (suc n) [] e = refl
zip_with-same f x same (suc n) (y ∷ ys) e = ap (λ z. z ∷ zip_with f (replicate n x) ys) (same y) ∙ ap (λ l. y ∷ l) (zip_with-same f x same n ys (omega arith))

sum-cons : (n : ℕ) (ns : List ℕ) → sum (n ∷ ns) ≡ n + sum ns
sum-cons n ns = sum_by-cons (λ x. x) n ns

pub sum_zip-none : {X Y : Type 0} (f : X → Y → ℕ) (x : X) → ((y : Y) → f x y ≡ 0) → (n : ℕ) (ys : List Y) → sum_zip f (replicate n x) ys ≡ 0
sum_zip-none f x none zero ys = refl
sum_zip-none f x none (suc n) [] = refl
sum_zip-none f x none (suc n) (y ∷ ys) = omega (arith, sum-cons (f x y) (zip_with f (replicate n x) ys), none y, sum_zip-none f x none n ys)

module _ {X Y : Type 0} (f : X → Y → ℕ) where
  pub sum_zip-set : (xs : List X) (ys : List Y) (i : ℕ) (v x : X) (y : Y) → i < length xs → length ys ≡ length xs
      → sum_zip f (set xs i v) ys + f (get_or xs i x) (get_or ys i y) ≡ sum_zip f xs ys + f v (get_or ys i y)
  sum_zip-set [] ys i v x y h e = absurd (omega arith)
  sum_zip-set (a ∷ xs) [] i v x y h e = absurd (omega arith)
  sum_zip-set (a ∷ xs) (b ∷ ys) zero v x y h e = omega (arith, sum-cons (f a b) (zip_with f xs ys), sum-cons (f v b) (zip_with f xs ys))
  sum_zip-set (a ∷ xs) (b ∷ ys) (suc i) v x y h e =
      let ih = sum_zip-set xs ys i v x y (omega arith) (omega arith) in
      omega (arith, ih, sum-cons (f a b) (zip_with f xs ys), sum-cons (f a b) (zip_with f (set xs i v) ys))

  sum_zip-drop : (xs : List X) (ys : List Y) (i : ℕ) (x : X) (y : Y) → i < length xs → length ys ≡ length xs
      → sum_zip f (drop i xs) (drop i ys) ≡ f (get_or xs i x) (get_or ys i y) + sum_zip f (drop (suc i) xs) (drop (suc i) ys)
  sum_zip-drop xs ys i x y h e = ap sum (zip_with-drop f xs ys i x y h e) ∙ sum-cons (f (get_or xs i x) (get_or ys i y)) (zip_with f (drop (suc i) xs) (drop (suc i) ys))

-- A loop that writes f of the two at each place over the second, and counts what it sees there. The places below i are done.
module _ {X Y : Type 0} (f : X → Y → Y) (xs : List X) (was : List Y) where
  pub record IsZipping (now : List Y) (i : ℕ) : Type 0 where
    pub sized : length now ≡ length xs
    pub done : take i now ++ zip_with f (drop i xs) (drop i now) ≡ zip_with f xs was

  pub zipping_first : length was ≡ length xs → IsZipping was 0
  zipping_first e = record { sized = e; done = refl }

  pub zipping_more : (now : List Y) (i : ℕ) (x : X) (y : Y) → i < length xs → IsZipping now i → IsZipping (set now i (f (get_or xs i x) (get_or now i y))) (i + 1)
  zipping_more now i x y within z =
      let new : Y = f (get_or xs i x) (get_or now i y) in
      let room : i < length now = omega (arith, z.sized) in
      let rest : drop (suc i) (set now i new) ≡ drop (suc i) now = drop-set-lt (suc i) now i new (omega arith) in
      let left = zip_with-drop f xs now i x y within z.sized in
      record {
        sized = length-set now i new ∙ z.sized;
        done =
            ap (λ n. take n (set now i new) ++ zip_with f (drop n xs) (drop n (set now i new))) (add-one i)
            ∙ ap (λ l. l ++ zip_with f (drop (suc i) xs) (drop (suc i) (set now i new))) (take-suc-set now i new room)
            ∙ append_assoc (take i now) (new ∷ []) (zip_with f (drop (suc i) xs) (drop (suc i) (set now i new)))
            ∙ ap (λ l. take i now ++ (new ∷ zip_with f (drop (suc i) xs) l)) rest
            ∙ ap (λ l. take i now ++ l) (sym left)
            ∙ z.done;
      }

  pub zipping_last : (now : List Y) (i : ℕ) → length xs ≤ i → IsZipping now i → now ≡ zip_with f xs was
  zipping_last now i past z =
      let none = drop_all i xs past in
      sym (ap (λ l. l ++ zip_with f (drop i xs) (drop i now)) (take_all i now (omega (arith, z.sized))) ∙ ap (λ l. now ++ zip_with f l (drop i now)) none ∙ append-nil now) ∙ z.done

  -- the sum over the places that are done, and what is left of it
  module _ (g : X → Y → ℕ) where
    abbrev pub IsSumming : List Y → ℕ → ℕ → Type 0
    IsSumming now i n = n + sum_zip g (drop i xs) (drop i now) ≡ sum_zip g xs was

    pub summing_more : (now : List Y) (i n : ℕ) (x : X) (y : Y) → i < length xs → length now ≡ length xs → IsSumming now i n
        → IsSumming (set now i (f (get_or xs i x) (get_or now i y))) (i + 1) (n + g (get_or xs i x) (get_or now i y))
    summing_more now i n x y within sized h =
        let new : Y = f (get_or xs i x) (get_or now i y) in
        let rest = ap (λ k. sum_zip g (drop k xs) (drop k (set now i new))) (add-one i) ∙ ap (λ l. sum_zip g (drop (suc i) xs) l) (drop-set-lt (suc i) now i new (omega arith)) in
        omega (arith, h, rest, sum_zip-drop g xs now i x y within sized)

    pub summing_last : (now : List Y) (i n : ℕ) → length xs ≤ i → IsSumming now i n → n ≡ sum_zip g xs was
    summing_last now i n past h = let none = ap (λ l. sum_zip g l (drop i now)) (drop_all i xs past) in omega (arith, none, h)
