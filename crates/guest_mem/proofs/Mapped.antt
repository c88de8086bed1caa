-- What a map made of areas holds, before and after bytes are put.
use Rattle.std.proofs.Common.{◌≡◌, ℕ, zero, suc, ◌+◌, ◌-◌, ◌*◌, ◌/◌, ◌%◌, ◌^◌, ◌<◌, ◌≤◌, ◌==◌, ◌||◌, true, false, cond, Bool, List, [], ◌∷◌, refl, sym, ap, ◌∙◌, inl, inr, arith, Some, None, Option, length, get_or}
use Rattle.std.specs.Option.{unwrap_or}
use Rattle.std.specs.Prelude.{is_some}
use Rattle.std.specs.Ordering.{nat_cmp}
use Rattle.std.specs.Cmp.{nat_cmp_total}
use Rattle.std.specs.FinMap as map
use Rattle.std.proofs.lemmas.Bool.{cases_eq, cases_order, true≢false}
use Rattle.std.proofs.lemmas.Bool.Decides.{nat_tests}
use Rattle.guest_model.specs.Areas.{is_mapped, holds, wrap}
use Rattle.guest_model.specs.Bytes.{Bytes, byte_at, put_bytes}
use Rattle.guest_model.specs.declared.Area.{Area}
use Rattle.guest_model.specs.Space.{Space, with_bytes, HasBytesOfAreas}
use Rattle.guest_mem.specs.Mapped.{of_areas, space_over, with_range}
use Rattle.frame_pool.specs.Bytes.{is_among}

-- an address, by its page and where it stands in the page
pub in_page : (a : ℕ) → 4096 * (a / 4096) + a % 4096 ≡ a
in_page a = omega arith

one_more : (a n q : ℕ) (x y z : Option ℕ) → (q ≡ a + n → x ≡ y) → cond (q == (a + n)) x (cond (is_among a n q) y z) ≡ cond (is_among a (suc n) q) y z
one_more a n q x y z same =
    elim (cases_eq q (a + n)) [
      | inl e ↦ let xy = same e in grind (arith, nat_tests, xy)
      | inr ne ↦ grind (arith, nat_tests)
    ]

get-insert_nat : (m : Bytes) (k v q : ℕ) → map.get (map.insert m k v) q ≡ cond (q == k) (Some v) (map.get m q)
get-insert_nat m k v q = grind (arith, map.gets, nat_tests)

pub get-with_range : (m : Bytes) (f : ℕ → ℕ) (a n q : ℕ) → map.get (with_range m f a n) q ≡ cond (is_among a n q) (Some (f q)) (map.get m q)
get-with_range m f a zero q = grind (arith, nat_tests)
get-with_range m f a (suc n) q =
    get-insert_nat (with_range m f a n) (a + n) (f (a + n)) q
    ∙ ap (cond (q == (a + n)) (Some (f (a + n)))) (get-with_range m f a n q)
    ∙ one_more a n q (Some (f (a + n))) (Some (f q)) (map.get m q) (λ e. ap (λ k. Some (f k)) (sym e))

either : {X : Type 0} (p r : Bool) (x y : X) → cond p x (cond r x y) ≡ cond (p || r) x y
either true r x y = refl
either false r x y = refl

pub same_range : (x : Area) (q : ℕ) → is_among x.start (x.end - x.start) q ≡ holds x q
same_range x q = grind (arith, nat_tests)

pub get-of_areas : (xs : List Area) (f : ℕ → ℕ) (q : ℕ) → map.get (of_areas xs f) q ≡ cond (is_mapped xs q) (Some (f q)) None
unfolding of_areas
get-of_areas [] f q = map.get-empty nat_cmp q
get-of_areas (x ∷ xs) f q =
    get-with_range (of_areas xs f) f x.start (x.end - x.start) q
    ∙ ap (λ b. cond b (Some (f q)) (map.get (of_areas xs f) q)) (same_range x q)
    ∙ ap (cond (holds x q) (Some (f q))) (get-of_areas xs f q)
    ∙ either (holds x q) (is_mapped xs q) (Some (f q)) None

-- equal answers make equal maps
pub same_bytes : (m n : Bytes) → ((q : ℕ) → map.get m q ≡ map.get n q) → m ≡ n
same_bytes m n is = map.same_map nat_cmp_total map.nat_cmp-IsAntisymmetric m n is

is_some_cond : (b : Bool) (x : ℕ) → is_some (cond b (Some x) None) ≡ b
is_some_cond true x = refl
is_some_cond false x = refl

-- the keys are the addresses in areas
pub keys : (s : Space) (xs : List Area) (all : List ℕ) (brk next : ℕ) → space_over xs all brk next ≡ s → HasBytesOfAreas s
keys s xs all brk next e = λ q.
    sym (ap (λ (t : Space). is_some (map.get t.bytes q)) e)
    ∙ ap is_some (get-of_areas xs (λ a. get_or all a 0) q)
    ∙ is_some_cond (is_mapped xs q) (get_or all q 0)
    ∙ ap (λ (t : Space). is_mapped t.areas q) e

unwrapped : (b : Bool) (x : ℕ) → (b ≡ false → x ≡ 0) → unwrap_or (cond b (Some x) None) 0 ≡ x
unwrapped true x zero_there = refl
unwrapped false x zero_there = sym (zero_there refl)

-- where no area is the list has zeros, and so each byte of the map is that of the list
pub byte_at-of_areas : (xs : List Area) (all : List ℕ) → ((a : ℕ) → is_mapped xs a ≡ false → get_or all a 0 ≡ 0) → (q : ℕ) → byte_at (of_areas xs (λ a. get_or all a 0)) q ≡ get_or all q 0
byte_at-of_areas xs all rest q = ap (λ o. unwrap_or o 0) (get-of_areas xs (λ a. get_or all a 0) q) ∙ unwrapped (is_mapped xs q) (get_or all q 0) (rest q)

put_step : (a n q x : ℕ) (xs : List ℕ) (y : Option ℕ)
    → cond (is_among (a + 1) n q) (Some (get_or xs (q - (a + 1)) 0)) (cond (q == a) (Some x) y) ≡ cond (is_among a (suc n) q) (Some (get_or (x ∷ xs) (q - a) 0)) y
put_step a n q x xs y =
    elim (cases_order q a) [
      | inl e ↦
          let first : q - a ≡ 0 = omega arith in
          let byte : get_or (x ∷ xs) (q - a) 0 ≡ x = ap (λ k. get_or (x ∷ xs) k 0) first in
          grind (arith, nat_tests, byte)
      | inr h ↦ elim h [
        | inl lt ↦ grind (arith, nat_tests)
        | inr gt ↦
            let later : q - a ≡ suc (q - (a + 1)) = omega arith in
            let byte : get_or (x ∷ xs) (q - a) 0 ≡ get_or xs (q - (a + 1)) 0 = ap (λ k. get_or (x ∷ xs) k 0) later in
            grind (arith, nat_tests, byte)
      ]
    ]

not_wrapped : (a : ℕ) → a < 2 ^ 32 → wrap a ≡ a
not_wrapped a lt = omega arith

-- the bytes of a map into which bytes were put that do not pass 2^32
pub get-put_bytes : (m : Bytes) (a : ℕ) (xs : List ℕ) → a + length xs ≤ 2 ^ 32 → (q : ℕ) → map.get (put_bytes m a xs) q ≡ cond (is_among a (length xs) q) (Some (get_or xs (q - a) 0)) (map.get m q)
unfolding put_bytes
get-put_bytes m a [] within q = grind (arith, nat_tests)
get-put_bytes m a (x ∷ xs) within q =
    get-put_bytes (map.insert m (wrap a) x) (a + 1) xs (omega arith) q
    ∙ ap (cond (is_among (a + 1) (length xs) q) (Some (get_or xs (q - (a + 1)) 0))) (get-insert_nat m (wrap a) x q ∙ ap (λ k. cond (q == k) (Some x) (map.get m q)) (not_wrapped a (omega arith)))
    ∙ put_step a (length xs) q x xs (map.get m q)

put_there : (t b : Bool) (x y : ℕ) → (t ≡ true → b ≡ true) → cond b (Some (cond t x y)) None ≡ cond t (Some x) (cond b (Some y) None)
put_there true true x y f = refl
put_there true false x y f = absurd (true≢false (sym (f refl)))
put_there false true x y f = refl
put_there false false x y f = refl

-- bytes that are written in areas are put into the map
pub of_areas-put : (xs : List Area) (f g : ℕ → ℕ) (a : ℕ) (source : List ℕ) → a + length source ≤ 2 ^ 32
    → ((q : ℕ) → is_among a (length source) q ≡ true → is_mapped xs q ≡ true)
    → ((q : ℕ) → g q ≡ cond (is_among a (length source) q) (get_or source (q - a) 0) (f q))
    → of_areas xs g ≡ put_bytes (of_areas xs f) a source
of_areas-put xs f g a source within mapped is =
    same_bytes _ _ (λ q.
    get-of_areas xs g q
    ∙ ap (λ v. cond (is_mapped xs q) (Some v) None) (is q)
    ∙ put_there (is_among a (length source) q) (is_mapped xs q) (get_or source (q - a) 0) (f q) (mapped q)
    ∙ ap (cond (is_among a (length source) q) (Some (get_or source (q - a) 0))) (sym (get-of_areas xs f q))
    ∙ sym (get-put_bytes (of_areas xs f) a source within q))

-- the space whose bytes are those of a list, after some were written
pub space_put : (s : Space) (xs : List Area) (old new : List ℕ) (brk next a : ℕ) (source : List ℕ)
    → space_over xs old brk next ≡ s → a + length source ≤ 2 ^ 32
    → ((q : ℕ) → is_among a (length source) q ≡ true → is_mapped xs q ≡ true)
    → ((q : ℕ) → get_or new q 0 ≡ cond (is_among a (length source) q) (get_or source (q - a) 0) (get_or old q 0))
    → space_over xs new brk next ≡ with_bytes s (put_bytes s.bytes a source)
space_put s xs old new brk next a source e within mapped is =
    ap (λ (b : Bytes). let t : Space = record { bytes = b; areas = xs; heap_break = brk; next_map = next } in t) (of_areas-put xs (λ q. get_or old q 0) (λ q. get_or new q 0) a source within mapped is)
    ∙ ap (λ (t : Space). with_bytes t (put_bytes t.bytes a source)) e

-- the bytes of a space are those of the list
pub byte_of_space : (s : Space) (xs : List Area) (all : List ℕ) (brk next : ℕ) → space_over xs all brk next ≡ s → ((a : ℕ) → is_mapped xs a ≡ false → get_or all a 0 ≡ 0) → (q : ℕ) → byte_at s.bytes q ≡ get_or all q 0
byte_of_space s xs all brk next e rest q = ap (λ (t : Space). byte_at t.bytes q) (sym e) ∙ byte_at-of_areas xs all rest q
