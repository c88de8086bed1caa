-- The list of descriptors, place by place.
use Rattle.std.proofs.Common.{◌≡◌, ℕ, ◌+◌, ◌<◌, ◌≤◌, ◌==◌, true, false, zero, suc, List, [], ◌∷◌, ◌++◌, map, take, drop, length, Option, None, Some, slice_get, slice_set, get_or, refl, sym, ap, ◌∙◌, arith}
use Rattle.std.specs.Option.{option_map}
use Rattle.std.proofs.lemmas.List.{map-set}
use Rattle.std.proofs.lemmas.Option.{slice_get-map, slice_get-get_or}
use Rattle.std.proofs.lemmas.Bool.{eqb-true, eqb-false}
use Rattle.std.proofs.lemmas.List.{take_more, take_all}
use Rattle.guest_model.specs.Descriptors.{OpenFile, Descriptors, first_closed}
use Rattle.rv_machine.specs.Slots.{file_named, file_of}
use Rattle.rv_machine.specs.declared.descriptors.Slot.{Slot}

counted : (slots : List Slot) → length (map file_of slots) ≡ length slots
counted [] = refl
counted (s ∷ slots) = ap suc (counted slots)

pub put_gives : (slots : List Slot) (k : ℕ) (s : Slot) → map file_of (slice_set slots k s) ≡ slice_set (map file_of slots) k (file_of s)
put_gives slots k s = map-set file_of slots k s

-- the first closed one, where those before a place are open
abbrev pub first_from : Descriptors → ℕ → Option ℕ
first_from files k = option_map (λ n. n + k) (first_closed (drop k files))

pub closed_here : (files : Descriptors) (k : ℕ) → slice_get files k ≡ Some None → first_closed (drop k files) ≡ Some 0
closed_here [] k e = cc (e)
closed_here (None ∷ files) zero e = refl
closed_here (Some f ∷ files) zero e = cc (e)
closed_here (x ∷ files) (suc k) e = closed_here files k e

pub open_here : (files : Descriptors) (k : ℕ) (f : OpenFile) → slice_get files k ≡ Some (Some f) → first_closed (drop k files) ≡ option_map (λ n. n + 1) (first_closed (drop (suc k) files))
open_here [] k f e = cc (e)
open_here (None ∷ files) zero f e = cc (e)
open_here (Some g ∷ files) zero f e = refl
open_here (x ∷ files) (suc k) f e = open_here files k f e

shifted : (x : Option ℕ) (k : ℕ) → option_map (λ n. n + k) (option_map (λ n. n + 1) x) ≡ option_map (λ n. n + (k + 1)) x
shifted None k = refl
shifted (Some n) k = ap (λ (m : ℕ). Some m) (omega (arith))

unshifted : (x : Option ℕ) → x ≡ option_map (λ n. n + 0) x
unshifted None = refl
unshifted (Some n) = ap (λ (m : ℕ). Some m) (omega (arith))

pub slot_is : (slots : List Slot) (k : ℕ) (d : Slot) → k < length slots → slice_get (map file_of slots) k ≡ Some (file_of (get_or slots k d))
slot_is slots k d within = slice_get-map file_of slots k ∙ ap (option_map file_of) (slice_get-get_or slots k d within)

pub named : (s : Slot) → 0 < length s.name.bytes → file_of s ≡ Some (record { name = s.name.bytes; offset = s.offset })
named s some = by s.name.bytes s.offset some where
  by : (name : List ℕ) (offset : ℕ) → 0 < length name → file_named name offset ≡ Some (record { name = name; offset = offset })
  by [] offset some = absurd (omega (arith, some))
  by (b ∷ bs) offset some = refl

pub unnamed : (s : Slot) → length s.name.bytes ≡ 0 → file_of s ≡ None
unnamed s none = by s.name.bytes s.offset none where
  by : (name : List ℕ) (offset : ℕ) → length name ≡ 0 → file_named name offset ≡ None
  by [] offset none = refl
  by (b ∷ bs) offset none = absurd (omega (arith, none))

pub ends_here : (slots : List Slot) (k : ℕ) (d : Slot) → k < length slots → length (get_or slots k d).name.bytes ≡ 0
    → first_closed (map file_of slots) ≡ first_from (map file_of slots) k → first_closed (map file_of slots) ≡ Some k
ends_here slots k d within none so_far =
    so_far
    ∙ ap (λ (x : Option ℕ). option_map (λ n. n + k) x) (closed_here (map file_of slots) k (slot_is slots k d within ∙ ap (λ (x : Option OpenFile). Some x) (unnamed (get_or slots k d) none)))
    ∙ ap (λ (n : ℕ). Some n) (omega (arith))

pub goes_on : (slots : List Slot) (k : ℕ) (d : Slot) → k < length slots → 0 < length (get_or slots k d).name.bytes
    → first_closed (map file_of slots) ≡ first_from (map file_of slots) k → first_closed (map file_of slots) ≡ first_from (map file_of slots) (k + 1)
goes_on slots k d within some so_far =
    let s : Slot = get_or slots k d in
    let file : OpenFile = record { name = s.name.bytes; offset = s.offset } in
    let here : slice_get (map file_of slots) k ≡ Some (Some file) = slot_is slots k d within ∙ ap (λ (x : Option OpenFile). Some x) (named s some) in
    let more : suc k ≡ k + 1 = omega (arith) in
    so_far
    ∙ ap (λ (x : Option ℕ). option_map (λ n. n + k) x) (open_here (map file_of slots) k file here)
    ∙ shifted (first_closed (drop (suc k) (map file_of slots))) k
    ∙ ap (λ (i : ℕ). option_map (λ n. n + (k + 1)) (first_closed (drop i (map file_of slots)))) more

none_behind : (files : Descriptors) (k : ℕ) → length files ≤ k → drop k files ≡ []
none_behind [] zero past = refl
none_behind [] (suc k) past = refl
none_behind (x ∷ files) zero past = absurd (omega (arith, past))
none_behind (x ∷ files) (suc k) past = none_behind files k (omega (arith, past))

pub none_left : (slots : List Slot) (k : ℕ) → length slots ≤ k → first_closed (map file_of slots) ≡ first_from (map file_of slots) k → first_closed (map file_of slots) ≡ None
none_left slots k past so_far =
    let behind : length (map file_of slots) ≤ k = omega (arith, past, counted slots) in
    so_far ∙ ap (λ (files : Descriptors). option_map (λ n. n + k) (first_closed files)) (none_behind (map file_of slots) k behind)

-- place by place the same
pub same_more : (a b : List Slot) (k : ℕ) (d e : Slot) → k < length a → k < length b → take k (map file_of a) ≡ take k (map file_of b) → file_of (get_or a k d) ≡ file_of (get_or b k e)
    → take (k + 1) (map file_of a) ≡ take (k + 1) (map file_of b)
same_more a b k d e in_a in_b so_far here =
    step (map file_of a) (map file_of b) k (omega (arith, in_a, counted a)) (omega (arith, in_b, counted b)) so_far (slot_is a k d in_a ∙ ap (λ (x : Option OpenFile). Some x) here ∙ sym (slot_is b k e in_b)) where
      some_of : Option (Option OpenFile) → Option OpenFile
      some_of None = None
      some_of (Some x) = x

      step : (xs ys : Descriptors) (k : ℕ) → k < length xs → k < length ys → take k xs ≡ take k ys → slice_get xs k ≡ slice_get ys k → take (k + 1) xs ≡ take (k + 1) ys
      step xs ys k in_x in_y so_far same =
          let at : get_or xs k None ≡ get_or ys k None = ap some_of (sym (slice_get-get_or xs k None in_x) ∙ same ∙ slice_get-get_or ys k None in_y) in
          take_more xs k None in_x ∙ ap (λ (zs : Descriptors). zs ++ get_or xs k None ∷ []) so_far ∙ ap (λ (x : Option OpenFile). take k ys ++ x ∷ []) at ∙ sym (take_more ys k None in_y)

pub apart : (a b : List Slot) (k : ℕ) (d e : Slot) → k < length a → k < length b → map file_of a ≡ map file_of b → file_of (get_or a k d) ≡ file_of (get_or b k e)
apart a b k d e in_a in_b same =
    some_is (sym (slot_is a k d in_a) ∙ ap (λ (files : Descriptors). slice_get files k) same ∙ slot_is b k e in_b) where
      some_is : {x y : Option OpenFile} → Some x ≡ Some y → x ≡ y
      some_is {x} {y} e = ap (λ (o : Option (Option OpenFile)). value o) e where
        value : Option (Option OpenFile) → Option OpenFile
        value None = None
        value (Some z) = z

pub all_same : (a b : List Slot) (k : ℕ) → length a ≤ k → length b ≤ k → take k (map file_of a) ≡ take k (map file_of b) → map file_of a ≡ map file_of b
all_same a b k in_a in_b so_far =
    sym (take_all k (map file_of a) (omega (arith, in_a, counted a))) ∙ so_far ∙ take_all k (map file_of b) (omega (arith, in_b, counted b))

pub zero_from : (n : ℕ) → (n == 0) ≡ true → n ≡ 0
zero_from n e = eqb-true n 0 e

pub some_from : (n : ℕ) → (n == 0) ≡ false → 0 < n
some_from n e = omega (arith, eqb-false n 0 e)
