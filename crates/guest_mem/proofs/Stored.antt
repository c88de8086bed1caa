-- Bytes stored part by part.
use Rattle.std.proofs.Common.{◌≡◌, ℕ, suc, ◌+◌, ◌-◌, ◌≤◌, ◌++◌, Bool, List, [], ◌∷◌, length, take, drop, inl, inr, refl, sym, ap, subst, ◌∙◌, arith}
use Rattle.std.specs.FinMap as map
use Rattle.std.proofs.lemmas.List.{length-take-le, length-drop}
use Rattle.std.proofs.Math.Seq.{take-add}
use Rattle.guest_model.specs.Areas.{wrap}
use Rattle.guest_model.specs.Bytes.{Bytes, put_bytes}
use Rattle.guest_model.specs.Range.{range}
use Rattle.guest_mem.specs.Frames.{Frames, HasAllFrames, TakesFrames, frames_for, marked_for}
use Rattle.guest_mem.proofs.Ranges.{TakesAt, takes_one, frames_for_all-one}
use Rattle.guest_mem.proofs.Taken.{frames_for-none, frames_for-split, marked_for-none, marked_for-split}

pub put_none : (m : Bytes) (a : ℕ) → put_bytes m a [] ≡ m
unfolding put_bytes
put_none m a = refl

-- bytes and then the bytes behind them
put_append : (m : Bytes) (a : ℕ) (xs ys : List ℕ) → put_bytes m a (xs ++ ys) ≡ put_bytes (put_bytes m a xs) (a + length xs) ys
unfolding put_bytes
put_append m a [] ys = let e : a ≡ a + 0 = omega arith in ap (λ k. put_bytes m k ys) e
put_append m a (x ∷ xs) ys =
    let e : a + 1 + length xs ≡ a + suc (length xs) = omega arith in
    put_append (map.insert m (wrap a) x) (a + 1) xs ys ∙ ap (λ k. put_bytes (put_bytes (map.insert m (wrap a) x) (a + 1) xs) k ys) e

pub length_part : (xs : List ℕ) (from n : ℕ) → from + n ≤ length xs → length (take (from + n - from) (drop from xs)) ≡ n
length_part xs from n le =
    let len : from + n - from ≡ n = omega arith in
    ap (λ k. length (take k (drop from xs))) len ∙ length-take-le n (drop from xs) (omega (arith, length-drop from xs))

pub put_part : (m : Bytes) (a done part : ℕ) (xs : List ℕ) → done + part ≤ length xs
    → put_bytes (put_bytes m a (take done xs)) (a + done) (take (done + part - done) (drop done xs)) ≡ put_bytes m a (take (done + part) xs)
put_part m a done part xs le =
    let len : done + part - done ≡ part = omega arith in
    ap (λ k. put_bytes (put_bytes m a (take done xs)) (a + done) (take k (drop done xs))) len
    ∙ ap (λ k. put_bytes (put_bytes m a (take done xs)) (a + k) (take part (drop done xs))) (sym (length-take-le done xs (omega arith)))
    ∙ sym (put_append m a (take done xs) (take part (drop done xs)))
    ∙ ap (put_bytes m a) (sym (take-add done part xs))

-- frames that suffice for all bytes suffice for the next part
pub frames_left : (marks : List Bool) (a done part n free left : ℕ) → done + part ≤ n → frames_for marks a n ≤ free → left + frames_for marks a done ≡ free → frames_for (marked_for marks a done) (a + done) part ≤ left
frames_left marks a done part n free left le enough is =
    let whole : done + part + (n - (done + part)) ≡ n = omega arith in
    omega (arith, enough, is, ap (frames_for marks a) whole, frames_for-split marks a (done + part) (n - (done + part)), frames_for-split marks a done part)

pub takes_nothing : (f : Frames) (a : ℕ) → TakesAt f f a 0
takes_nothing f a = record {
  framed = sym (marked_for-none f.framed a);
  written = sym (marked_for-none f.written a);
  free = omega (arith, frames_for-none f.framed a);
  count = refl;
}

-- the next part's frames, after those of the bytes before it
pub takes_part : (old mid new : Frames) (a done part n : ℕ) → n ≡ part → TakesAt old mid a done → TakesAt mid new (a + done) n → TakesAt old new a (done + part)
takes_part old mid new a done part n len before takes = record {
  framed = takes.framed ∙ ap (marked_for mid.framed (a + done)) len ∙ ap (λ l. marked_for l (a + done) part) before.framed ∙ sym (marked_for-split old.framed a done part);
  written = takes.written ∙ ap (marked_for mid.written (a + done)) len ∙ ap (λ l. marked_for l (a + done) part) before.written ∙ sym (marked_for-split old.written a done part);
  free =
      omega (arith, frames_for-split old.framed a done part, ap (λ l. frames_for l (a + done) part) before.framed, ap (frames_for mid.framed (a + done)) len, takes.free, before.free);
  count = takes.count ∙ before.count;
}

-- frames that suffice for all bytes suffice for the next part
pub has_left : (old now : Frames) (a done part n k : ℕ) → k ≡ part → done + part ≤ n → TakesAt old now a done → HasAllFrames old (range a n ∷ []) → HasAllFrames now (range (a + done) k ∷ [])
has_left old now a done part n k len le before (inl all) = inl (omega (arith, all, before.count))
has_left old now a done part n k len le before (inr suffice) =
    let left = frames_left old.framed a done part n old.free now.free le (omega (arith, suffice, frames_for_all-one old.framed a n)) before.free in
    inr (omega (arith, left, frames_for_all-one now.framed (a + done) k, ap (λ l. frames_for l (a + done) part) before.framed, ap (frames_for now.framed (a + done)) len))

-- all bytes are stored
pub takes_whole : (old new : Frames) (a done n : ℕ) → done ≤ n → n ≤ done → TakesAt old new a done → TakesFrames old new (range a n ∷ [])
takes_whole old new a done n le ge takes =
    let all : done ≡ n = omega arith in
    let P : ℕ → Type 0 = λ k. TakesFrames old new (range a k ∷ []) in
    subst P all (takes_one old new a done takes.framed takes.written takes.free takes.count)
