-- A file read piece by piece.
use Rattle.std.proofs.Common.{◌≡◌, ◌≤◌, ℕ, ◌+◌, length, take, drop, List, ◌++◌, arith, ap, sym, ◌∙◌, length-drop}
use Rattle.std.proofs.lemmas.List.{length-take-le, take-append-drop}
use Rattle.std.proofs.Math.Seq.{take-add}
use Rattle.sp_host.specs.Told.{Gives}
use Rattle.sp_host.specs.Whole.{IsFront}

-- one more piece, which a read from byte `at` on left at the front of its buffer
next_taken : (file bytes new buf : List ℕ) (at count : ℕ) → at ≡ length bytes → IsFront bytes file → Gives (drop at file) count buf → new ≡ bytes ++ take count buf → new ≡ take (at + count) file
next_taken file bytes new buf at count here front gives is =
    is ∙ (ap (λ (xs : List ℕ). bytes ++ xs) gives.first
    ∙ (ap (λ (xs : List ℕ). xs ++ take count (drop at file)) (front.same ∙ ap (λ (n : ℕ). take n file) (sym here)) ∙ sym (take-add at count file)))

pub next_front : (file bytes new buf : List ℕ) (at count : ℕ) → at ≡ length bytes → IsFront bytes file → Gives (drop at file) count buf → new ≡ bytes ++ take count buf → IsFront new file
next_front file bytes new buf at count here front gives is =
    let taken : new ≡ take (at + count) file = next_taken file bytes new buf at count here front gives is in
    let fits : at + count ≤ length file = omega (arith, gives.within, front.within, length-drop at file) in
    let long : length new ≡ at + count = ap (λ (xs : List ℕ). length xs) taken ∙ length-take-le (at + count) file fits
    in record {
      within = omega (arith, long, fits);
      same = taken ∙ ap (λ (n : ℕ). take n file) (sym long);
    }

-- nothing is left
pub all_read : (file bytes new buf : List ℕ) (at count : ℕ) → at ≡ length bytes → IsFront bytes file → Gives (drop at file) count buf → count ≡ 0 → new ≡ bytes ++ take count buf → new ≡ file
all_read file bytes new buf at count here front gives none is =
    is ∙ (ap (λ (n : ℕ). bytes ++ take n buf) none ∙ (ap (λ (xs : List ℕ). bytes ++ xs) (sym (gives.end none))
    ∙ (ap (λ (xs : List ℕ). xs ++ drop at file) (front.same ∙ ap (λ (n : ℕ). take n file) (sym here)) ∙ take-append-drop at file)))
