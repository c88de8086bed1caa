-- The text of a mix rests on the counts of the names alone.
use Rattle.std.proofs.Common.{◌≡◌, ◌∙◌, ◌++◌, ℕ, List, [], ◌∷◌, ap, length, refl, slice_index, suc, take, zero}
use Rattle.std.specs.List.{flat_map}
use Rattle.std.proofs.Math.ListN.{replicate}
use Rattle.std.proofs.Math.Seq.{take-length}
use Rattle.rv_isa.specs.declared.op.Op.{Op}
use Rattle.rv_isa.specs.Decoded.{ops}
use Rattle.rv_isa.specs.Places.{place_of}
use Rattle.insert_points.specs.declared.call.Event.{Event}
use Rattle.tool_counts.specs.Mix.{IsMix, mix_line, mix_of, mix_text}
use Rattle.tool_counts.proofs.Places.{place_fits}

flat_map_same : {X A : Type 0} (f h : X → List A) (xs : List X) → ((x : X) → f x ≡ h x) → flat_map f xs ≡ flat_map h xs
flat_map_same f h [] e = refl
flat_map_same f h (x ∷ xs) e = ap (λ ys. ys ++ flat_map f xs) (e x) ∙ ap (λ ys. h x ++ ys) (flat_map_same f h xs e)

pub text_same : (xs : List Event) (counts : List ℕ) → IsMix xs counts → mix_text (λ op. slice_index counts (place_of op)) ≡ mix_text (mix_of xs)
unfolding mix_text
text_same xs counts h = flat_map_same (λ op. mix_line op (slice_index counts (place_of op))) (λ op. mix_line op (mix_of xs op)) ops (λ op. ap (mix_line op) (h.same (place_of op) (place_fits op)))

pub all_lines : (counts : ℕ → ℕ) (items : List Op) (i : ℕ) (out old : List ℕ) → items ≡ ops → i ≡ length items
    → out ≡ old ++ flat_map (λ op. mix_line op (counts (place_of op))) (take i items) → out ≡ old ++ mix_text (λ op. counts (place_of op))
unfolding mix_text
all_lines counts items i out old e last h =
    let f : Op → List ℕ = λ op. mix_line op (counts (place_of op)) in
    h ∙ ap (λ n. old ++ flat_map f (take n items)) last ∙ ap (λ xs. old ++ flat_map f xs) (take-length items) ∙ ap (λ xs. old ++ flat_map f xs) e

zeros_at : (n k : ℕ) → slice_index (replicate n 0) k ≡ 0
zeros_at zero k = refl
zeros_at (suc n) zero = refl
zeros_at (suc n) (suc k) = zeros_at n k

pub none : IsMix [] (replicate 59 0)
none = record { same = λ k small. zeros_at 59 k }
