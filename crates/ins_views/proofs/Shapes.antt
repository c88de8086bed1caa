-- The views of an image meet their invariants.
use Rattle.std.proofs.Common.{◌≡◌, ◌+◌, ◌*◌, ◌≤◌, ◌&&◌, ℕ, List, [], ◌∷◌, Bool, true, false, length, arith, refl, sym, true≢false}
use Rattle.std.specs.Prelude.{All, Some, find, nat_le}
use Rattle.std.proofs.lemmas.Bool.Decides.{nat_tests}
use Rattle.std.proofs.lemmas.List.FromFn.{length-map-range_with_len}
use Rattle.std.proofs.lemmas.List.Elements.{All-filter, All-head, All-map, All-tail, All-weaker}
use Rattle.elf_load.specs.Image.{ImageFields, IsImage, SegmentFields, IsSegment, is_executable, is_in_code}
use Rattle.elf_load.specs.Limits.{user_end}
use Rattle.rv_isa.specs.Decoded.{decoded}
use Rattle.ins_views.specs.Memory.{memory_word, code_of}
use Rattle.ins_views.specs.Views.{IsCode, IsViews, code_view, count_words, first_word, words_of, views_of}

pub length-words_of : (s : SegmentFields) → length (words_of s) ≡ count_words s
unfolding words_of
length-words_of s = length-map-range_with_len (λ k. decoded (memory_word s (first_word s.start + 4 * k))) 0 (count_words s)

pub is_code : (s : SegmentFields) → IsSegment s → IsCode (code_view s)
is_code s h = record {
  above = h.above;
  below = h.below;
  fits = rw (length-words_of s) (omega arith);
}

ends_in_user : (from to : ℕ) (s : SegmentFields) → IsSegment s → (is_executable s && (nat_le s.start from && nat_le to (s.start + s.size))) ≡ true → to ≤ user_end
ends_in_user from to s h e = let below = h.below in grind (arith, nat_tests)

-- what lies in code lies in the user's memory
pub in_user : (from to : ℕ) (segments : List SegmentFields) → All IsSegment segments → is_in_code from to segments ≡ true → to ≤ user_end
in_user from to [] h e = absurd (true≢false (sym e))
in_user from to (s ∷ segments) h e = go (is_executable s && (nat_le s.start from && nat_le to (s.start + s.size))) refl e (in_user from to segments (All-tail IsSegment s segments h))
  where
    go : (t : Bool) → (is_executable s && (nat_le s.start from && nat_le to (s.start + s.size))) ≡ t → is_in_code from to (s ∷ segments) ≡ true
        → (is_in_code from to segments ≡ true → to ≤ user_end) → to ≤ user_end
    go true f g rest = ends_in_user from to s (All-head IsSegment s segments h) f
    go false f g rest = rest (rw f at g)

pub are_views : (i : ImageFields) → IsImage i → IsViews (views_of i)
unfolding views_of
are_views i h = record {
  code = All-map IsCode code_view (code_of i) (All-weaker IsSegment (λ s. IsCode (code_view s)) is_code (code_of i) (All-filter is_executable IsSegment i.segments h.segments));
  routines = record {
    rising = h.rising;
    user =
        All-weaker (λ f. is_in_code f.start (f.start + 1) i.segments ≡ true) (λ f. f.start + 1 ≤ user_end)
        (λ f e. in_user f.start (f.start + 1) i.segments h.segments e) i.functions h.code;
  };
}

-- what a search found passes its test
pub find-holds : {X : Type 0} (p : X → Bool) (xs : List X) (x : X) → find p xs ≡ Some x → p x ≡ true
find-holds p [] x e = cc
find-holds p (y ∷ ys) x e = go (p y) refl e (find-holds p ys x)
  where
    go : (t : Bool) → p y ≡ t → find p (y ∷ ys) ≡ Some x → (find p ys ≡ Some x → p x ≡ true) → p x ≡ true
    go true f g rest = let h : Some y ≡ Some x = rw f at g in let k : y ≡ x = cc in rw (← k) f
    go false f g rest = rest (rw f at g)
