-- Slices of a cache: of no event, of one more event, and settled on the cache of what came before.
use Rattle.std.proofs.Common.{◌≡◌, ◌∙◌, ℕ, ◌+◌, ◌*◌, ◌/◌, ◌≤◌, ◌^◌, ◌%◌, ◌==◌, Bool, true, false, List, [], ◌∷◌, ◌++◌, length, fold, get_or, set, replicate, slice_index, Option, Some, None, refl, sym, ap, arith, eq-eqb, length-append}
use Rattle.std.specs.Prelude.{if◌then◌else◌}
use Rattle.std.proofs.lemmas.Bool.Decides.{nat_tests}
use Rattle.std.proofs.lemmas.List.{length-set, length-replicate}
use Rattle.insert_points.specs.declared.call.Event.{Event}
use Rattle.tool_parts.specs.Pairs.{sum_zip, zip_with}
use Rattle.tool_parts.proofs.Pairs.{sum_zip-none, zip_with-same}
use Rattle.tool_parts.proofs.Effects.{all-le, effect_merged, effect_more, kept_by_all}
use Rattle.cache_tool.specs.declared.slice.CacheSlice.{CacheSlice}
use Rattle.cache_tool.specs.declared.slice.Touched.{Touched}
use Rattle.cache_tool.specs.Cache.{Cache, access, accesses, empty, keeps, last_byte, lines_between, lines_of, simulate, step}
use Rattle.cache_tool.specs.Slice.{HasSets, IsSlice, first_hits, first_misses, kept_after, settled}
use Rattle.cache_tool.proofs.Steps.{Cache-eq}

-- a slice of no event has touched no set, and leaves every cache as it is
pub settled-none : (sets : ℕ) (ts : List (Option Touched)) → ts ≡ replicate sets None → (c : Cache) → HasSets sets c → settled ts 0 0 c ≡ c
settled-none sets ts e c same =
    let hs = ap (λ l. sum_zip first_hits l c.kept) e ∙ sum_zip-none first_hits None (λ o. refl) sets c.kept in
    let ms = ap (λ l. sum_zip first_misses l c.kept) e ∙ sum_zip-none first_misses None (λ o. refl) sets c.kept in
    Cache-eq _ _ _ _ _ _ (ap (λ l. zip_with kept_after l c.kept) e ∙ zip_with-same kept_after None (λ o. refl) sets c.kept same) (omega (arith, hs)) (omega (arith, ms))

module _ (sets : ℕ) where
  length-access : (c : Cache) (k : ℕ) → length (access sets c k).kept ≡ length c.kept
  length-access c k = by (keeps (get_or c.kept (k % sets) None) k)
    where
      by : (b : Bool) → length (if b then record c { hits = c.hits + 1 } else record { kept = set c.kept (k % sets) (Some k); hits = c.hits; misses = c.misses + 1 }).kept ≡ length c.kept
      by true = refl
      by false = length-set c.kept (k % sets) (Some k)

  access-more : (c : Cache) (k : ℕ) → accesses (access sets c k) ≤ accesses c + 1
  access-more c k = by (keeps (get_or c.kept (k % sets) None) k)
    where
      by : (b : Bool) → accesses (if b then record c { hits = c.hits + 1 } else record { kept = set c.kept (k % sets) (Some k); hits = c.hits; misses = c.misses + 1 }) ≤ accesses c + 1
      by true = omega arith
      by false = omega arith

  access-sets : (n : ℕ) (c : Cache) (k : ℕ) → HasSets n c → HasSets n (access sets c k)
  access-sets n c k h = length-access c k ∙ h

  module _ (bytes : ℕ) where
    length-lines_of : (e : Event) → length (lines_of bytes e) ≤ 2
    length-lines_of e = grind arith

    step-sets : (n : ℕ) (c : Cache) (e : Event) → HasSets n c → HasSets n (step sets bytes c e)
    step-sets n c e h = kept_by_all (access sets) (HasSets n) (access-sets n) c (lines_of bytes e) h

    step-more : (c : Cache) (e : Event) → accesses (step sets bytes c e) ≤ accesses c + 2
    step-more c e = omega (arith, all-le (access sets) accesses 1 access-more c (lines_of bytes e), length-lines_of e)

    -- what an event of the tool's call does: an access to one line, or to two
    step-lines : (c : Cache) (e : Event) (first last : ℕ) → e.number ≡ 0 → first ≡ slice_index e.args 0 / bytes
        → last ≡ last_byte (slice_index e.args 0) (slice_index e.args 1) / bytes → step sets bytes c e ≡ fold (access sets) c (lines_between first last)
    step-lines c e first last own f l =
        let a : ℕ = slice_index e.args 0 / bytes in
        let b : ℕ = last_byte (slice_index e.args 0) (slice_index e.args 1) / bytes in
        ap (λ own. fold (access sets) c (if own then lines_between a b else [])) (eq-eqb _ 0 own) ∙ ap (λ n. fold (access sets) c (lines_between n b)) (sym f)
        ∙ ap (λ n. fold (access sets) c (lines_between first n)) (sym l)

    pub step-one : (c : Cache) (e : Event) (first last : ℕ) → e.number ≡ 0 → first ≡ slice_index e.args 0 / bytes
        → last ≡ last_byte (slice_index e.args 0) (slice_index e.args 1) / bytes → first ≡ last → step sets bytes c e ≡ access sets c first
    step-one c e first last own f l same =
        step-lines c e first last own f l ∙ ap (λ one. fold (access sets) c (if one then first ∷ [] else first ∷ last ∷ [])) (eq-eqb first last same)

    pub step-two : (c : Cache) (e : Event) (first last : ℕ) → e.number ≡ 0 → first ≡ slice_index e.args 0 / bytes
        → last ≡ last_byte (slice_index e.args 0) (slice_index e.args 1) / bytes → (first ≡ last → ⊥) → step sets bytes c e ≡ access sets (access sets c first) last
    step-two c e first last own f l other =
        let two : (first == last) ≡ false = grind (arith, nat_tests) in
        step-lines c e first last own f l ∙ ap (λ one. fold (access sets) c (if one then first ∷ [] else first ∷ last ∷ [])) two

    -- a slice after one more event
    pub slice_more : (ys : List Event) (e : Event) (old new : CacheSlice) → IsSlice sets bytes ys old
        → new.line_bits ≡ old.line_bits → new.set_mask ≡ old.set_mask → length new.touched.items ≡ length old.touched.items
        → new.hits + new.misses ≤ old.hits + old.misses + 2
        → ((c : Cache) → HasSets sets c → settled new.touched.items new.hits new.misses c ≡ step sets bytes (settled old.touched.items old.hits old.misses c) e)
        → IsSlice sets bytes (ys ++ e ∷ []) new
    slice_more ys e old new r bits mask sized few more = record {
      few_bits = omega (arith, r.few_bits, bits);
      line_is = ap (λ n. 2 ^ n) bits ∙ r.line_is;
      mask_is = ap (λ n. n + 1) mask ∙ r.mask_is;
      sized = sized ∙ r.sized;
      bounded = omega (arith, r.bounded, few, length-append ys (e ∷ []));
      exact = effect_more (step sets bytes) (HasSets sets) ys e _ _ r.exact more;
    }

    module _ (xs ys : List Event) (c : Cache) (is : c ≡ simulate sets bytes xs) where
      pub simulated-sets : HasSets sets c
      simulated-sets = ap (λ c. length c.kept) is ∙ kept_by_all (step sets bytes) (HasSets sets) (step-sets sets) (empty sets) xs (length-replicate sets None)

      -- what a slice says of the cache of xs is the cache of xs and the slice's events
      pub merged : (slice : CacheSlice) → IsSlice sets bytes ys slice → settled slice.touched.items slice.hits slice.misses c ≡ simulate sets bytes (xs ++ ys)
      merged slice r = effect_merged (step sets bytes) (HasSets sets) (empty sets) xs ys _ c is simulated-sets r.exact

      pub merged-few : (slice : CacheSlice) → IsSlice sets bytes ys slice → accesses (settled slice.touched.items slice.hits slice.misses c) ≤ 2 * (length xs + length ys)
      merged-few slice r =
          let top = all-le (step sets bytes) accesses 2 step-more (empty sets) (xs ++ ys) in
          let same = ap accesses (merged slice r) in
          omega (arith, top, same, length-append xs ys)
