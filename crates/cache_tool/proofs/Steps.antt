-- One access of a slice is one access of each cache that it may start from.
use Rattle.std.proofs.Common.{◌≡◌, ◌∙◌, ℕ, ◌+◌, ◌<◌, ◌%◌, Bool, true, false, List, length, get_or, set, Option, Some, None, refl, sym, ap, arith}
use Rattle.std.specs.Prelude.{if◌then◌else◌}
use Rattle.std.proofs.lemmas.List.{set-get_or}
use Rattle.std.proofs.lemmas.Bool.Decides.{nat_tests}
use Rattle.tool_parts.specs.Pairs.{zip_with}
use Rattle.tool_parts.proofs.Pairs.{get_or-zip_with, sum_zip-set, zip_with-set}
use Rattle.cache_tool.specs.declared.slice.Touched.{Touched}
use Rattle.cache_tool.specs.Cache.{Cache, access, keeps}
use Rattle.cache_tool.specs.Slice.{first_hits, first_misses, kept_after, settled}

pub Cache-eq : (k k' : List (Option ℕ)) (h h' m m' : ℕ) → k ≡ k' → h ≡ h' → m ≡ m' → ◌≡◌ {A = Cache} (record { kept = k; hits = h; misses = m }) (record { kept = k'; hits = h'; misses = m' })
Cache-eq k k' h h' m m' p q r = cc

keeps-true : (o : Option ℕ) (k : ℕ) → keeps o k ≡ true → o ≡ Some k
keeps-true None k e = cc
keeps-true (Some l) k e = ap Some (grind (arith, nat_tests))

keeps-self : (k : ℕ) → keeps (Some k) k ≡ true
keeps-self k = grind (arith, nat_tests)

keeps-other : (l k : ℕ) → (l ≡ k → ⊥) → keeps (Some l) k ≡ false
keeps-other l k ne = grind (arith, nat_tests)

module _ (sets : ℕ) (c : Cache) (k : ℕ) where
  access-hit : keeps (get_or c.kept (k % sets) None) k ≡ true → access sets c k ≡ record c { hits = c.hits + 1 }
  access-hit e = ap (λ b. if b then record c { hits = c.hits + 1 } else record { kept = set c.kept (k % sets) (Some k); hits = c.hits; misses = c.misses + 1 }) e

  access-miss : keeps (get_or c.kept (k % sets) None) k ≡ false → access sets c k ≡ record { kept = set c.kept (k % sets) (Some k); hits = c.hits; misses = c.misses + 1 }
  access-miss e = ap (λ b. if b then record c { hits = c.hits + 1 } else record { kept = set c.kept (k % sets) (Some k); hits = c.hits; misses = c.misses + 1 }) e

first_hits-some : (t : Touched) (o : Option ℕ) (b : Bool) → keeps o t.first ≡ b → first_hits (Some t) o ≡ (if b then 1 else 0)
first_hits-some t o b e = ap (λ b. if b then 1 else 0) e

first_misses-some : (t : Touched) (o : Option ℕ) (b : Bool) → keeps o t.first ≡ b → first_misses (Some t) o ≡ (if b then 0 else 1)
first_misses-some t o b e = ap (λ b. if b then 0 else 1) e

module _ (sets : ℕ) (ts : List (Option Touched)) (h m k : ℕ) (c : Cache) (within : k % sets < length ts) (same : length c.kept ≡ length ts) where
  kept_now : get_or (zip_with kept_after ts c.kept) (k % sets) None ≡ kept_after (get_or ts (k % sets) None) (get_or c.kept (k % sets) None)
  kept_now = get_or-zip_with kept_after ts c.kept (k % sets) None None None within same

  -- the first access to a set: what it is hangs on what the set kept
  pub settled-first : get_or ts (k % sets) None ≡ None → settled (set ts (k % sets) (Some (record { first = k; last = k }))) h m c ≡ access sets (settled ts h m c) k
  settled-first none =
      let t : Touched = record { first = k; last = k } in
      let was : Option ℕ = get_or c.kept (k % sets) None in
      let now : get_or (zip_with kept_after ts c.kept) (k % sets) None ≡ was = kept_now ∙ ap (λ x. kept_after x was) none in
      let hs = sum_zip-set first_hits ts c.kept (k % sets) (Some t) None None within same in
      let ms = sum_zip-set first_misses ts c.kept (k % sets) (Some t) None None within same in
      let h0 = ap (λ x. first_hits x was) none in
      let m0 = ap (λ x. first_misses x was) none in
      let ks = zip_with-set kept_after ts c.kept (k % sets) (Some t) None within same in
      let goal : Bool → Type 0 = λ b. keeps was k ≡ b → settled (set ts (k % sets) (Some t)) h m c ≡ access sets (settled ts h m c) k in
      let hit : goal true = λ e.
      let h1 = first_hits-some t was true e in
      let m1 = first_misses-some t was true e in
      let is_kept : get_or (zip_with kept_after ts c.kept) (k % sets) None ≡ Some k = now ∙ keeps-true was k e in
      Cache-eq _ _ _ _ _ _ (ks ∙ ap (set (zip_with kept_after ts c.kept) (k % sets)) (sym is_kept) ∙ set-get_or (zip_with kept_after ts c.kept) (k % sets) None)
      (omega (arith, hs, h0, h1)) (omega (arith, ms, m0, m1)) ∙ sym (access-hit sets (settled ts h m c) k (ap (λ o. keeps o k) now ∙ e)) in
      let miss : goal false = λ e.
      let h1 = first_hits-some t was false e in
      let m1 = first_misses-some t was false e in
      Cache-eq _ _ _ _ _ _ ks (omega (arith, hs, h0, h1)) (omega (arith, ms, m0, m1)) ∙ sym (access-miss sets (settled ts h m c) k (ap (λ o. keeps o k) now ∙ e)) in
      elim (keeps was k) as goal [ true ↦ hit | false ↦ miss ] refl

  -- a later access that finds its line
  pub settled-hit : (t : Touched) → get_or ts (k % sets) None ≡ Some t → t.last ≡ k → settled ts (h + 1) m c ≡ access sets (settled ts h m c) k
  settled-hit t some same_line =
      let now : get_or (zip_with kept_after ts c.kept) (k % sets) None ≡ Some k = kept_now ∙ ap (λ x. kept_after x (get_or c.kept (k % sets) None)) some ∙ ap Some same_line in
      Cache-eq _ _ _ _ _ _ refl (omega arith) refl ∙ sym (access-hit sets (settled ts h m c) k (ap (λ o. keeps o k) now ∙ keeps-self k))

  -- a later access that does not
  pub settled-miss : (t : Touched) → get_or ts (k % sets) None ≡ Some t → (t.last ≡ k → ⊥) → settled (set ts (k % sets) (Some (record { first = t.first; last = k }))) h (m + 1) c ≡ access sets (settled ts h m c) k
  settled-miss t some other =
      let t' : Touched = record { first = t.first; last = k } in
      let was : Option ℕ = get_or c.kept (k % sets) None in
      let now : get_or (zip_with kept_after ts c.kept) (k % sets) None ≡ Some t.last = kept_now ∙ ap (λ x. kept_after x was) some in
      let hs = sum_zip-set first_hits ts c.kept (k % sets) (Some t') None None within same in
      let ms = sum_zip-set first_misses ts c.kept (k % sets) (Some t') None None within same in
      let h0 = ap (λ x. first_hits x was) some in
      let m0 = ap (λ x. first_misses x was) some in
      Cache-eq _ _ _ _ _ _ (zip_with-set kept_after ts c.kept (k % sets) (Some t') None within same) (omega (arith, hs, h0)) (omega (arith, ms, m0))
      ∙ sym (access-miss sets (settled ts h m c) k (ap (λ o. keeps o k) now ∙ keeps-other t.last k other))
