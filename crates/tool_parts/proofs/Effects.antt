-- Effects of slices: of none, of one more event, merged; and what holds of every state of a fold.
use Rattle.std.proofs.Common.{◌≡◌, ◌∙◌, ℕ, ◌+◌, ◌*◌, ◌≤◌, List, [], ◌∷◌, ◌++◌, length, fold, sym, ap, arith}
use Rattle.std.proofs.lemmas.List.Sums.{fold-append}
use Rattle.tool_parts.specs.Effects.{IsEffect}

module _ {E S : Type 0} (step : S → E → S) where
  -- what each step keeps, all keep
  pub kept_by_all : (P : S → Type 0) → ((s : S) (e : E) → P s → P (step s e)) → (s : S) (xs : List E) → P s → P (fold step s xs)
  kept_by_all P keeps s [] h = h
  kept_by_all P keeps s (x ∷ xs) h = kept_by_all P keeps (step s x) xs (keeps s x h)

  -- what each step makes greater by n at most, all make greater by n for each at most
  pub all-le : (size : S → ℕ) (n : ℕ) → ((s : S) (e : E) → size (step s e) ≤ size s + n) → (s : S) (xs : List E) → size (fold step s xs) ≤ size s + n * length xs
  all-le size n one s [] = omega arith
  all-le size n one s (x ∷ xs) = omega (arith, all-le size n one (step s x) xs, one s x)

  module _ (IsStart : S → Type 0) where
    -- after one more event
    pub effect_more : (ys : List E) (e : E) (f g : S → S) → IsEffect step IsStart ys f → ((s : S) → IsStart s → g s ≡ step (f s) e) → IsEffect step IsStart (ys ++ e ∷ []) g
    effect_more ys e f g old more s start = more s start ∙ ap (λ t. step t e) (old s start) ∙ sym (fold-append step s ys (e ∷ []))

    -- on the state of the events before, the effect gives the state of all
    pub effect_merged : (first : S) (xs ys : List E) (f : S → S) (s : S) → s ≡ fold step first xs → IsStart s → IsEffect step IsStart ys f → f s ≡ fold step first (xs ++ ys)
    effect_merged first xs ys f s is start effect = effect s start ∙ ap (λ t. fold step t ys) is ∙ sym (fold-append step first xs ys)
