-- How many pages are marked.
use Rattle.std.proofs.Common.{◌≡◌, ℕ, zero, suc, ◌+◌, ◌<◌, ◌≤◌, ◌⊎◌, Bool, true, false, cond, List, [], ◌∷◌, length, get_or, refl, sym, ap, ◌∙◌, inl, inr, get_or-set_same, get_or-set_other, arith}
use Rattle.std.proofs.Math.ListN.{set}
use Rattle.std.proofs.lemmas.Bool.{cases_eq, cases_lt, true≢false}
use Rattle.std.proofs.lemmas.List.{get_or_past}
use Rattle.std.specs.List.{sum_by}
use Rattle.std.proofs.lemmas.List.Sums.{count_by-le-length, sum_by-set, sum_by-cons, get_or-le-sum_by}
use Rattle.cow_pages.specs.Marks.{count_marked, unmarked}
use Rattle.std.proofs.lemmas.List.Folds.{sum_by-replicate}

pub count_marked-le : (marks : List Bool) → count_marked marks ≤ length marks
unfolding count_marked
count_marked-le marks = count_by-le-length (λ m. m) marks

-- a page more is marked
pub count_marked-set : (marks : List Bool) (page : ℕ) → page < length marks → get_or marks page false ≡ false → count_marked (set marks page true) ≡ count_marked marks + 1
unfolding count_marked
count_marked-set marks page lt none =
    let here = sum_by-set (λ (b : Bool). cond b 1 0) marks page true false lt in
    let zero_here : cond {A = ℕ} (get_or marks page false) 1 0 ≡ 0 = ap (λ (b : Bool). cond b 1 0) none in
    omega (arith, here, zero_here)

-- a page that is marked already
pub set_marked : (marks : List Bool) (page : ℕ) → get_or marks page false ≡ true → set marks page true ≡ marks
set_marked [] page h = refl
set_marked (x ∷ xs) zero h = ap (λ b. b ∷ xs) (sym h)
set_marked (x ∷ xs) (suc page) h = ap (λ l. x ∷ l) (set_marked xs page h)

pub count_marked-unmarked : (pages : ℕ) → count_marked (unmarked pages) ≡ 0
unfolding count_marked unmarked
count_marked-unmarked pages = omega (arith, sum_by-replicate (λ (b : Bool). cond b 1 0) pages false)

at_most : (x y : Bool) → (x ≡ true → y ≡ true) → cond {A = ℕ} x 1 0 ≤ cond y 1 0
at_most true y h = let e = ap (λ (b : Bool). cond {A = ℕ} b 1 0) (h refl) in omega (arith, e)
at_most false y h = omega arith

sums : (xs ys : List Bool) → length xs ≡ length ys → ((i : ℕ) → get_or xs i false ≡ true → get_or ys i false ≡ true) → sum_by (λ (b : Bool). cond b 1 0) xs ≤ sum_by (λ (b : Bool). cond b 1 0) ys
sums [] ys e h = omega arith
sums (x ∷ xs) [] e h = absurd (omega arith)
sums (x ∷ xs) (y ∷ ys) e h =
    omega (arith, at_most x y (h 0), sums xs ys (omega arith) (λ i. h (suc i)), sum_by-cons (λ (b : Bool). cond b 1 0) x xs, sum_by-cons (λ (b : Bool). cond b 1 0) y ys)

-- where each marked page is also marked in another list, that list has at least as many
pub count_marked-among : (xs ys : List Bool) → length xs ≡ length ys → ((i : ℕ) → get_or xs i false ≡ true → get_or ys i false ≡ true) → count_marked xs ≤ count_marked ys
unfolding count_marked
count_marked-among xs ys e h = sums xs ys e h

pub marked_in_set : (marks : List Bool) (page q : ℕ) → get_or (set marks page true) q false ≡ true → (q ≡ page) ⊎ (get_or marks q false ≡ true)
marked_in_set marks page q h =
    elim (cases_eq q page) [
      | inl e ↦ inl e
      | inr ne ↦ inr (sym (get_or-set_other marks page q true false ne) ∙ h)
    ]

pub marked_by_set : (marks : List Bool) (page q : ℕ) → page < length marks → (q ≡ page) ⊎ (get_or marks q false ≡ true) → get_or (set marks page true) q false ≡ true
marked_by_set marks page q lt h =
    elim (cases_eq q page) [
      | inl e ↦ ap (λ k. get_or (set marks page true) k false) e ∙ get_or-set_same marks page true false lt
      | inr ne ↦ get_or-set_other marks page q true false ne ∙ elim h [ inl e ↦ absurd (ne e) | inr there ↦ there ]
    ]

counted_there : (b : Bool) → cond {A = ℕ} b 1 0 ≤ 0 → b ≡ false
counted_there true le = absurd (omega arith)
counted_there false le = refl

-- where none is counted, none is marked
pub none_marked : (marks : List Bool) → count_marked marks ≡ 0 → (page : ℕ) → get_or marks page false ≡ false
unfolding count_marked
none_marked marks none page =
    elim (cases_lt page (length marks)) [
      | inl lt ↦ counted_there (get_or marks page false) (omega (arith, none, get_or-le-sum_by (λ (b : Bool). cond {A = ℕ} b 1 0) marks page false lt))
      | inr ge ↦ get_or_past marks page false ge
    ]

-- a page less is marked
pub count_marked-clear : (marks : List Bool) (page : ℕ) → page < length marks → get_or marks page false ≡ true → count_marked (set marks page false) + 1 ≡ count_marked marks
unfolding count_marked
count_marked-clear marks page lt some =
    let here = sum_by-set (λ (b : Bool). cond b 1 0) marks page false false lt in
    let one_here : cond {A = ℕ} (get_or marks page false) 1 0 ≡ 1 = ap (λ (b : Bool). cond b 1 0) some in
    omega (arith, here, one_here)

-- a page that is not marked anyway
pub set_unmarked : (marks : List Bool) (page : ℕ) → get_or marks page false ≡ false → set marks page false ≡ marks
set_unmarked [] page h = refl
set_unmarked (x ∷ xs) zero h = ap (λ b. b ∷ xs) (sym h)
set_unmarked (x ∷ xs) (suc page) h = ap (λ l. x ∷ l) (set_unmarked xs page h)

pub marked_in_clear : (marks : List Bool) (page q : ℕ) → page < length marks → get_or (set marks page false) q false ≡ true → (q ≡ page → ⊥) × (get_or marks q false ≡ true)
marked_in_clear marks page q lt h =
    elim (cases_eq q page) [
      | inl e ↦ absurd (true≢false (sym h ∙ ap (λ k. get_or (set marks page false) k false) e ∙ get_or-set_same marks page false false lt))
      | inr ne ↦ (ne, sym (get_or-set_other marks page q false false ne) ∙ h)
    ]
