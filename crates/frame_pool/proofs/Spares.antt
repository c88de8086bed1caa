-- The spare frames, while one is handed out or given back.
use Rattle.std.proofs.Common.{◌≡◌, ℕ, ◌+◌, ◌<◌, ◌≢◌, ◌++◌, ◌∷◌, [], Bool, true, false, refl, List, length, get_or, ap, sym, ◌∙◌, arith, length-append, get_or-set_same, get_or-set_other, inl, inr}
use Rattle.std.proofs.Math.ListN.{set, length-set}
use Rattle.std.proofs.lemmas.Bool.{cases_lt, true≢false}
use Rattle.std.proofs.lemmas.List.{get_or_append_left, get_or_push}
use Rattle.frame_pool.specs.PoolState.{given_count}
use Rattle.frame_pool.specs.Spare.{AreSpare}
use Rattle.frame_pool.proofs.Rules.{given_count-set, given_count-clear, given_count-push, given_in}

pub nothing_given : AreSpare [] []
unfolding given_count
nothing_given = record {
  adds_up = refl;
  inside = λ k lt. absurd (omega arith);
  free = λ k lt. absurd (omega arith);
  distinct = λ j k lt lt' e. absurd (omega arith);
}

at_push : (spare : List ℕ) (f k : ℕ) (P : ℕ → Type 0) → k < length (spare ++ f ∷ []) → (k < length spare → P (get_or spare k 0)) → (k ≡ length spare → P f) → P (get_or (spare ++ f ∷ []) k 0)
at_push spare f k P lt old new =
    let len = length-append spare (f ∷ []) in
    elim (cases_lt k (length spare)) [
      | inl less ↦ rw (get_or_append_left spare (f ∷ []) 0 k less) (old less)
      | inr ge ↦ let is : k ≡ length spare = omega arith in rw (get_or_push spare f 0 k (sym is)) (new is)
    ]

-- a frame is given back
pub given_back : (given : List Bool) (spare : List ℕ) (f : ℕ) → get_or given f false ≡ true → AreSpare given spare → AreSpare (set given f false) (spare ++ f ∷ [])
given_back given spare f h b =
    let lt = given_in given f h in
    let len = length-append spare (f ∷ []) in
    let len' = length-set given f false in
    let count = given_count-clear given f lt h in
    let adds = b.adds_up in
    let other : (k : ℕ) → k < length spare → get_or spare k 0 ≢ f = λ k less e. true≢false (sym h ∙ ap (λ n. get_or given n false) (sym e) ∙ b.free k less) in
    record {
      adds_up = omega arith;
      inside = λ k less. at_push spare f k (λ n. n < length (set given f false)) less (λ old. omega (arith, b.inside k old)) (λ _. omega arith);
      free = λ k less. at_push spare f k (λ n. get_or (set given f false) n false ≡ false) less
          (λ old. get_or-set_other given f (get_or spare k 0) false false (other k old) ∙ b.free k old)
          (λ _. get_or-set_same given f false false lt);
      distinct = λ j k lj lk. at_push spare f j (λ n. n ≡ get_or (spare ++ f ∷ []) k 0 → j ≡ k) lj
          (λ oldj. at_push spare f k (λ n. get_or spare j 0 ≡ n → j ≡ k) lk
          (λ oldk. b.distinct j k oldj oldk)
          (λ _ e. absurd (other j oldj e)))
          (λ lastj. at_push spare f k (λ n. f ≡ n → j ≡ k) lk
          (λ oldk e. absurd (other k oldk (sym e)))
          (λ lastk e. lastj ∙ sym lastk));
    }

-- a spare frame is handed out
pub handed_out : (given : List Bool) (spare rest : List ℕ) (f : ℕ) → spare ≡ rest ++ f ∷ [] → AreSpare given spare → AreSpare (set given f true) rest
handed_out given spare rest f parts b =
    let len : length spare ≡ length rest + 1 = ap length parts ∙ length-append rest (f ∷ []) in
    let len' = length-set given f true in
    let same : (k : ℕ) → k < length rest → get_or rest k 0 ≡ get_or spare k 0 = λ k lt. sym (ap (λ l. get_or l k 0) parts ∙ get_or_append_left rest (f ∷ []) 0 k lt) in
    let last : get_or spare (length rest) 0 ≡ f = ap (λ l. get_or l (length rest) 0) parts ∙ get_or_push rest f 0 (length rest) refl in
    let lt : f < length given = let below = b.inside (length rest) (omega arith) in omega arith in
    let free : get_or given f false ≡ false = ap (λ n. get_or given n false) (sym last) ∙ b.free (length rest) (omega arith) in
    let other : (k : ℕ) → k < length rest → get_or rest k 0 ≢ f = λ k less e.
    (let is : k ≡ length rest = b.distinct k (length rest) (omega arith) (omega arith) (sym (same k less) ∙ e ∙ sym last) in absurd (omega arith)) in
    let count = given_count-set given f lt free in
    let adds = b.adds_up in
    record {
      adds_up = omega arith;
      inside = λ k less. let below = b.inside k (omega arith) in let is = same k less in omega arith;
      free = λ k less. get_or-set_other given f (get_or rest k 0) true false (other k less) ∙ ap (λ n. get_or given n false) (same k less) ∙ b.free k (omega arith);
      distinct = λ j k lj lk e. b.distinct j k (omega arith) (omega arith) (sym (same j lj) ∙ e ∙ same k lk);
    }

pub out_free : (given : List Bool) (spare rest : List ℕ) (f : ℕ) → spare ≡ rest ++ f ∷ [] → AreSpare given spare → (f < length given) × (get_or given f false ≡ false)
out_free given spare rest f parts b =
    let len : length spare ≡ length rest + 1 = ap length parts ∙ length-append rest (f ∷ []) in
    let last : get_or spare (length rest) 0 ≡ f = ap (λ l. get_or l (length rest) 0) parts ∙ get_or_push rest f 0 (length rest) refl in
    let below = b.inside (length rest) (omega arith) in
    (omega arith, ap (λ n. get_or given n false) (sym last) ∙ b.free (length rest) (omega arith))

-- a new frame is handed out, and none is spare
pub handed_new : (given : List Bool) (spare : List ℕ) → AreSpare given spare → AreSpare (given ++ true ∷ []) spare
handed_new given spare b =
    let len = length-append given (true ∷ []) in
    let count = given_count-push given in
    let adds = b.adds_up in
    record {
      adds_up = omega arith;
      inside = λ k less. let below = b.inside k less in omega arith;
      free = λ k less. let below = b.inside k less in get_or_append_left given (true ∷ []) false (get_or spare k 0) below ∙ b.free k less;
      distinct = b.distinct;
    }
