-- The laws of runs of a step function.
use Rattle.std.proofs.Common.{◌≡◌, ℕ, zero, suc, ◌+◌, ◌-◌, ◌*◌, ◌<◌, ◌≤◌, List, [], ◌++◌, refl, sym, ap, ◌∙◌, add-one, add-zero, add-suc, mul-zero, arith, append_assoc}
use Rattle.std.proofs.lemmas.List.{append-nil}
use Rattle.guest_model.specs.Runs.{RunState, Running, Ended, IsRunning, advance, after, here, along}

pub after-zero : {S E : Type 0} (step : S → RunState S E) (x : RunState S E) → after step 0 x ≡ x
unfolding after
after-zero step x = refl

pub after-suc : {S E : Type 0} (step : S → RunState S E) (n : ℕ) (x : RunState S E) → after step (suc n) x ≡ advance step (after step n x)
unfolding after
after-suc step n x = refl

pub along-zero : {S E A : Type 0} (step : S → RunState S E) (f : S → List A) (x : RunState S E) → along step f 0 x ≡ []
unfolding along
along-zero step f x = refl

pub along-suc : {S E A : Type 0} (step : S → RunState S E) (f : S → List A) (n : ℕ) (x : RunState S E) → along step f (suc n) x ≡ along step f n x ++ here f (after step n x)
unfolding along
along-suc step f n x = refl

-- a + b steps are a steps and then b
pub after-add : {S E : Type 0} (step : S → RunState S E) (a b : ℕ) (x : RunState S E) → after step (a + b) x ≡ after step b (after step a x)
unfolding after
after-add step a zero x = rw (add-zero a) refl
after-add step a (suc b) x = rw (add-suc a b) (ap (advance step) (after-add step a b x))

pub along-add : {S E A : Type 0} (step : S → RunState S E) (f : S → List A) (a b : ℕ) (x : RunState S E) → along step f (a + b) x ≡ along step f a x ++ along step f b (after step a x)
unfolding along
along-add step f a zero x = rw (add-zero a) (sym (append-nil (along step f a x)))
along-add step f a (suc b) x = rw (add-suc a b, along-add step f a b x, after-add step a b x, append_assoc) refl

pub after-over : {S E : Type 0} (step : S → RunState S E) (n : ℕ) (s : S) (e : E) → after step n (Ended s e) ≡ Ended s e
unfolding after
after-over step zero s e = refl
after-over step (suc n) s e = rw (after-over step n s e) refl

pub along-over : {S E A : Type 0} (step : S → RunState S E) (f : S → List A) (n : ℕ) (s : S) (e : E) → along step f n (Ended s e) ≡ []
unfolding along
along-over step f zero s e = refl
along-over step f (suc n) s e = rw (along-over step f n s e, after-over step n s e) refl

-- a run that ended stays as it ended
pub over_stays : {S E : Type 0} (step : S → RunState S E) (n k : ℕ) (x : RunState S E) (s : S) (e : E) → after step n x ≡ Ended s e → after step (n + k) x ≡ Ended s e
over_stays step n k x s e h = after-add step n k x ∙ ap (after step k) h ∙ after-over step k s e

-- and what is said along it
pub along_stays : {S E A : Type 0} (step : S → RunState S E) (f : S → List A) (n k : ℕ) (x : RunState S E) (s : S) (e : E) → after step n x ≡ Ended s e → along step f (n + k) x ≡ along step f n x
along_stays step f n k x s e h =
    along-add step f n k x ∙ ap (λ y. along step f n x ++ along step f k y) h ∙ ap (λ ys. along step f n x ++ ys) (along-over step f k s e) ∙ append-nil (along step f n x)

-- one step more of a run that goes on
pub after-next : {S E : Type 0} (step : S → RunState S E) (n : ℕ) (x : RunState S E) (q : S) → after step n x ≡ Running q → after step (n + 1) x ≡ step q
after-next step n x q h = rw (add-one n) (after-suc step n x ∙ ap (advance step) h)

pub along-next : {S E A : Type 0} (step : S → RunState S E) (f : S → List A) (n : ℕ) (x : RunState S E) (q : S) → after step n x ≡ Running q → along step f (n + 1) x ≡ along step f n x ++ f q
along-next step f n x q h = rw (add-one n) (along-suc step f n x ∙ ap (λ y. along step f n x ++ here f y) h)

-- a run that ends at its next step, within some number of steps
pub after-last : {S E : Type 0} (step : S → RunState S E) (n most : ℕ) (x : RunState S E) (q r : S) (e : E) → n < most → after step n x ≡ Running q → step q ≡ Ended r e → after step most x ≡ Ended r e
after-last step n most x q r e lt h ends =
    let size : n + 1 + (most - (n + 1)) ≡ most = omega arith in
    ap (λ (m : ℕ). after step m x) (sym size) ∙ over_stays step (n + 1) (most - (n + 1)) x r e (after-next step n x q h ∙ ends)

pub along-last : {S E A : Type 0} (step : S → RunState S E) (f : S → List A) (n most : ℕ) (x : RunState S E) (q r : S) (e : E) → n < most → after step n x ≡ Running q → step q ≡ Ended r e → along step f most x ≡ along step f n x ++ f q
along-last step f n most x q r e lt h ends =
    let size : n + 1 + (most - (n + 1)) ≡ most = omega arith in
    ap (λ (m : ℕ). along step f m x) (sym size) ∙ along_stays step f (n + 1) (most - (n + 1)) x r e (after-next step n x q h ∙ ends) ∙ along-next step f n x q h

pub over_later : {S E : Type 0} (step : S → RunState S E) (a n : ℕ) (x : RunState S E) (s : S) (e : E) → a ≤ n → after step a x ≡ Ended s e → after step n x ≡ Ended s e
over_later step a n x s e le h =
    let sum : n ≡ a + (n - a) = omega arith in rw sum (over_stays step a (n - a) x s e h)

-- a run that still goes on went on before
running_before : {S E : Type 0} (step : S → RunState S E) (a b : ℕ) (x : RunState S E) → IsRunning (after step (a + b) x) → IsRunning (after step a x)
running_before {S} {E} step a b x (t, h) = go (after step a x) refl
  where
    go : (y : RunState S E) → after step a x ≡ y → IsRunning y
    go (Running s) e = (s, refl)
    go (Ended s e) q = cc (over_stays step a b x s e q)

pub running_earlier : {S E : Type 0} (step : S → RunState S E) (a n : ℕ) (x : RunState S E) → a ≤ n → IsRunning (after step n x) → IsRunning (after step a x)
running_earlier step a n x le h =
    let sum : n ≡ a + (n - a) = omega arith in running_before step a (n - a) x (rw sum at h)

-- a run that came back to a state never ends
comes_back : {S E : Type 0} (step : S → RunState S E) (k : ℕ) (s : S) → after step k (Running s) ≡ Running s → (m : ℕ) → after step (k * m) (Running s) ≡ Running s
comes_back step k s h zero = rw mul-zero (after-zero step (Running s))
comes_back step k s h (suc m) =
    let size : k * suc m ≡ k + k * m = grind arith in
    rw (size, after-add step k (k * m) (Running s), h) (comes_back step k s h m)

pub never_ends : {S E : Type 0} (step : S → RunState S E) (k : ℕ) (s : S) → 1 ≤ k → after step k (Running s) ≡ Running s → (n : ℕ) → IsRunning (after step n (Running s))
never_ends step k s positive h n = running_earlier step n (k * n) (Running s) (grind arith) (s, comes_back step k s h n)

pub never_ends_from : {S E : Type 0} (step : S → RunState S E) (a k : ℕ) (s t : S) → 1 ≤ k → after step a (Running s) ≡ Running t → after step (a + k) (Running s) ≡ Running t → (n : ℕ) → IsRunning (after step n (Running s))
never_ends_from step a k s t positive first again n =
    let round : after step k (Running t) ≡ Running t = rw (after-add step a k (Running s), first) at again in
    running_earlier step n (a + n) (Running s) (omega arith) (rw (after-add step a n (Running s), first) (never_ends step k t positive round n))

-- the last of n + 1 steps
pub last_step : {S E : Type 0} (step : S → RunState S E) (n : ℕ) (x : RunState S E) (t : S) → after step (suc n) x ≡ Running t → (s : S) × (after step n x ≡ Running s) × (step s ≡ Running t)
last_step {S} {E} step n x t h = go (after step n x) refl
  where
    go : (y : RunState S E) → after step n x ≡ y → (s : S) × (after step n x ≡ Running s) × (step s ≡ Running t)
    go (Running s) e = (s, e, sym (after-suc step n x ∙ ap (advance step) e) ∙ h)
    go (Ended s end) e = cc (over_stays step n 1 x s end e, add-one n)

pub running_same : {S E : Type 0} (x : RunState S E) (s t : S) → x ≡ Running s → x ≡ Running t → s ≡ t
running_same x s t h g = cc
