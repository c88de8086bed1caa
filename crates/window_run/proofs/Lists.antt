-- Lists of jobs, and what is so of each of them.
use Rattle.std.proofs.Common.{◌≡◌, ℕ, suc, ◌+◌, ◌-◌, ◌<◌, ◌≤◌, List, [], ◌∷◌, ◌++◌, length, get_or, refl, sym, subst, ◌∙◌, arith, Result, Ok, Err}
use Rattle.std.specs.Prelude.{IfOk}
use Rattle.std.specs.List.{AllZip}
use Rattle.std.specs.declared.alloc.AllocError.{AllocError}
use Rattle.std.proofs.lemmas.Result.{IfOk-weaker}
use Rattle.guest_model.specs.Serial.{Position}
use Rattle.insert_points.specs.Plan.{PlanFields}
use Rattle.insert_points.specs.declared.call.Event.{Event}
use Rattle.boundary_verify.specs.Job.{JobFields, Lasts, path_of}
use Rattle.boundary_verify.specs.Path.{Path}
use Rattle.boundary_verify.specs.Pieces.{HoldsForPaths}
use Rattle.ordered_merge.specs.Merged.{AreNumberedFrom}
use Rattle.slice_runner.specs.Piece.{IsPieceOf}
use Rattle.tool_law.specs.declared.piece.Piece.{Piece}
use Rattle.window_run.specs.Jobs.{AreJobs, IsJobOf, IsResultOf}

-- one job more
pub jobs_push : (n b e c : ℕ) (jobs : List JobFields) (job : JobFields) → AreJobs n b jobs e → job.index ≡ n + length jobs → e < c → Lasts (path_of job) job.peak (c - e) → AreJobs n b (jobs ++ job ∷ []) c
jobs_push n b e c [] job same index rises lasts =
    (c, omega (arith, index), omega (arith, same, rises), subst (λ (k : ℕ). Lasts (path_of job) job.peak (c - k)) (sym same) lasts, refl)
jobs_push n b e c (first ∷ jobs) job h index rises lasts =
    (h.0, h.1, h.2, h.3, jobs_push (n + 1) h.0 e c jobs job h.4 (omega (arith, index)) rises lasts)

-- each job has a step
pub jobs_rise : (n b e : ℕ) (jobs : List JobFields) → AreJobs n b jobs e → b + length jobs ≤ e
jobs_rise n b e [] same = omega (arith, same)
jobs_rise n b e (job ∷ jobs) h = let rest = jobs_rise (n + 1) h.0 e jobs h.4 in omega (arith, rest, h.2)

-- what is so of each job's path is so of the paths of the run
pub paths_hold : {X : Type 0} (P : Path → X → Type 0) (p : Position) (t b : ℕ) (cuts : List ℕ) (jobs : List JobFields) (xs : List X) → HoldsForPaths IsJobOf p t b cuts jobs → AllZip (λ x job. P (path_of job) x) xs jobs
    → HoldsForPaths P p t b cuts xs
paths_hold P p t b [] [] xs h z = absurd h
paths_hold P p t b [] (job ∷ other ∷ jobs) xs h z = absurd h
paths_hold P p t b [] (job ∷ []) [] h z = absurd z
paths_hold P p t b [] (job ∷ []) (x ∷ other ∷ xs) h z = absurd z.1
paths_hold P p t b [] (job ∷ []) (x ∷ []) h z = subst (λ (path : Path). P path x) h z.0
paths_hold P p t b (c ∷ cuts) [] xs h z = absurd h
paths_hold P p t b (c ∷ cuts) (job ∷ jobs) [] h z = absurd z
paths_hold P p t b (c ∷ cuts) (job ∷ jobs) (x ∷ xs) h z = (subst (λ (path : Path). P path x) h.0 z.0, paths_hold P p t c cuts jobs xs h.1 z.1)

pub zip_from_index : {A B : Type 0} (P : A → B → Type 0) (xs : List A) (ys : List B) → length ys ≡ length xs → ((i : ℕ) (x : A) (y : B) → i < length xs → P (get_or xs i x) (get_or ys i y)) → AllZip P xs ys
zip_from_index P [] [] e h = tt
zip_from_index P [] (y ∷ ys) e h = absurd (omega (arith, e))
zip_from_index P (x ∷ xs) [] e h = absurd (omega (arith, e))
zip_from_index P (x ∷ xs) (y ∷ ys) e h = (h 0 x y (omega arith), zip_from_index P xs ys (omega (arith, e)) (λ i a b lt. h (suc i) a b (omega (arith, lt))))

pub if_ok_both : {T E : Type 0} (r : Result T E) {P Q R : T → Type 0} → ((x : T) → P x → Q x → R x) → IfOk r P → IfOk r Q → IfOk r R
if_ok_both (Ok x) f p q = f x p q
if_ok_both (Err e) f p q = tt

module _ {T L S : Type 0} (stands : List Event → L → Type 0) (plan : PlanFields) where
  -- the pieces have the numbers of their jobs
  pub numbered : (n b e : ℕ) (jobs : List JobFields) (results : List (Result (Piece T L S) AllocError)) → AllZip (IsResultOf stands plan) jobs results → AreJobs n b jobs e → AreNumberedFrom n results
  numbered n b e [] [] z h = tt
  numbered n b e [] (r ∷ results) z h = absurd z
  numbered n b e (job ∷ jobs) [] z h = absurd z
  numbered n b e (job ∷ jobs) (r ∷ results) z h =
      (IfOk-weaker r (IsPieceOf stands plan job) (λ piece. piece.index ≡ n) (λ piece is. is.index ∙ h.1) z.0, numbered (n + 1) h.0 e jobs results z.1 h.4)
