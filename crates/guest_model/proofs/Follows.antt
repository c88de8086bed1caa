-- A play with the records of a serial run goes where the run goes.
use Rattle.std.proofs.Common.{◌≡◌, ℕ, zero, suc, ◌+◌, ◌-◌, List, [], ◌∷◌, ◌++◌, refl, sym, ap, ◌∙◌, arith, add-one, length, append_assoc, add-zero}
use Rattle.std.specs.Prelude.{Some, slice_get}
use Rattle.std.proofs.lemmas.List.{length-append}
use Rattle.call_record.specs.Record.{CallRecord}
use Rattle.guest_model.specs.Runs.{Running, along}
use Rattle.guest_model.specs.Serial.{Position, step_of, entry_at, run_of, entries_of}
use Rattle.guest_model.specs.Play.{Script, play_step, play_of, spot_of}
use Rattle.guest_model.proofs.Runs.{after-zero, along-zero, last_step, after-next, along-next, running_same}
use Rattle.guest_model.proofs.Onward.{Onward, by_machine, by_call, onward}

pub slice_get_next : {A : Type 0} (xs : List A) (x : A) (ys : List A) → slice_get (xs ++ x ∷ ys) (length xs) ≡ Some x
slice_get_next [] x ys = refl
slice_get_next (y ∷ xs) x ys = slice_get_next xs x ys

-- one step of the run raises the record position by its records
calls_one : (p q : Position) → Onward p q → q.calls ≡ p.calls + length (entry_at p)
calls_one p q (by_machine e w c played) = rw (e, c) (sym (add-zero p.calls))
calls_one p q (by_call entry e c played) = rw (e, c) refl

next_along : {A : Type 0} (f : Position → List A) (p q : Position) (n : ℕ) → run_of n p ≡ Running q → along step_of f (suc n) (Running p) ≡ along step_of f n (Running p) ++ f q
next_along f p q n h = rw (← add-one n) (along-next step_of f n (Running p) q h)

pub calls_along : (p q : Position) (n : ℕ) → run_of n p ≡ Running q → q.calls ≡ p.calls + length (entries_of n p)
calls_along p q zero h = let same : p ≡ q = running_same (run_of 0 p) p q (after-zero step_of (Running p)) h in rw (along-zero step_of entry_at (Running p), same) (sym (add-zero q.calls))
calls_along p q (suc n) h =
    let l = last_step step_of n (Running p) q h in
    let one = calls_one l.0 q (onward l.0 q l.2) in
    let before = calls_along p l.0 n l.1 in
    rw (next_along entry_at p l.0 n l.1, length-append) (omega arith)

-- the records of n + 1 steps are those of n steps and that of the last one
earlier : (p q : Position) (n : ℕ) (rest all : List CallRecord) → run_of n p ≡ Running q → all ≡ entries_of (suc n) p ++ rest → all ≡ entries_of n p ++ (entry_at q ++ rest)
earlier p q n rest all h is = is ∙ rw (next_along entry_at p q n h) (append_assoc (entries_of n p) (entry_at q) rest)

-- a step of the play at a position of the run
pub follows_one : (script : Script) (p q r : Position) (n : ℕ) (rest : List CallRecord) → script.first ≡ p.calls → script.entries ≡ entries_of (suc n) p ++ rest → run_of n p ≡ Running q → step_of q ≡ Running r → play_step script (spot_of q) ≡ Running (spot_of r)
follows_one script p q r n rest first all h step = go (calls_along p q n h) (onward q r step)
  where
    go : q.calls ≡ p.calls + length (entries_of n p) → Onward q r → play_step script (spot_of q) ≡ Running (spot_of r)
    go count (by_machine e w c played) = played script
    go count (by_call entry e c played) =
        let place : q.calls - script.first ≡ length (entries_of n p) = omega arith in
        played script (rw (place, earlier p q n rest script.entries h all, e) (slice_get_next (entries_of n p) entry rest))

-- the play with the run's records, and any after them, is where the run is
pub follows : (script : Script) (p q : Position) (n : ℕ) (rest : List CallRecord) → script.first ≡ p.calls → script.entries ≡ entries_of n p ++ rest → run_of n p ≡ Running q → play_of script n (spot_of p) ≡ Running (spot_of q)
follows script p q zero rest first all h =
    let same : p ≡ q = running_same (run_of 0 p) p q (after-zero step_of (Running p)) h in
    rw same (after-zero (play_step script) (Running (spot_of q)))
follows script p q (suc n) rest first all h =
    let l = last_step step_of n (Running p) q h in
    let so_far : play_of script n (spot_of p) ≡ Running (spot_of l.0) = follows script p l.0 n (entry_at l.0 ++ rest) first (earlier p l.0 n rest script.entries l.1 all) l.1 in
    let one : play_of script (n + 1) (spot_of p) ≡ play_step script (spot_of l.0) = after-next (play_step script) n (Running (spot_of p)) (spot_of l.0) so_far in
    (rw add-one at one) ∙ follows_one script p l.0 q n rest first all l.1 l.2

-- where no call went on the world stays
pub world_stays : (p q : Position) (n : ℕ) → run_of n p ≡ Running q → q.calls ≡ p.calls → q.world ≡ p.world
world_stays p q zero h same = ap (λ (r : Position). r.world) (running_same (run_of 0 p) q p h (after-zero step_of (Running p)))
world_stays p q (suc n) h same =
    let l = last_step step_of n (Running p) q h in
    go l.0 (calls_along p l.0 n l.1) (world_stays p l.0 n l.1) (onward l.0 q l.2)
  where
    go : (r : Position) → r.calls ≡ p.calls + length (entries_of n p) → (r.calls ≡ p.calls → r.world ≡ p.world) → Onward r q → q.world ≡ p.world
    go r count before (by_machine e w c played) = w ∙ before (sym c ∙ same)
    go r count before (by_call entry e c played) = absurd (omega arith)
