-- As many free frames as suffice for a step.
use Rattle.std.proofs.Common.{◌≡◌, ℕ, ◌+◌, ◌*◌, ◌/◌, ◌≤◌, ◌&&◌, ◌||◌, Bool, true, false, cond, List, [], ◌∷◌, length, get_or, refl, ap, inl, inr, arith}
use Rattle.std.specs.Prelude.{min, not, Option, Some, None}
use Rattle.std.specs.List.{count_by, range_with_len}
use Rattle.std.specs.Option.{option_map}
use Rattle.std.proofs.lemmas.List.Sums.{sum_by-cons}
use Rattle.guest_model.specs.Calls.{Deed, Answers, Takes, Sends, Tells, call_number, call_numbered, deed_of, row_of, storable, used_ranges}
use Rattle.guest_model.specs.declared.system_call.SystemCall.{SystemCall}
use Rattle.guest_model.specs.declared.system_call.SystemCall.TheVariants.{Read, Write, Readv, Writev, ClockGettime64}
use Rattle.guest_model.proofs.Stored.{stored_is_small}
use Rattle.guest_model.proofs.Used.{few_used, small_used}
use Rattle.guest_model.specs.Effect.{Effect, Next, Call, Fault, effect_of, stored_by}
use Rattle.guest_model.specs.Machine.{Machine}
use Rattle.guest_model.specs.Range.{Range, range, is_page_of, is_page_among, total_size}
use Rattle.guest_model.specs.Written.{storable_by, written_by, written_with}
use Rattle.guest_mem.specs.Frames.{Frames, frames_for, frames_for_all}
use Rattle.guest_mem.proofs.Taken.{few_frames_of}

-- 1 where it holds
abbrev pub one_if : Bool → ℕ
one_if b = cond {A = ℕ} b 1 0

pub one_more : (p : ℕ → Bool) (x : ℕ) (xs : List ℕ) → count_by p (x ∷ xs) ≡ one_if (p x) + count_by p xs
one_more p x xs = sum_by-cons (λ k. one_if (p k)) x xs

no_more_than_both : (a b framed : Bool) → one_if ((a || b) && not framed) ≤ one_if (a && not framed) + one_if (b && not framed)
no_more_than_both true true true = omega arith
no_more_than_both true true false = omega arith
no_more_than_both true false true = omega arith
no_more_than_both true false false = omega arith
no_more_than_both false b framed = grind arith

count_both : (p q r : ℕ → Bool) (xs : List ℕ) → ((k : ℕ) → one_if (p k) ≤ one_if (q k) + one_if (r k)) → count_by p xs ≤ count_by q xs + count_by r xs
count_both p q r [] each = omega arith
count_both p q r (x ∷ xs) each = omega (arith, one_more p x xs, one_more q x xs, one_more r x xs, each x, count_both p q r xs each)

none_of : (framed : List Bool) (xs : List ℕ) → count_by (λ page. is_page_among [] page && not (get_or framed page false)) xs ≡ 0
unfolding is_page_among
none_of framed [] = refl
none_of framed (x ∷ xs) = omega (arith, one_more (λ page. is_page_among [] page && not (get_or framed page false)) x xs, none_of framed xs)

pub no_range : (framed : List Bool) → frames_for_all framed [] ≡ 0
unfolding frames_for_all
no_range framed = none_of framed (range_with_len 0 (length framed))

pub one_range_more : (framed : List Bool) (r : Range) (rs : List Range) → frames_for_all framed (r ∷ rs) ≤ frames_for framed r.at r.size + frames_for_all framed rs
unfolding frames_for_all frames_for is_page_among
one_range_more framed r rs =
    count_both (λ page. is_page_among (r ∷ rs) page && not (get_or framed page false)) (λ page. is_page_of r.at r.size page && not (get_or framed page false)) (λ page. is_page_among rs page && not (get_or framed page false)) (range_with_len 0 (length framed))
    (λ page. no_more_than_both (is_page_of r.at r.size page) (is_page_among rs page) (get_or framed page false))

in_pages : (frames n : ℕ) → frames ≤ (n + 8190) / 4096 → 4096 * frames ≤ n + 8190
in_pages frames n few = omega arith

-- each range of n bytes lies in at most (n + 8190) / 4096 pages
pub few_for_all : (framed : List Bool) (rs : List Range) → 4096 * frames_for_all framed rs ≤ total_size rs + 8190 * length rs
few_for_all framed [] = omega (arith, no_range framed)
few_for_all framed (r ∷ rs) =
    omega (arith, one_range_more framed r rs, in_pages (frames_for framed r.at r.size) r.size (few_frames_of framed r.at r.size), few_for_all framed rs, sum_by-cons (λ (q : Range). q.size) r rs)

few_for_one : (framed : List Bool) (r : Range) → r.size ≤ 65536 → frames_for_all framed (r ∷ []) ≤ 31
few_for_one framed r few = omega (arith, few_for_all framed (r ∷ []), sum_by-cons (λ (q : Range). q.size) r [])

-- as many frames suffice for what a deed may store
record IsFew (framed : List Bool) (deed : Deed) : Type 0 where
  few : frames_for_all framed (storable deed) ≤ 31

few_if : (framed : List Bool) (b : Bool) (d e : Deed) → IsFew framed d → IsFew framed e → IsFew framed (cond b d e)
few_if framed true d e h k = h
few_if framed false d e h k = k

few_for_used : (framed : List Bool) (rs : List Range) → frames_for_all framed (used_ranges rs) ≤ 31
few_for_used framed rs = omega (arith, few_for_all framed (used_ranges rs), few_used rs, small_used rs)

none_for : (framed : List Bool) → frames_for_all framed [] ≤ 31
none_for framed = omega (arith, no_range framed)

-- a call that only answers, or sends, stores nothing
stores_none : (framed : List Bool) (d : Deed) → storable d ≡ [] → IsFew framed d
stores_none framed d none = record { few = omega (arith, ap (frames_for_all framed) none, no_range framed) }

few_answer : (framed : List Bool) (answer : ℕ) → IsFew framed (Answers answer)
few_answer framed answer = stores_none framed (Answers answer) refl

few_sent : (framed : List Bool) (port : ℕ) (bytes : List ℕ) (answer : ℕ) → IsFew framed (Sends port bytes answer)
few_sent framed port bytes answer = stores_none framed (Sends port bytes answer) refl

few_taken : (framed : List Bool) (a n : ℕ) → IsFew framed (Takes (range a (min n 65536) ∷ []))
few_taken framed a n = record { few = few_for_one framed (range a (min n 65536)) (omega arith) }

few_all_taken : (framed : List Bool) (rs : List Range) → IsFew framed (Takes (used_ranges rs))
few_all_taken framed rs = record { few = few_for_used framed rs }

few_told : (framed : List Bool) (a : ℕ) → IsFew framed (Tells a)
few_told framed a = record { few = few_for_one framed (range a 16) (omega arith) }

few_by_row : (framed : List Bool) (m : Machine) (call : SystemCall) → IsFew framed (row_of call m)
few_by_row framed m Read = search (few_if, few_answer, few_taken) depth 9
few_by_row framed m Readv = search (few_if, few_answer, few_all_taken) depth 9
few_by_row framed m Write = search (few_if, few_answer, few_sent) depth 9
few_by_row framed m Writev = search (few_if, few_answer, few_sent) depth 12
few_by_row framed m ClockGettime64 = search (few_if, few_answer, few_told) depth 9
few_by_row framed m _ = stores_none framed _ refl

few_for_call : (framed : List Bool) (m : Machine) (call : Option SystemCall) → frames_for_all framed (storable_by (option_map (λ c. row_of c m) call)) ≤ 31
few_for_call framed m None = none_for framed
few_for_call framed m (Some call) = (few_by_row framed m call).few

few_for_instruction : (f : Frames) (m next : Machine) (stored : List Range) → effect_of m ≡ Next next stored → frames_for_all f.framed stored ≤ 2
few_for_instruction f m next stored is =
    elim (stored_is_small m next stored is) [
      | inl none ↦ omega (arith, ap (frames_for_all f.framed) none, no_range f.framed)
      | inr some ↦ omega (arith, ap (frames_for_all f.framed) some.2, few_for_all f.framed (some.0 ∷ []), sum_by-cons (λ (q : Range). q.size) some.0 [], some.1)
    ]

pub few_for_effect : (f : Frames) (m : Machine) (effect : Effect) → effect_of m ≡ effect → frames_for_all f.framed (stored_by effect) ≤ 2
few_for_effect f m (Next next stored) is = few_for_instruction f m next stored is
few_for_effect f m Call is = omega (arith, no_range f.framed)
few_for_effect f m (Fault kind) is = omega (arith, no_range f.framed)

few_by : (f : Frames) (m : Machine) (effect : Effect) → effect_of m ≡ effect → frames_for_all f.framed (written_with m effect) ≤ 31
unfolding deed_of
few_by f m (Next next stored) is = omega (arith, few_for_instruction f m next stored is)
few_by f m Call is = few_for_call f.framed m (call_numbered (call_number m))
few_by f m (Fault kind) is = none_for f.framed

pub few_for_step : (f : Frames) (m : Machine) → frames_for_all f.framed (written_by m) ≤ 31
unfolding written_by
few_for_step f m = few_by f m (effect_of m) refl
