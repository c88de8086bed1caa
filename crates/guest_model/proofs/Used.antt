-- The ranges that readv uses are few.
use Rattle.std.proofs.Common.{◌≡◌, ℕ, ◌-◌, ◌≤◌, List, [], ◌∷◌, length, refl, arith}
use Rattle.std.specs.Prelude.{min, filter, take, not, ◌==◌}
use Rattle.std.proofs.lemmas.List.{length-take}
use Rattle.std.proofs.lemmas.List.Sums.{sum_by-cons}
use Rattle.guest_model.specs.Calls.{cut_to, used_ranges}
use Rattle.guest_model.specs.Range.{Range, total_size}

pub cut_length : (room : ℕ) (rs : List Range) → length (cut_to room rs) ≡ length rs
cut_length room [] = refl
cut_length room (r ∷ rs) = omega (arith, cut_length (room - min r.size room) rs)

pub cut_size : (room : ℕ) (rs : List Range) → total_size (cut_to room rs) ≤ room
cut_size room [] = omega arith
cut_size room (r ∷ rs) =
    omega (arith, sum_by-cons (λ (q : Range). q.size) (record r { size = min r.size room }) (cut_to (room - min r.size room) rs), cut_size (room - min r.size room) rs)

pub few_used : (rs : List Range) → length (used_ranges rs) ≤ 8
unfolding used_ranges
few_used rs =
    let some = filter (λ (r : Range). not (r.size == 0)) rs in
    omega (arith, cut_length 65536 (take 8 some), length-take 8 some)

pub small_used : (rs : List Range) → total_size (used_ranges rs) ≤ 65536
unfolding used_ranges
small_used rs = cut_size 65536 (take 8 (filter (λ (r : Range). not (r.size == 0)) rs))
