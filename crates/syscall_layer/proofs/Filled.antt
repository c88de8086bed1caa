-- A buffer that is filled from the input range by range.
use Rattle.std.proofs.Common.{◌≡◌, ℕ, ◌≤◌, ◌+◌, List, [], ◌++◌, length, take, drop, arith, refl, ap, sym, ◌∙◌, length-drop}
use Rattle.std.specs.Prelude.{Option, None, Some}
use Rattle.std.proofs.lemmas.List.{length-take-le, take-append-le, take_all, drop_all}
use Rattle.std.proofs.Math.Seq.{take-add, take-append-add}
use borrow.Rule.Slice.PartMut.{put_mid, post_of}
use Rattle.sp_host.specs.Told.{Told, Gives, dropped, input_taken, WhereTold}
use Rattle.syscall_layer.specs.Input.{Fills}

-- n bytes of the input stand at the front of a buffer
pub record IsTaken (left : List ℕ) (n : ℕ) (buffer : List ℕ) : Type 0 where
  pub within : n ≤ length left
  pub bytes : take n buffer ≡ take n left

-- after a read into the part of the buffer behind the first n
pub next_taken : (left old part : List ℕ) (n k more : ℕ) → n ≤ length old → more ≤ length part → IsTaken left n old → Gives (drop n left) more part → IsTaken left (n + more) (put_mid n k old part)
next_taken left old part n k more here fits before gives =
    let rest = part ++ post_of n k old in
    let long : length (take n old) ≡ n = length-take-le n old here in
    record {
      within = omega (arith, gives.within, before.within, length-drop n left);
      bytes =
          ap (λ (i : ℕ). take (i + more) (take n old ++ rest)) (sym long)
          ∙ (take-append-add (take n old) rest more
          ∙ (ap (λ (xs : List ℕ). take n old ++ xs) (take-append-le more part (post_of n k old) fits ∙ gives.first)
          ∙ (ap (λ (xs : List ℕ). xs ++ take more (drop n left)) before.bytes ∙ sym (take-add n more left))));
    }

-- the whole buffer, or all of the input
pub all_taken : (left buffer : List ℕ) (n : ℕ) → n ≤ length buffer → length left ≤ n → IsTaken left n buffer → Fills left n buffer
all_taken left buffer n fits end taken =
    let all : take (length buffer) left ≡ left = take_all (length buffer) left (omega (arith, fits, end)) in
    let same : n ≡ length left = omega (arith, taken.within, end) in
    record {
      bytes = taken.bytes ∙ (take_all n left end ∙ sym all);
      count = same ∙ ap (λ (xs : List ℕ). length xs) (sym all);
    }

dropped_same : (o : Option (List ℕ)) (m n : ℕ) → WhereTold o (λ left. drop m left ≡ drop n left) → dropped o m ≡ dropped o n
dropped_same None m n same = refl
dropped_same (Some left) m n same = ap (λ (xs : List ℕ). Some xs) (same left refl)

-- all of the input is taken
pub taken_same : (t : Told) (m n : ℕ) → WhereTold t.input (λ left. drop m left ≡ drop n left) → input_taken m t ≡ input_taken n t
taken_same t m n same = ap (λ (o : Option (List ℕ)). record t { input = o }) (dropped_same t.input m n same)

-- what is left after n bytes of the input were taken
pub left_after : (t now : Told) (left : List ℕ) (n : ℕ) → now ≡ input_taken n t → t.input ≡ Some left → now.input ≡ Some (drop n left)
left_after t now left n is told = ap (λ (k : Told). k.input) is ∙ ap (λ (o : Option (List ℕ)). dropped o n) told

-- no more is left
pub no_more : (left : List ℕ) (n : ℕ) → drop n left ≡ [] → length left ≤ n
no_more left n none = omega (arith, length-drop n left, ap (λ (xs : List ℕ). length xs) none)

pub at_end : (left : List ℕ) (m n : ℕ) → drop m left ≡ [] → m ≤ n → drop m left ≡ drop n left
at_end left m n none below = none ∙ sym (drop_all n left (omega (arith, no_more left m none, below)))
