-- Bytes that are dealt to writes in order.
use Rattle.std.proofs.Common.{◌≡◌, ℕ, suc, ◌+◌, ◌<◌, ◌≤◌, ◌==◌, ◌⊎◌, inl, inr, true, List, [], ◌∷◌, ◌++◌, length, map, take, drop, get_or, refl, sym, ap, ◌∙◌, arith, append_assoc, length-drop}
use Rattle.std.specs.Prelude.{not}
use Rattle.std.specs.List.{list_all}
use Rattle.std.proofs.Math.ListN.{set, length-set}
use Rattle.std.proofs.Math.Seq.{drop-cons, take-suc-set}
use Rattle.std.proofs.lemmas.Bool.{cases_lt, and_parts}
use Rattle.std.proofs.lemmas.Bool.Decides.{nat_tests}
use Rattle.std.proofs.lemmas.List.{append-nil, take_all, drop_all, drop-drop, length-take, drop-set-lt}
use Rattle.call_record.specs.Record.{Stored}
use Rattle.guest_model.specs.Call.{filled, stored_at}
use Rattle.guest_model.specs.Range.{Range}
use Rattle.syscall_layer.specs.Serve.{range_of}

stored_one : (a : ℕ) (xs : List ℕ) → 0 < length xs → stored_at a xs ≡ record { at = a; bytes = xs } ∷ []
stored_one a [] some = absurd (omega arith)
stored_one a (x ∷ xs) some = refl

pub none_filled : (ps : List Range) → filled ps [] ≡ []
none_filled [] = refl
none_filled (p ∷ ps) =
    ap (λ (xs : List ℕ). stored_at p.at xs ++ filled ps (drop p.size [])) (take_all p.size [] (omega arith)) ∙ (ap (filled ps) (drop_all p.size [] (omega arith)) ∙ none_filled ps)

dropped : (bytes : List ℕ) (room done n : ℕ) → n ≡ length (take room (drop done bytes)) → drop room (drop done bytes) ≡ drop (done + n) bytes
dropped bytes room done n count =
    drop-drop room done bytes
    ∙ elim (cases_lt room (length (drop done bytes))) [
      | inl few ↦ let same : done + room ≡ done + n = omega (arith, length-take room (drop done bytes)) in ap (λ (k : ℕ). drop k bytes) same
      | inr all ↦ drop_all (done + room) bytes (omega (arith, length-drop done bytes)) ∙ sym (drop_all (done + n) bytes (omega (arith, length-take room (drop done bytes), length-drop done bytes)))
    ]

-- the bytes that are left go to the next write, and then to the others
next_filled : (o : Stored) (os : List Stored) (bytes : List ℕ) (done n : ℕ) → 0 < length o.bytes → done < length bytes → n ≡ length (take (length o.bytes) (drop done bytes))
    → filled (map range_of (o ∷ os)) (drop done bytes) ≡ record { at = o.at; bytes = take (length o.bytes) (drop done bytes) } ∷ filled (map range_of os) (drop (done + n) bytes)
next_filled o os bytes done n room left count =
    let some : 0 < length (take (length o.bytes) (drop done bytes)) = omega (arith, length-take (length o.bytes) (drop done bytes), length-drop done bytes) in
    ap (λ (xs : List Stored). xs ++ filled (map range_of os) (drop (length o.bytes) (drop done bytes))) (stored_one o.at (take (length o.bytes) (drop done bytes)) some)
    ∙ ap (λ (xs : List ℕ). record { at = o.at; bytes = take (length o.bytes) (drop done bytes) } ∷ filled (map range_of os) xs) (dropped bytes (length o.bytes) done n count)

-- The first writes have the first bytes, and the others their room.
pub record IsDealt (all now : List Stored) (bytes : List ℕ) (used done : ℕ) : Type 0 where
  pub within : used ≤ length all
  pub taken : done ≤ length bytes
  pub size : length now ≡ length all
  pub rest : drop used now ≡ drop used all
  pub room : list_all (λ s. not (length s.bytes == 0)) (drop used all) ≡ true
  pub so_far : take used now ++ filled (map range_of (drop used all)) (drop done bytes) ≡ filled (map range_of all) bytes

pub deals_next : (all now : List Stored) (bytes : List ℕ) (used done n : ℕ) (w next : Stored) → IsDealt all now bytes used done → used < length now → done < length bytes → w ≡ get_or now used w
    → next ≡ record { at = w.at; bytes = take (length w.bytes) (drop done bytes) } → n ≡ length (take (length w.bytes) (drop done bytes)) → IsDealt all (set now used next) bytes (used + 1) (done + n)
deals_next all now bytes used done n w next before more left is dealt count =
    let here : drop used all ≡ w ∷ drop (suc used) now = sym before.rest ∙ (drop-cons now used w more ∙ ap (λ (o : Stored). o ∷ drop (suc used) now) (sym is)) in
    let one : suc used ≡ used + 1 = omega arith in
    let others : drop (used + 1) now ≡ drop (used + 1) all = sym (drop-drop 1 used now) ∙ (ap (λ (xs : List Stored). drop 1 xs) before.rest ∙ drop-drop 1 used all) in
    let split : drop used all ≡ w ∷ drop (used + 1) all = here ∙ ap (λ (xs : List Stored). w ∷ xs) (ap (λ (k : ℕ). drop k now) one ∙ others) in
    let parts = and_parts (not (length w.bytes == 0)) (list_all (λ s. not (length s.bytes == 0)) (drop (used + 1) all)) (ap (λ (xs : List Stored). list_all (λ s. not (length s.bytes == 0)) xs) (sym split) ∙ before.room) in
    let room : 0 < length w.bytes = (let first = parts.0 in grind (arith, nat_tests)) in
    record {
      within = omega (arith, before.size);
      taken = omega (arith, length-take (length w.bytes) (drop done bytes), length-drop done bytes);
      size = length-set now used next ∙ before.size;
      rest = drop-set-lt (used + 1) now used next (omega arith) ∙ others;
      room = parts.1;
      so_far =
          ap (λ (xs : List Stored). xs ++ filled (map range_of (drop (used + 1) all)) (drop (done + n) bytes)) (ap (λ (k : ℕ). take k (set now used next)) (sym one) ∙ take-suc-set now used next more)
          ∙ (append_assoc (take used now) (next ∷ []) (filled (map range_of (drop (used + 1) all)) (drop (done + n) bytes))
          ∙ (ap (λ (o : Stored). take used now ++ (o ∷ filled (map range_of (drop (used + 1) all)) (drop (done + n) bytes))) dealt
          ∙ (ap (λ (xs : List Stored). take used now ++ xs) (sym (next_filled w (drop (used + 1) all) bytes done n room left count))
          ∙ (ap (λ (xs : List Stored). take used now ++ filled (map range_of xs) (drop done bytes)) (sym split) ∙ before.so_far))));
    }

-- no write or no byte is left
pub all_dealt : (all now : List Stored) (bytes : List ℕ) (used done : ℕ) → IsDealt all now bytes used done → (length now ≤ used) ⊎ (length bytes ≤ done) → take used now ≡ filled (map range_of all) bytes
all_dealt all now bytes used done dealt (inl end) =
    sym (append-nil (take used now)) ∙ (ap (λ (xs : List Stored). take used now ++ filled (map range_of xs) (drop done bytes)) (sym (drop_all used all (omega (arith, dealt.size)))) ∙ dealt.so_far)
all_dealt all now bytes used done dealt (inr end) =
    sym (append-nil (take used now))
    ∙ (ap (λ (xs : List Stored). take used now ++ xs) (sym (ap (filled (map range_of (drop used all))) (drop_all done bytes end) ∙ none_filled (map range_of (drop used all)))) ∙ dealt.so_far)
