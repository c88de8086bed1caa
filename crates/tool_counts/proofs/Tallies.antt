-- What tallies hold.
use Rattle.std.proofs.Common.{◌≡◌, ℕ, ◌+◌, ◌%◌, ◌<◌, ◌≤◌, ◌==◌, Bool, true, false, cond, List, [], ◌∷◌, ◌++◌, length, fold, Option, Some, None, unwrap_or, slice_index, ◌^◌, refl, sym, ap, ◌∙◌, arith, nat_eq, nat_cmp, rules}
use Rattle.std.specs.Prelude.{if◌then◌else◌}
use Rattle.std.specs.Cmp.{nat_cmp_total}
use Rattle.std.specs.Ordering.{eq_by_cmp}
use Rattle.std.specs.FinMap as table
use Rattle.std.specs.FinMap.{find, put, nat_cmp-IsAntisymmetric}
use Rattle.std.specs.Map.{lookup}
use Rattle.std.specs.BTreeMap.{insert_entry, is_at}
use Rattle.std.proofs.lemmas.Bool.Decides.{nat_tests}
use Rattle.std.specs.Map.{keys_of}
use Rattle.std.specs.List.{IsDistinct}
use Rattle.std.proofs.lemmas.Cmp.{nat_eq_equiv}
use Rattle.std.proofs.lemmas.Map.{lookup-none}
use Rattle.std.proofs.lemmas.List.{nil_from_length}
use Rattle.std.proofs.lemmas.Map.Entries.{none_past_head}
use Rattle.insert_points.specs.declared.call.Event.{Event}
use Rattle.tool_counts.specs.Profile.{Counts, count_of, add, note, tally, both}

pub find-lookup : (q : ℕ) (es : List (ℕ × ℕ)) → lookup (is_at (nat_cmp q)) es ≡ find nat_cmp q es
find-lookup q [] = refl
find-lookup q (e ∷ es) = ap (cond (eq_by_cmp nat_cmp q e.0) (Some e.1)) (find-lookup q es)

pub put-insert_entry : (k v : ℕ) (es : List (ℕ × ℕ)) → insert_entry nat_cmp es k v ≡ put nat_cmp k v es
put-insert_entry k v [] = refl
put-insert_entry k v (e ∷ es) = let ih = put-insert_entry k v es in search (rules, ih)

-- what the two tests of keys say is the same
pub nat_eq-cmp : (a b : ℕ) → nat_eq a b ≡ eq_by_cmp nat_cmp b a
nat_eq-cmp a b = grind (arith, nat_tests)

pub same_key : (a b : ℕ) → eq_by_cmp nat_cmp b a ≡ true → a ≡ b
same_key a b = grind (arith, nat_tests)

pub both_assoc : (a b c : Option ℕ) → both (both a b) c ≡ both a (both b c)
both_assoc None b c = refl
both_assoc (Some a) None c = ap Some (omega arith)
both_assoc (Some a) (Some b) c = ap Some (omega arith)

both_none : (o : Option ℕ) → o ≡ both o None
both_none None = refl
both_none (Some a) = ap Some (omega arith)

both_some : (o : Option ℕ) (n : ℕ) → Some (unwrap_or o 0 + n) ≡ both o (Some n)
both_some None n = ap Some (omega arith)
both_some (Some a) n = refl

pub get-add : (t : Counts) (h n q : ℕ) → table.get (add t h n) q ≡ both (table.get t q) (cond (eq_by_cmp nat_cmp q h) (Some n) None)
get-add t h n q = table.get-insert nat_cmp_total t h (count_of t h + n) q ∙ by (eq_by_cmp nat_cmp q h) refl
  where
    by : (b : Bool) → eq_by_cmp nat_cmp q h ≡ b → cond b (Some (count_of t h + n)) (table.get t q) ≡ both (table.get t q) (cond b (Some n) None)
    by true e = ap (λ x. Some (count_of t x + n)) (same_key h q e) ∙ both_some (table.get t q) n
    by false e = both_none (table.get t q)

-- what one event adds
pub one : Event → ℕ → Option ℕ
one e q = if e.number == 0 then cond (eq_by_cmp nat_cmp q (slice_index e.args 0)) (Some 1) None else None

pub get-note : (t : Counts) (e : Event) (q : ℕ) → table.get (note t e) q ≡ both (table.get t q) (one e q)
unfolding one
get-note t e q = by (e.number == 0)
  where
    by : (b : Bool) → table.get (if b then add t (slice_index e.args 0) 1 else t) q ≡ both (table.get t q) (if b then cond (eq_by_cmp nat_cmp q (slice_index e.args 0)) (Some 1) None else None)
    by true = get-add t (slice_index e.args 0) 1 q
    by false = both_none (table.get t q)

get-note_first : (e : Event) (q : ℕ) → table.get (note table.empty e) q ≡ one e q
get-note_first e q = get-note table.empty e q ∙ ap (λ o. both o (one e q)) (table.get-empty nat_cmp q)

get-fold : (t : Counts) (ys : List Event) (q : ℕ) → table.get (fold note t ys) q ≡ both (table.get t q) (table.get (tally ys) q)
get-fold t [] q = both_none (table.get t q) ∙ ap (both (table.get t q)) (sym (table.get-empty nat_cmp q))
get-fold t (e ∷ ys) q =
    let rest = table.get (tally ys) q in
    let first = get-fold (note table.empty e) ys q ∙ ap (λ o. both o rest) (get-note_first e q) in
    get-fold (note t e) ys q ∙ ap (λ o. both o rest) (get-note t e q) ∙ both_assoc (table.get t q) (one e q) rest ∙ ap (both (table.get t q)) (sym first)

fold-append : (t : Counts) (xs ys : List Event) → fold note t (xs ++ ys) ≡ fold note (fold note t xs) ys
fold-append t [] ys = refl
fold-append t (x ∷ xs) ys = fold-append (note t x) xs ys

-- a tally of joined lists adds up
pub get-tally-append : (xs ys : List Event) (q : ℕ) → table.get (tally (xs ++ ys)) q ≡ both (table.get (tally xs) q) (table.get (tally ys) q)
get-tally-append xs ys q = ap (λ t. table.get t q) (fold-append table.empty xs ys) ∙ get-fold (tally xs) ys q

pub unwrap-both : (a b : Option ℕ) → unwrap_or (both a b) 0 ≡ unwrap_or a 0 + unwrap_or b 0
unwrap-both None b = omega arith
unwrap-both (Some a) b = refl

one-le : (e : Event) (q : ℕ) → unwrap_or (one e q) 0 ≤ 1
unfolding one
one-le e q = by (e.number == 0) (eq_by_cmp nat_cmp q (slice_index e.args 0))
  where
    by : (b c : Bool) → unwrap_or (if b then cond c (Some 1) None else None) 0 ≤ 1
    by true true = omega arith
    by true false = omega arith
    by false c = omega arith

count_of-fold-le : (t : Counts) (xs : List Event) (q : ℕ) → count_of (fold note t xs) q ≤ count_of t q + length xs
count_of-fold-le t [] q = omega arith
count_of-fold-le t (e ∷ xs) q =
    let step = ap (λ o. unwrap_or o 0) (get-note t e q) ∙ unwrap-both (table.get t q) (one e q) in
    omega (arith, count_of-fold-le (note t e) xs q, step, one-le e q)

-- no count is above the number of events
pub count_of-tally-le : (xs : List Event) (q : ℕ) → count_of (tally xs) q ≤ length xs
count_of-tally-le xs q = omega (arith, count_of-fold-le table.empty xs q, ap (λ o. unwrap_or o 0) (table.get-empty {X = ℕ} nat_cmp q))

-- what a map that has a table's entries reads and becomes
pub count_read : (t : Counts) (es : List (ℕ × ℕ)) (h : ℕ) → es ≡ table.entries t → unwrap_or (lookup (is_at (nat_cmp h)) es) 0 ≡ count_of t h
count_read t es h e = ap (λ o. unwrap_or o 0) (find-lookup h es ∙ ap (find nat_cmp h) e ∙ sym (table.get-entries t h))

pub entries_written : (t : Counts) (es : List (ℕ × ℕ)) (h v : ℕ) → es ≡ table.entries t → insert_entry nat_cmp es h v ≡ table.entries (table.insert t h v)
entries_written t es h v e = put-insert_entry h v es ∙ ap (put nat_cmp h v) e ∙ sym (table.entries-insert nat_cmp_total t h v)

-- n is added at a head, where the sum fits
pub entries_added : (t : Counts) (es : List (ℕ × ℕ)) (h n count : ℕ) → es ≡ table.entries t → count ≡ count_of t h → count_of t h + n < 2 ^ 64
    → insert_entry nat_cmp es h ((count + n) % 2 ^ 64) ≡ table.entries (add t h n)
entries_added t es h n count same e fits =
    let small : (count + n) % 2 ^ 64 ≡ count_of t h + n = omega arith in
    ap (insert_entry nat_cmp es h) small ∙ entries_written t es h (count_of t h + n) same

nat_eq-cmp_same : (a b : ℕ) → nat_eq a b ≡ eq_by_cmp nat_cmp a b
nat_eq-cmp_same a b = grind (arith, nat_tests)

pub IsDistinct-tail : (e : ℕ × ℕ) (es : List (ℕ × ℕ)) → IsDistinct nat_eq (keys_of (e ∷ es)) → IsDistinct nat_eq (keys_of es)
unfolding IsDistinct
IsDistinct-tail e es h = h.1

-- u is a table with these entries, and what is left to add takes it from t to t and all
pub record IsAdding (t u : Counts) (all entries rest : List (ℕ × ℕ)) : Type 0 where
  pub shown : entries ≡ table.entries u
  pub left : (q : ℕ) → both (table.get u q) (lookup (nat_eq q) rest) ≡ both (table.get t q) (lookup (nat_eq q) all)

-- one entry, added, is no longer left to add
pub both-entry : (u : Counts) (k v : ℕ) (rest : List (ℕ × ℕ)) (q : ℕ) → IsDistinct nat_eq (keys_of ((k, v) ∷ rest))
    → both (table.get (add u k v) q) (lookup (nat_eq q) rest) ≡ both (table.get u q) (lookup (nat_eq q) ((k, v) ∷ rest))
both-entry u k v rest q distinct =
    ap (λ o. both o (lookup (nat_eq q) rest)) (get-add u k v q) ∙ both_assoc (table.get u q) _ _ ∙ ap (both (table.get u q)) (
    ap (λ b. both (cond b (Some v) None) (lookup (nat_eq q) rest)) (sym (nat_eq-cmp_same q k)) ∙ by (nat_eq q k) refl)
  where
    by : (b : Bool) → nat_eq q k ≡ b → both (cond b (Some v) None) (lookup (nat_eq q) rest) ≡ cond b (Some v) (lookup (nat_eq q) rest)
    by true e = ap (both (Some v)) (lookup-none (nat_eq q) rest (none_past_head nat_eq_equiv q (k, v) rest distinct e)) ∙ sym (both_none (Some v))
    by false e = refl

pub adding_first : (t : Counts) (all entries : List (ℕ × ℕ)) → entries ≡ table.entries t → IsAdding t t all entries all
adding_first t all entries e = record { shown = e; left = λ q. refl }

pub adding_step : (t u : Counts) (all old new : List (ℕ × ℕ)) (k v : ℕ) (rest : List (ℕ × ℕ)) → IsDistinct nat_eq (keys_of ((k, v) ∷ rest))
    → new ≡ table.entries (add u k v) → IsAdding t u all old ((k, v) ∷ rest) → IsAdding t (add u k v) all new rest
adding_step t u all old new k v rest distinct e h = record { shown = e; left = λ q. both-entry u k v rest q distinct ∙ h.left q }

pub adding_last : (t u : Counts) (all entries : List (ℕ × ℕ)) → IsAdding t u all entries [] → (q : ℕ) → table.get u q ≡ both (table.get t q) (lookup (nat_eq q) all)
adding_last t u all entries h q = both_none (table.get u q) ∙ h.left q

-- the count that comes next fits
pub adding_fits : (t u : Counts) (all entries : List (ℕ × ℕ)) (k v : ℕ) (rest : List (ℕ × ℕ)) (top : ℕ)
    → ((q : ℕ) → unwrap_or (both (table.get t q) (lookup (nat_eq q) all)) 0 < top) → IsAdding t u all entries ((k, v) ∷ rest) → count_of u k + v < top
adding_fits t u all entries k v rest top fits h =
    let here : lookup (nat_eq k) ((k, v) ∷ rest) ≡ Some v = ap (λ b. cond b (Some v) (lookup (nat_eq k) rest)) (nat_eq_equiv.refl k) in
    let all_there = unwrap-both (table.get u k) (Some v) in
    let total = ap (λ o. unwrap_or (both (table.get u k) o) 0) (sym here) ∙ ap (λ o. unwrap_or o 0) (h.left k) in
    omega (arith, fits k, all_there, total)

module _ (ys : List Event) (e : Event) where
  get-tally-snoc : (q : ℕ) → table.get (tally (ys ++ e ∷ [])) q ≡ table.get (note (tally ys) e) q
  get-tally-snoc q = ap (λ t. table.get t q) (fold-append table.empty ys (e ∷ []))

  -- an event of another call counts for nothing
  pub get-tally-passed : e.number == 0 ≡ false → (q : ℕ) → table.get (tally (ys ++ e ∷ [])) q ≡ table.get (tally ys) q
  get-tally-passed other q = get-tally-snoc q ∙ ap (λ b. table.get (if b then add (tally ys) (slice_index e.args 0) 1 else tally ys) q) other

  -- a map that agrees with the tally still does, once the event's head has one more
  pub get-tally-noted : (l l' : ℕ → Option ℕ) → e.number == 0 ≡ true → ((q : ℕ) → l q ≡ table.get (tally ys) q)
      → ((q : ℕ) → l' q ≡ (if nat_eq (slice_index e.args 0) q then Some (unwrap_or (l (slice_index e.args 0)) 0 + 1) else l q)) → (q : ℕ) → l' q ≡ table.get (tally (ys ++ e ∷ [])) q
  get-tally-noted l l' own same new q =
      let h = slice_index e.args 0 in
      let t = tally ys in
      let there = get-tally-snoc q ∙ ap (λ b. table.get (if b then add t h 1 else t) q) own ∙ table.get-insert nat_cmp_total t h (count_of t h + 1) q in
      new q ∙ ap (λ o. if nat_eq h q then Some (unwrap_or o 0 + 1) else l q) (same h) ∙ ap (λ o. if nat_eq h q then Some (count_of t h + 1) else o) (same q)
      ∙ ap (λ b. if b then Some (count_of t h + 1) else table.get t q) (nat_eq-cmp h q) ∙ sym there

-- a table that adds the one tally to the other is that of the joined lists
pub entries-tally-append : (xs ys : List Event) (l : ℕ → Option ℕ) (u : Counts) → ((q : ℕ) → l q ≡ table.get (tally ys) q)
    → ((q : ℕ) → table.get u q ≡ both (table.get (tally xs) q) (l q)) → table.entries u ≡ table.entries (tally (xs ++ ys))
entries-tally-append xs ys l u same sums =
    ap table.entries (table.same_map nat_cmp_total nat_cmp-IsAntisymmetric u (tally (xs ++ ys)) (λ q. sums q ∙ ap (both (table.get (tally xs) q)) (same q) ∙ sym (get-tally-append xs ys q)))

pub entries-empty : table.entries (table.empty {X = ℕ} {R = nat_cmp}) ≡ []
entries-empty = nil_from_length _ (sym (table.len-entries table.empty) ∙ table.len-empty nat_cmp ℕ)

pub get-none : (es : List (ℕ × ℕ)) (q : ℕ) → es ≡ [] → lookup (nat_eq q) es ≡ table.get (tally []) q
get-none es q e = ap (lookup (nat_eq q)) e ∙ sym (table.get-empty nat_cmp q)

pub both-fits : (xs ys : List Event) (l : Option ℕ) (q : ℕ) → length xs + length ys < 2 ^ 50 → l ≡ table.get (tally ys) q → unwrap_or (both (table.get (tally xs) q) l) 0 < 2 ^ 64
both-fits xs ys l q room same = omega (arith, unwrap-both (table.get (tally xs) q) l, ap (λ o. unwrap_or o 0) same, count_of-tally-le xs q, count_of-tally-le ys q)

pub one-fits : (ys : List Event) (l : Option ℕ) (q : ℕ) → length ys + 1 < 2 ^ 50 → l ≡ table.get (tally ys) q → unwrap_or l 0 + 1 < 2 ^ 64
one-fits ys l q room same = omega (arith, ap (λ o. unwrap_or o 0) same, count_of-tally-le ys q)
