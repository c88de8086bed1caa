-- Bytes that fill ranges: where they are stored, and what that needs.
use Rattle.std.proofs.Common.{◌≡◌, ℕ, ◌≤◌, ◌==◌, ◌&&◌, inl, inr, Bool, true, false, cond, List, [], ◌∷◌, ◌++◌, length, map, take, drop, refl, sym, ap, ◌∙◌, arith}
use Rattle.std.specs.Prelude.{not, filter, slice_index_or}
use Rattle.std.specs.List.{list_all, list_any, count_by, range_with_len}
use Rattle.std.proofs.lemmas.Bool.{and_from, and_parts, or_cases, or_left, or_right, false≢true}
use Rattle.std.proofs.lemmas.Bool.Decides.{nat_tests}
use Rattle.std.proofs.lemmas.List.{map-append, length-take, take-append-le, take_all}
use Rattle.std.proofs.lemmas.List.Folds.{list_all-append, list_all-map, list_any-append}
use Rattle.call_record.specs.Record.{Stored}
use Rattle.guest_model.specs.Call.{filled, stored_at}
use Rattle.guest_model.specs.Range.{Range, is_page_of, is_page_among}
use Rattle.guest_mem.specs.Frames.{Frames, HasAllFrames, frames_for_all}
use Rattle.guest_mem.proofs.Few.{one_if, one_more}
use Rattle.guest_mem.proofs.Taken.{page_of_part}
use Rattle.syscall_layer.specs.Serve.{range_of}
use Rattle.syscall_layer.proofs.Used.{has_bytes}

kept_case : (p : Range) (ps : List Range) (bytes : List ℕ) (b : Bool) → has_bytes p ≡ b → ((bs : List ℕ) → filled (filter has_bytes ps) bs ≡ filled ps bs) → filled (cond b (p ∷ filter has_bytes ps) (filter has_bytes ps)) bytes ≡ filled (p ∷ ps) bytes
kept_case p ps bytes true test rest = ap (λ (ws : List Stored). stored_at p.at (take p.size bytes) ++ ws) (rest (drop p.size bytes))
kept_case p ps bytes false test rest =
    let none : p.size ≡ 0 = grind (arith, nat_tests) in
    rest bytes ∙ sym (ap (λ (k : ℕ). stored_at p.at (take k bytes) ++ filled ps (drop k bytes)) none)

-- array_of of no byte get nothing
pub filled_kept : (ps : List Range) (bytes : List ℕ) → filled (filter has_bytes ps) bytes ≡ filled ps bytes
filled_kept [] bytes = refl
filled_kept (p ∷ ps) bytes = kept_case p ps bytes (has_bytes p) refl (λ bs. filled_kept ps bs)

kept_passes : (p : Range) (ps : List Range) (b : Bool) → has_bytes p ≡ b → list_all has_bytes (filter has_bytes ps) ≡ true → list_all has_bytes (cond b (p ∷ filter has_bytes ps) (filter has_bytes ps)) ≡ true
kept_passes p ps true test rest = and_from (has_bytes p) (list_all has_bytes (filter has_bytes ps)) test rest
kept_passes p ps false test rest = rest

all_kept : (ps : List Range) → list_all has_bytes (filter has_bytes ps) ≡ true
all_kept [] = refl
all_kept (p ∷ ps) = kept_passes p ps (has_bytes p) refl (all_kept ps)

-- writes of array_of that have bytes have some
pub all_have_bytes : (ws : List Stored) (ps : List Range) → map range_of ws ≡ filter has_bytes ps → list_all (λ s. not (length s.bytes == 0)) ws ≡ true
all_have_bytes ws ps is = sym (list_all-map has_bytes range_of ws) ∙ (ap (λ (qs : List Range). list_all has_bytes qs) is ∙ all_kept ps)

stored_all : (test : Stored → Bool) (a : ℕ) (xs : List ℕ) → test (record { at = a; bytes = xs }) ≡ true → list_all test (stored_at a xs) ≡ true
stored_all test a [] h = refl
stored_all test a (x ∷ xs) h = and_from (test (record { at = a; bytes = x ∷ xs })) true h refl

-- what holds of a range, and of its first bytes, holds of what fills it
pub filled_all : (test : ℕ → ℕ → Bool) → ((a n k : ℕ) → k ≤ n → test a n ≡ true → test a k ≡ true) → (ps : List Range) (bytes : List ℕ) → list_all (λ p. test p.at p.size) ps ≡ true → list_all (λ s. test s.at (length s.bytes)) (filled ps bytes) ≡ true
filled_all test less [] bytes h = refl
filled_all test less (p ∷ ps) bytes h =
    let parts = and_parts (test p.at p.size) (list_all (λ (q : Range). test q.at q.size) ps) h in
    list_all-append (λ (s : Stored). test s.at (length s.bytes)) (stored_at p.at (take p.size bytes)) (filled ps (drop p.size bytes))
    ∙ and_from _ _ (stored_all (λ (s : Stored). test s.at (length s.bytes)) p.at (take p.size bytes) (less p.at p.size (length (take p.size bytes)) (omega (arith, length-take p.size bytes)) parts.0)) (filled_all test less ps (drop p.size bytes) parts.1)

stored_page : (a : ℕ) (xs : List ℕ) (page : ℕ) → list_any (λ p. is_page_of p.at p.size page) (map range_of (stored_at a xs)) ≡ true → is_page_of a (length xs) page ≡ true
stored_page a [] page h = absurd (false≢true h)
stored_page a (x ∷ xs) page h = elim (or_cases (is_page_of a (length (x ∷ xs)) page) false h) [ inl e ↦ e | inr e ↦ absurd (false≢true e) ]

-- the pages of what fills array_of are among their pages
filled_any : (ps : List Range) (bytes : List ℕ) (page : ℕ) → list_any (λ p. is_page_of p.at p.size page) (map range_of (filled ps bytes)) ≡ true → list_any (λ p. is_page_of p.at p.size page) ps ≡ true
filled_any [] bytes page h = h
filled_any (p ∷ ps) bytes page h =
    let both = sym (ap (λ (qs : List Range). list_any (λ (q : Range). is_page_of q.at q.size page) qs) (map-append range_of (stored_at p.at (take p.size bytes)) (filled ps (drop p.size bytes)))
    ∙ list_any-append (λ (q : Range). is_page_of q.at q.size page) (map range_of (stored_at p.at (take p.size bytes))) (map range_of (filled ps (drop p.size bytes)))) ∙ h in
    elim (or_cases _ _ both) [
      | inl e ↦ or_left (is_page_of p.at p.size page) _ (page_of_part p.at (length (take p.size bytes)) p.size page (omega (arith, length-take p.size bytes)) (stored_page p.at (take p.size bytes) page e))
      | inr e ↦ or_right (is_page_of p.at p.size page) _ (filled_any ps (drop p.size bytes) page e)
    ]

page_filled : (rs : List Range) (bytes : List ℕ) (page : ℕ) → is_page_among (map range_of (filled rs bytes)) page ≡ true → is_page_among rs page ≡ true
unfolding is_page_among
page_filled rs bytes page h = filled_any rs bytes page h

one_if_le : (b c framed : Bool) → (b ≡ true → c ≡ true) → one_if (b && not framed) ≤ one_if (c && not framed)
one_if_le true c framed h = rw (h refl) (omega arith)
one_if_le false c framed h = omega arith

count_le : (p q : ℕ → Bool) (xs : List ℕ) → ((x : ℕ) → one_if (p x) ≤ one_if (q x)) → count_by p xs ≤ count_by q xs
count_le p q [] each = omega arith
count_le p q (x ∷ xs) each = omega (arith, one_more p x xs, one_more q x xs, each x, count_le p q xs each)

fewer_frames : (framed : List Bool) (rs : List Range) (bytes : List ℕ) → frames_for_all framed (map range_of (filled rs bytes)) ≤ frames_for_all framed rs
unfolding frames_for_all
fewer_frames framed rs bytes =
    count_le (λ page. is_page_among (map range_of (filled rs bytes)) page && not (slice_index_or framed page false)) (λ page. is_page_among rs page && not (slice_index_or framed page false)) (range_with_len 0 (length framed))
    (λ page. one_if_le (is_page_among (map range_of (filled rs bytes)) page) (is_page_among rs page) (slice_index_or framed page false) (page_filled rs bytes page))

-- where the ranges have their frames, what fills them has its frames
pub filled_has : (f : Frames) (rs : List Range) (bytes : List ℕ) → HasAllFrames f rs → HasAllFrames f (map range_of (filled rs bytes))
filled_has f rs bytes (inl all) = inl all
filled_has f rs bytes (inr few) = inr (omega (arith, few, fewer_frames f.framed rs bytes))

-- a buffer that is filled whole
pub filled_whole : (front items out : List ℕ) (len : ℕ) → out ≡ take len (front ++ drop (length front) items) → length front ≡ len → out ≡ front
filled_whole front items out len is size = is ∙ (take-append-le len front (drop (length front) items) (omega arith) ∙ take_all len front (omega arith))
