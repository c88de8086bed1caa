-- What searches of the program header table find.
use Rattle.std.proofs.Common.{cond, refl, [], ◌∷◌, ◌≡◌, ◌≤◌, ◌<◌, ◌+◌, ℕ, List, length, get_or, true, false, take, ap, ◌∙◌, arith, zero-add}
use Rattle.std.specs.Prelude.{if◌then◌else◌, Some, None, sum_by, filter, Bool, find, slice_get}
use Rattle.std.specs.List.{enumerate_from, position_or_len}
use Rattle.std.proofs.lemmas.Bool.Decides.{nat_tests}
use Rattle.std.proofs.lemmas.List.FromFn.{get_or-enumerate_from, length-enumerate_from}
use Rattle.std.proofs.lemmas.List.Sums.{position_or_len_is, sum_by-append}
use Rattle.std.proofs.lemmas.List.Elements.{filter_more}
use Rattle.std.proofs.lemmas.List.Folds.{find_at}
use Rattle.std.proofs.lemmas.Option.{slice_get-get_or, slice_get_past}
use Rattle.elf_load.specs.declared.fields.ProgramHeader.{ProgramHeader}
use Rattle.elf_load.specs.Tests.{is_sharing, first_sharing, is_segment, page_count}

-- what stands for a header past the end of a list
abbrev pub no_header : ProgramHeader
no_header = record { kind = 0; offset = 0; address = 0; file_size = 0; memory_size = 0; flags = 0; alignment = 0 }

-- the index at which the search of a loop ends
sharing_at : (headers : List ProgramHeader) (k : ℕ) (d : ProgramHeader) → k ≤ length headers → ((j : ℕ) → j < k → is_sharing headers (j, get_or headers j d) ≡ false) → (k < length headers → is_sharing headers (k, get_or headers k d) ≡ true)
    → position_or_len (is_sharing headers) (enumerate_from 0 headers) ≡ k
sharing_at headers k d le before at =
    let len = length-enumerate_from 0 headers in
    let here : (j : ℕ) → j < length headers → get_or (enumerate_from 0 headers) j (0, d) ≡ (j, get_or headers j d) = λ j lt. get_or-enumerate_from 0 headers j (0, d) lt ∙ ap (λ (i : ℕ). (i, get_or headers j d)) (zero-add j) in
    position_or_len_is (is_sharing headers) (enumerate_from 0 headers) k (0, d) (omega arith)
    (λ j lt. ap (is_sharing headers) (here j (omega arith)) ∙ before j lt)
    (λ lt. ap (is_sharing headers) (here k (omega arith)) ∙ at (omega arith))

-- a search that ends at k has found it
pub sharing_found : (headers : List ProgramHeader) (k : ℕ) (d : ProgramHeader) → k < length headers → ((j : ℕ) (e : ProgramHeader) → j < k → is_sharing headers (j, get_or headers j e) ≡ false) → is_sharing headers (k, get_or headers k d) ≡ true → Some k ≡ first_sharing headers
unfolding first_sharing
sharing_found headers k d lt before at =
    let len = length-enumerate_from 0 headers in
    let is = sharing_at headers k d (omega arith) (λ j. before j d) (λ _. at) in
    grind (arith, nat_tests)

-- a search that ends behind the last header has found none
pub sharing_none : (headers : List ProgramHeader) (k : ℕ) (d : ProgramHeader) → k ≡ length headers → ((j : ℕ) (e : ProgramHeader) → j < k → is_sharing headers (j, get_or headers j e) ≡ false) → None ≡ first_sharing headers
unfolding first_sharing
sharing_none headers k d end before =
    let len = length-enumerate_from 0 headers in
    let is = sharing_at headers k d (omega arith) (λ j. before j d) (λ lt. absurd (omega arith)) in
    grind (arith, nat_tests)

pages_of_one : (header : ProgramHeader) → sum_by page_count (cond (is_segment header) (header ∷ []) []) ≡ (if is_segment header then page_count header else 0)
pages_of_one header = elim (is_segment header) as (λ b. sum_by page_count (cond b (header ∷ []) []) ≡ (if b then page_count header else 0)) [ true ↦ omega arith | false ↦ refl ]

-- one more header, and the pages of the segments so far
pub pages_more : (headers : List ProgramHeader) (i : ℕ) (d : ProgramHeader) → i < length headers → sum_by page_count (filter is_segment (take (i + 1) headers)) ≡ sum_by page_count (filter is_segment (take i headers)) + (if is_segment (get_or headers i d) then page_count (get_or headers i d) else 0)
pages_more headers i d lt =
    ap (sum_by page_count) (filter_more is_segment headers i d lt)
    ∙ (sum_by-append page_count (filter is_segment (take i headers)) (cond (is_segment (get_or headers i d)) (get_or headers i d ∷ []) [])
    ∙ ap (λ (n : ℕ). sum_by page_count (filter is_segment (take i headers)) + n) (pages_of_one (get_or headers i d)))

-- the first element that passes a test, and where none does
pub found_first : {X : Type 0} (p : X → Bool) (xs : List X) (k : ℕ) (d : X) → k < length xs → ((j : ℕ) → j < k → p (get_or xs j d) ≡ false) → p (get_or xs k d) ≡ true → find p xs ≡ Some (get_or xs k d)
found_first p xs k d lt before at =
    find_at p xs ∙ (ap (slice_get xs) (position_or_len_is p xs k d (omega arith) before (λ _. at)) ∙ slice_get-get_or xs k d lt)

pub found_none : {X : Type 0} (p : X → Bool) (xs : List X) (d : X) → ((j : ℕ) → j < length xs → p (get_or xs j d) ≡ false) → find p xs ≡ None
found_none p xs d before =
    find_at p xs ∙ (ap (slice_get xs) (position_or_len_is p xs (length xs) d (omega arith) before (λ lt. absurd (omega arith))) ∙ slice_get_past xs (length xs) (omega arith))
