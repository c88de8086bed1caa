-- A slice lacks no frame, since its play writes no more pages than its job says.
use Rattle.std.proofs.Common.{◌≡◌, ℕ, ◌+◌, ◌-◌, ◌*◌, ◌^◌, ◌≤◌, ◌||◌, Bool, true, false, List, [], ◌∷◌, ◌++◌, length, get_or, map, refl, sym, ap, ◌∙◌, arith}
use Rattle.std.specs.Prelude.{Option, None, Some}
use Rattle.std.specs.List.{All, count_by, list_all, range_with_len}
use Rattle.std.proofs.lemmas.Bool.{and_from, and_parts, true≢false}
use Rattle.call_record.specs.Record.{CallRecord, Stored}
use Rattle.cow_pages.specs.Marks.{count_marked, unmarked}
use Rattle.cow_pages.proofs.Flat.{get_or-unmarked, length-unmarked}
use Rattle.guest_model.specs.Areas.{is_mapped, is_range_permitted}
use Rattle.guest_model.specs.Effect.{Effect, Next, Call, Fault, effect_of}
use Rattle.guest_model.specs.Machine.{Machine}
use Rattle.guest_model.specs.Play.{Script, Spot, entry_for, play_step, range_of, spot, written_at, written_by_entry, written_in_play, written_of}
use Rattle.guest_model.specs.Range.{Range, is_page_among, pages_among}
use Rattle.guest_model.specs.Runs.{Running, along}
use Rattle.guest_model.specs.Valid.{IsWhole}
use Rattle.guest_model.specs.declared.Access.TheVariants.{Write}
use Rattle.guest_model.specs.declared.Area.{Area}
use Rattle.guest_model.proofs.Runs.{along-add}
use Rattle.guest_mem.specs.Frames.{HasAllFrames, marked_for_all}
use Rattle.guest_mem.proofs.Peak.{count_marked-marked_for_all, counted_after_all, effect_mapped, peak_suffices, ranges_mapped}
use Rattle.guest_mem.proofs.Ranges.{marked_for_all-append}
use Rattle.call_playback.proofs.Records.{does_fit, writable_if}
use Rattle.boundary_verify.specs.Job.{FitsAt}
use Rattle.rv_machine.specs.Guest.{GuestState, memory_of}
use Rattle.slice_runner.specs.Turn.{KnowsFrames}

-- the pages that are marked, where none was before
or_none : (b c : Bool) → c ≡ false → (b || c) ≡ b
or_none true c h = refl
or_none false c h = h

count_same : (p q : ℕ → Bool) (xs : List ℕ) → ((k : ℕ) → p k ≡ q k) → count_by p xs ≡ count_by q xs
count_same p q xs h = ap (λ (f : ℕ → Bool). count_by f xs) (λ i k. h k i)

marked_pages : (rs : List Range) (size : ℕ) → count_marked (marked_for_all (unmarked size) rs) ≡ count_by (is_page_among rs) (range_with_len 0 size)
marked_pages rs size =
    counted_after_all (unmarked size) rs
    ∙ count_same (λ page. is_page_among rs page || get_or (unmarked size) page false) (is_page_among rs) (range_with_len 0 (length (unmarked size)))
    (λ page. or_none (is_page_among rs page) (get_or (unmarked size) page false) (get_or-unmarked size page))
    ∙ ap (λ (n : ℕ). count_by (is_page_among rs) (range_with_len 0 n)) (length-unmarked size)

pub pages_marked : (rs : List Range) (size : ℕ) → size ≡ 2 ^ 20 → count_marked (marked_for_all (unmarked size) rs) ≡ pages_among rs
unfolding pages_among
pages_marked rs size all = marked_pages rs size ∙ ap (λ (n : ℕ). count_by (is_page_among rs) (range_with_len 0 n)) all

-- the pages of the first steps are among those of more steps
pub pages_so_far : (rs qs : List Range) (size : ℕ) → count_marked (marked_for_all (unmarked size) rs) ≤ count_marked (marked_for_all (unmarked size) (rs ++ qs))
pages_so_far rs qs size =
    omega (arith, ap count_marked (marked_for_all-append (unmarked size) rs qs), count_marked-marked_for_all (marked_for_all (unmarked size) rs) qs)

pub written_split : (script : Script) (k s : ℕ) (start : Spot) → k ≤ s → (rest : List Range) × (written_of script s start ≡ written_of script k start ++ rest)
written_split script k s start le =
    let sum : s ≡ k + (s - k) = omega arith in
    (along (play_step script) (written_at script) (s - k) _, ap (λ (n : ℕ). written_of script n start) sum ∙ along-add (play_step script) (written_at script) k (s - k) (Running start))

-- where a record's bytes may be written they may be written range by range
writable_ranges : (areas : List Area) (stored : List Stored) → list_all (λ s. is_range_permitted Write areas s.at (length s.bytes)) stored ≡ true → list_all (λ r. is_range_permitted Write areas r.at r.size) (map range_of stored) ≡ true
writable_ranges areas [] may = refl
writable_ranges areas (s ∷ ss) may =
    let parts = and_parts (is_range_permitted Write areas s.at (length s.bytes)) _ may in
    and_from (is_range_permitted Write areas s.at (length s.bytes)) _ parts.0 (writable_ranges areas ss parts.1)

no_page_among : (page : ℕ) → is_page_among [] page ≡ false
unfolding is_page_among
no_page_among page = refl

none_written : (m : Machine) (page : ℕ) → is_page_among [] page ≡ true → is_mapped m.space.areas (4096 * page) ≡ true
none_written m page h = absurd (true≢false (sym h ∙ no_page_among page))

call_mapped : (script : Script) (s : Spot) (o : Option CallRecord) (page : ℕ) → entry_for script s.calls ≡ o → effect_of s.machine ≡ Call → FitsAt script (Running s) → All IsWhole s.machine.space.areas
    → is_page_among (written_by_entry o) page ≡ true → is_mapped s.machine.space.areas (4096 * page) ≡ true
call_mapped script s None page found call fit whole h = none_written s.machine page h
call_mapped script s (Some entry) page found call fit whole h =
    ranges_mapped s.machine.space.areas (map range_of entry.stored) page whole
    (writable_ranges s.machine.space.areas entry.stored (writable_if s.machine entry.stored (does_fit s.machine entry (fit entry call found)).store)) h

-- what a step of a play writes lies in mapped pages
mapped_by : (script : Script) (s : Spot) (effect : Effect) (page : ℕ) → effect_of s.machine ≡ effect → FitsAt script (Running s) → All IsWhole s.machine.space.areas
    → is_page_among (written_in_play script s effect) page ≡ true → is_mapped s.machine.space.areas (4096 * page) ≡ true
mapped_by script s (Next next stored) page is fit whole h = effect_mapped s.machine (Next next stored) page is whole h
mapped_by script s Call page is fit whole h = call_mapped script s (entry_for script s.calls) page refl is fit whole h
mapped_by script s (Fault kind) page is fit whole h = none_written s.machine page h

written_mapped : (script : Script) (s : Spot) (page : ℕ) → FitsAt script (Running s) → All IsWhole s.machine.space.areas → is_page_among (written_at script s) page ≡ true → is_mapped s.machine.space.areas (4096 * page) ≡ true
unfolding written_at
written_mapped script s page fit whole h = mapped_by script s (effect_of s.machine) page refl fit whole h

-- the frames of the next step suffice, where the pages written so far and by it are no more than there are frames
pub has_next : (script : Script) (g : GuestState) (calls size : ℕ) (before : List Range) → size ≡ 2 ^ 20 → KnowsFrames g → FitsAt script (Running (spot g.machine calls))
    → g.frames.written ≡ marked_for_all (unmarked size) before
    → count_marked (marked_for_all (unmarked size) (before ++ written_at script (spot g.machine calls))) ≤ g.frames.count
    → HasAllFrames g.frames (written_at script (spot g.machine calls))
has_next script g calls size before all knows fit written few =
    let here = written_at script (spot g.machine calls) in
    peak_suffices (memory_of g) here size all knows.framed (knows.framed_pages ∙ sym all) (knows.written_pages ∙ sym all)
    (λ page h. written_mapped script (spot g.machine calls) page fit knows.valid.whole h) knows.enough
    (omega (arith, few, ap count_marked (marked_for_all-append (unmarked size) before here), ap (λ (marks : List Bool). count_marked (marked_for_all marks here)) written))
