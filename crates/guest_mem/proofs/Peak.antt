-- A memory with as many frames as pages are ever written lacks none.
use Rattle.std.proofs.Common.{◌≡◌, ℕ, ◌+◌, ◌*◌, ◌^◌, ◌≤◌, ◌&&◌, ◌||◌, not, Bool, true, false, List, [], ◌∷◌, length, get_or, refl, sym, ap, ◌∙◌, inl, inr, arith}
use Rattle.std.specs.List.{All, count_by, list_all, range_with_len}
use Rattle.std.proofs.lemmas.Bool.{cases_Bool, cases_lt, and_parts, or_cases, true≢false}
use Rattle.std.proofs.lemmas.List.{get_or_past}
use Rattle.guest_model.specs.Areas.{all_permitted, is_mapped, is_range_permitted}
use Rattle.guest_model.specs.Effect.{Effect, Next, Call, Fault, effect_of, stored_by}
use Rattle.guest_model.specs.Machine.{Machine}
use Rattle.guest_model.specs.Range.{Range, is_page_among, is_page_of}
use Rattle.guest_model.specs.Valid.{IsWhole}
use Rattle.guest_model.specs.declared.Access.TheVariants.{Write}
use Rattle.guest_model.specs.declared.Area.{Area}
use Rattle.guest_model.proofs.Stored.{stored_is_small}
use Rattle.cow_pages.specs.Marks.{count_marked}
use Rattle.guest_mem.specs.Frames.{HasAllFrames, frames_for_all, marked_for_all}
use Rattle.guest_mem.specs.Memory.{Memory, HasFramesWhereWritten}
use Rattle.guest_mem.proofs.Enough.{count_le, page_mapped}
use Rattle.guest_mem.proofs.Permitted.{all_mapped}
use Rattle.guest_mem.proofs.Ranges.{is_page_among-one}
use Rattle.guest_mem.proofs.Taken.{counted, count_map, count_or}

pub counted_after_all : (marks : List Bool) (rs : List Range) → count_marked (marked_for_all marks rs) ≡ count_by (λ page. is_page_among rs page || get_or marks page false) (range_with_len 0 (length marks))
unfolding count_marked marked_for_all
counted_after_all marks rs = count_map (λ page. is_page_among rs page || get_or marks page false) (range_with_len 0 (length marks))

-- the pages that are marked once more
pub count_marked-marked_for_all : (marks : List Bool) (rs : List Range) → count_marked (marked_for_all marks rs) ≡ count_marked marks + frames_for_all marks rs
unfolding frames_for_all
count_marked-marked_for_all marks rs =
    omega (arith, counted_after_all marks rs, counted marks, count_or (is_page_among rs) (λ page. get_or marks page false) (range_with_len 0 (length marks)))

is_not : (b : Bool) → not b ≡ true → b ≡ false
is_not false h = refl
is_not true h = absurd (true≢false (sym h))

-- a page that lacks a frame was not written, if it is mapped
unwritten : (m : Memory) (page : ℕ) → HasFramesWhereWritten m → length m.frames.written ≡ 2 ^ 20 → is_mapped m.space.areas (4096 * page) ≡ true → get_or m.frames.framed page false ≡ false
    → get_or m.frames.written page false ≡ false
unwritten m page framed len mapped none =
    elim (cases_Bool (get_or m.frames.written page false)) [
      | inr not_written ↦ not_written
      | inl is_written ↦ elim (cases_lt page (2 ^ 20)) [
        | inl lt ↦ absurd (true≢false (sym (framed page lt ∙ ap (λ (b : Bool). b && is_mapped m.space.areas (4096 * page)) is_written ∙ mapped) ∙ none))
        | inr ge ↦ absurd (true≢false (sym is_written ∙ get_or_past m.frames.written page false (omega (arith, ge, len))))
      ]
    ]

lacks : (marks : List Bool) (rs : List Range) (size : ℕ) → length marks ≡ size → frames_for_all marks rs ≡ count_by (λ page. is_page_among rs page && not (get_or marks page false)) (range_with_len 0 size)
unfolding frames_for_all
lacks marks rs size is = ap (λ (n : ℕ). count_by (λ page. is_page_among rs page && not (get_or marks page false)) (range_with_len 0 n)) is

less_needed : (m : Memory) (rs : List Range) (size : ℕ) → size ≡ 2 ^ 20 → HasFramesWhereWritten m → length m.frames.framed ≡ size → length m.frames.written ≡ size
    → ((page : ℕ) → is_page_among rs page ≡ true → is_mapped m.space.areas (4096 * page) ≡ true) → frames_for_all m.frames.framed rs ≤ frames_for_all m.frames.written rs
less_needed m rs size all framed some others mapped =
    let le = count_le (λ page. is_page_among rs page && not (get_or m.frames.framed page false)) (λ page. is_page_among rs page && not (get_or m.frames.written page false)) (range_with_len 0 size)
    (λ page h.
    let parts = and_parts (is_page_among rs page) (not (get_or m.frames.framed page false)) h in
    let none = unwritten m page framed (others ∙ all) (mapped page parts.0) (is_not (get_or m.frames.framed page false) parts.1) in
    rw (parts.0, none) refl) in
    omega (arith, le, lacks m.frames.framed rs size some, lacks m.frames.written rs size others)

-- frames that are as many as the pages written so far and in these ranges suffice for the ranges
pub peak_suffices : (m : Memory) (rs : List Range) (size : ℕ) → size ≡ 2 ^ 20 → HasFramesWhereWritten m → length m.frames.framed ≡ size → length m.frames.written ≡ size
    → ((page : ℕ) → is_page_among rs page ≡ true → is_mapped m.space.areas (4096 * page) ≡ true) → m.frames.count ≤ m.frames.free + count_marked m.frames.written
    → count_marked (marked_for_all m.frames.written rs) ≤ m.frames.count → HasAllFrames m.frames rs
peak_suffices m rs size all framed some others mapped enough few =
    inr (omega (arith, less_needed m rs size all framed some others mapped, count_marked-marked_for_all m.frames.written rs, enough, few))

-- where bytes may be written there are pages
page_permitted : (areas : List Area) (a n page : ℕ) → All IsWhole areas → all_permitted Write areas a n ≡ true → is_page_of a n page ≡ true → is_mapped areas (4096 * page) ≡ true
page_permitted areas a n page whole may h = page_mapped areas a n page whole (all_mapped Write areas a n may) h

no_page_among : (page : ℕ) → is_page_among [] page ≡ false
unfolding is_page_among
no_page_among page = refl

-- what an instruction stores lies in mapped pages
pub effect_mapped : (m : Machine) (effect : Effect) (page : ℕ) → effect_of m ≡ effect → All IsWhole m.space.areas → is_page_among (stored_by effect) page ≡ true → is_mapped m.space.areas (4096 * page) ≡ true
effect_mapped m Call page is whole h = absurd (true≢false (sym h ∙ no_page_among page))
effect_mapped m (Fault kind) page is whole h = absurd (true≢false (sym h ∙ no_page_among page))
effect_mapped m (Next next stored) page is whole h =
    elim (stored_is_small m next stored is) [
      | inl none ↦ absurd (true≢false (sym h ∙ ap (λ (rs : List Range). is_page_among rs page) none ∙ no_page_among page))
      | inr some ↦ page_permitted m.space.areas some.0.at some.0.size page whole some.3
          (sym (is_page_among-one some.0.at some.0.size page) ∙ sym (ap (λ (rs : List Range). is_page_among rs page) some.2) ∙ h)
    ]

-- and so does what lies in ranges that may be written
pub ranges_mapped : (areas : List Area) (rs : List Range) (page : ℕ) → All IsWhole areas → list_all (λ r. is_range_permitted Write areas r.at r.size) rs ≡ true
    → is_page_among rs page ≡ true → is_mapped areas (4096 * page) ≡ true
unfolding is_page_among is_range_permitted
ranges_mapped areas [] page whole may h = absurd (true≢false (sym h))
ranges_mapped areas (r ∷ rs) page whole may h =
    let parts = and_parts (is_range_permitted Write areas r.at r.size) _ may in
    elim (or_cases (is_page_of r.at r.size page) _ h) [
      | inl here ↦ page_permitted areas r.at r.size page whole (and_parts _ (all_permitted Write areas r.at r.size) parts.0).1 here
      | inr later ↦ ranges_mapped areas rs page whole parts.1 later
    ]
