-- A space in which bytes of one page are written.
use Rattle.std.proofs.Common.{◌≡◌, ℕ, ◌+◌, ◌-◌, ◌*◌, ◌/◌, ◌%◌, ◌^◌, ◌<◌, ◌≤◌, ◌⊎◌, ◌&&◌, true, false, cond, Bool, List, length, get_or, refl, sym, ap, ◌∙◌, inl, inr, arith, get_or-set_same, get_or-set_other}
use Rattle.std.proofs.Math.ListN.{set, length-set}
use Rattle.std.specs.List.{All}
use Rattle.std.proofs.lemmas.Bool.{cases_eq, cases_Bool, true≢false}
use Rattle.std.proofs.lemmas.Bool.Decides.{nat_tests}
use Rattle.guest_model.specs.Areas.{is_mapped, is_permitted, wrap}
use Rattle.guest_model.specs.declared.Area.{Area}
use Rattle.guest_model.specs.declared.Access.{Access}
use Rattle.cow_pages.specs.Contents.{Contents}
use Rattle.cow_pages.specs.Frames.{AddUp, TakesFrame}
use Rattle.frame_pool.specs.Bytes.{is_among}
use Rattle.guest_mem.specs.Frames.{frames_for, marked_for}
use Rattle.guest_mem.specs.Sound.{IsSound}
use Rattle.guest_model.specs.Valid.{IsWhole}
use Rattle.guest_mem.specs.declared.rights.Rights.{Rights}
use Rattle.guest_mem.proofs.Permitted.{mapped_page, permitted_page}
use Rattle.guest_mem.proofs.Taken.{marked_for-one, frames_for-one}

not_wrapped : (a : ℕ) → a < 2 ^ 32 → wrap a ≡ a
not_wrapped a lt = omega arith

pub marked_in_page : (marks : List Bool) (a n : ℕ) → a < 2 ^ 32 → 0 < n → a % 4096 + n ≤ 4096 → set marks (a / 4096) true ≡ marked_for marks a n
marked_in_page marks a n fits some within = sym (marked_for-one marks a n some within ∙ ap (λ k. set marks (k / 4096) true) (not_wrapped a fits))

frames_in_page : (marks : List Bool) (a n : ℕ) → length marks ≡ 2 ^ 20 → a < 2 ^ 32 → 0 < n → a % 4096 + n ≤ 4096 → frames_for marks a n ≡ cond (get_or marks (a / 4096) false) 0 1
frames_in_page marks a n len fits some within =
    let same = not_wrapped a fits in
    let page : wrap a / 4096 ≡ a / 4096 = ap (λ k. k / 4096) same in
    let inside : wrap a / 4096 < length marks = omega (arith, page, len) in
    frames_for-one marks a n some within inside ∙ ap (λ k. cond (get_or marks k false) 0 1) page

pub frame_there : (marks : List Bool) (a n free : ℕ) → length marks ≡ 2 ^ 20 → a < 2 ^ 32 → 0 < n → a % 4096 + n ≤ 4096 → frames_for marks a n ≤ free → (get_or marks (a / 4096) false ≡ true) ⊎ (0 < free)
frame_there marks a n free len fits some within enough =
    elim (cases_Bool (get_or marks (a / 4096) false)) [
      | inl h ↦ inl h
      | inr h ↦ inr (omega (arith, enough, frames_in_page marks a n len fits some within ∙ ap (λ (t : Bool). cond {A = ℕ} t 0 1) h))
    ]

pub free_after : (marks : List Bool) (a n left free : ℕ) → length marks ≡ 2 ^ 20 → a < 2 ^ 32 → 0 < n → a % 4096 + n ≤ 4096 → left + cond (get_or marks (a / 4096) false) 0 1 ≡ free → left + frames_for marks a n ≡ free
free_after marks a n left free len fits some within is =
    let one = frames_in_page marks a n len fits some within in
    omega (arith, is, one)

among_page : (a n q : ℕ) → a % 4096 + n ≤ 4096 → is_among a n q ≡ true → q / 4096 ≡ a / 4096
among_page a n q within h =
    let there : (a ≤ q) × (q < a + n) = grind (arith, nat_tests) in
    omega (arith, there.0, there.1)

pub mapped_among : (areas : List Area) (a n : ℕ) → All IsWhole areas → is_mapped areas a ≡ true → a % 4096 + n ≤ 4096 → (q : ℕ) → is_among a n q ≡ true → is_mapped areas q ≡ true
mapped_among areas a n whole here within q h =
    mapped_page areas whole q ∙ ap (λ p. is_mapped areas (4096 * p)) (among_page a n q within h) ∙ sym (mapped_page areas whole a) ∙ here

pub permitted_among : (access : Access) (areas : List Area) (a n : ℕ) → All IsWhole areas → is_permitted access areas a ≡ true → a % 4096 + n ≤ 4096 → (q : ℕ) → is_among a n q ≡ true → is_permitted access areas q ≡ true
permitted_among access areas a n whole here within q h =
    permitted_page access areas whole q ∙ ap (λ p. is_permitted access areas (4096 * p)) (among_page a n q within h) ∙ sym (permitted_page access areas whole a) ∙ here

unmapped_still : (t : Bool) (m : Bool) (x y : ℕ) → (t ≡ true → m ≡ true) → m ≡ false → y ≡ 0 → cond t x y ≡ 0
unmapped_still true m x y there none zero = absurd (true≢false (sym (there refl) ∙ none))
unmapped_still false m x y there none zero = zero

framed_there : (t m : Bool) → t ≡ true → m ≡ true → true ≡ (t && m)
framed_there true m h k = sym k
framed_there false m h k = sym h

pub sound_written : (areas : List Area) (rights : List Rights) (old new : Contents) (brk next a : ℕ) (source : List ℕ)
    → IsSound areas rights old brk next → a < 2 ^ 32 → a % 4096 + length source ≤ 4096 → is_mapped areas a ≡ true
    → ((q : ℕ) → get_or new.flat_bytes q 0 ≡ cond (is_among a (length source) q) (get_or source (q - a) 0) (get_or old.flat_bytes q 0))
    → length new.flat_bytes ≡ 2 ^ 32 → TakesFrame old.frames new.frames (a / 4096) → AddUp new.frames
    → IsSound areas rights new brk next
sound_written areas rights old new brk next a source sound fits within here bytes len takes adds_up =
    let framed = takes.framed in
    let written = takes.written in record {
      whole = sound.whole;
      adds_up = adds_up;
      few_pages = sound.few_pages;
      table = sound.table;
      pages_len = len;
      rest_zero = λ q none. bytes q ∙ unmapped_still (is_among a (length source) q) (is_mapped areas q) _ _ (mapped_among areas a (length source) sound.whole here within q) none (sound.rest_zero q none);
      framed_len = ap length framed ∙ length-set old.frames.framed (a / 4096) true ∙ sound.framed_len;
      written_len = ap length written ∙ length-set old.frames.written (a / 4096) true ∙ sound.written_len;
      framed_where = λ page lt. elim (cases_eq page (a / 4096)) [
        | inl e ↦
            let in_framed : page < length old.frames.framed = omega (arith, sound.framed_len) in
            let in_written : page < length old.frames.written = omega (arith, sound.written_len) in
            let mapped : is_mapped areas (4096 * page) ≡ true = ap (λ p. is_mapped areas (4096 * p)) e ∙ sym (mapped_page areas sound.whole a) ∙ here in
            let framed_now : get_or new.frames.framed page false ≡ true = ap (λ l. get_or l page false) framed ∙ ap (λ p. get_or (set old.frames.framed p true) page false) (sym e) ∙ get_or-set_same old.frames.framed page true false in_framed in
            let written_now : get_or new.frames.written page false ≡ true = ap (λ l. get_or l page false) written ∙ ap (λ p. get_or (set old.frames.written p true) page false) (sym e) ∙ get_or-set_same old.frames.written page true false in_written in
            framed_now ∙ framed_there (get_or new.frames.written page false) (is_mapped areas (4096 * page)) written_now mapped
        | inr ne ↦
            ap (λ l. get_or l page false) framed ∙ get_or-set_other old.frames.framed (a / 4096) page true false ne
            ∙ sound.framed_where page lt
            ∙ ap (λ t. t && is_mapped areas (4096 * page)) (sym (ap (λ l. get_or l page false) written ∙ get_or-set_other old.frames.written (a / 4096) page true false ne))
      ];
      sides = sound.sides;
      heap_bound = sound.heap_bound;
      heap = sound.heap;
      next = sound.next;
      unused_free = sound.unused_free;
      unused_unwritten = λ page h. elim (cases_eq page (a / 4096)) [
        | inl e ↦ absurd (true≢false (sym here ∙ mapped_page areas sound.whole a ∙ ap (λ p. is_mapped areas (4096 * p)) (sym e) ∙ sound.unused_free (4096 * page) h))
        | inr ne ↦ ap (λ l. get_or l page false) written ∙ get_or-set_other old.frames.written (a / 4096) page true false ne ∙ sound.unused_unwritten page h
      ];
    }

wrap_small : (a : ℕ) → a < 2 ^ 32 → wrap a ≡ a
wrap_small a lt = omega arith

-- the addresses of one page, from one that an area holds on
pub mapped_along : (areas : List Area) (a n : ℕ) → All IsWhole areas → a < 2 ^ 32 → is_mapped areas a ≡ true → a % 4096 + n ≤ 4096
    → (i : ℕ) → i < n → is_mapped areas (wrap (a + i)) ≡ true
mapped_along areas a n whole fits here within i lt =
    ap (is_mapped areas) (wrap_small (a + i) (omega arith)) ∙ mapped_among areas a n whole here within (a + i) (grind (arith, nat_tests))
