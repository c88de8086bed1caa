-- The space with which a guest's memory begins.
use Rattle.std.proofs.Common.{◌≡◌, ℕ, zero, suc, ◌-◌, ◌*◌, ◌/◌, ◌%◌, ◌^◌, ◌≤◌, ◌&&◌, false, List, [], ◌∷◌, length, get_or, refl, sym, ap, ◌∙◌, inl, arith}
use Rattle.std.specs.List.{All}
use Rattle.std.specs.FinMap as map
use Rattle.std.specs.Ordering.{nat_cmp}
use Rattle.std.proofs.lemmas.Bool.{cond-false}
use Rattle.std.proofs.lemmas.Bool.Decides.{nat_tests}
use Rattle.guest_model.specs.Areas.{is_mapped, is_permitted, rounded_up}
use Rattle.guest_model.specs.Added.{heap_area, empty_space, mapped_pages}
use Rattle.guest_model.specs.Bytes.{Bytes}
use Rattle.guest_model.specs.Space.{Space}
use Rattle.guest_model.specs.declared.Access.{Access}
use Rattle.guest_model.specs.declared.Access.TheVariants.{Read, Write, Execute}
use Rattle.cow_pages.specs.Contents.{Contents, flat, pages_over}
use Rattle.cow_pages.specs.Frames.{AddUp}
use Rattle.cow_pages.specs.Marks.{count_marked}
use Rattle.cow_pages.proofs.Flat.{length-flat, get_or-zeros, length-unmarked, get_or-unmarked}
use Rattle.cow_pages.proofs.MarkLists.{count_marked-unmarked}
use Rattle.guest_mem.specs.Mapped.{of_areas, space_over}
use Rattle.guest_mem.specs.Frames.{Frames, free_frames}
use Rattle.guest_mem.specs.Sound.{IsSound, IsOnOneSide, allows, no_rights}
use Rattle.guest_model.specs.Valid.{IsWhole}
use Rattle.guest_mem.specs.declared.rights.Rights.{Rights}
use Rattle.guest_mem.proofs.Mapped.{get-of_areas, same_bytes}

pub heap_holds : (h a : ℕ) → is_mapped (heap_area h ∷ []) a ≡ false
heap_holds h a = grind (arith, nat_tests)

heap_permits : (access : Access) (h a : ℕ) → is_permitted access (heap_area h ∷ []) a ≡ false
heap_permits access h a = grind (arith, nat_tests)

pub nothing_allowed : (access : Access) → allows access no_rights ≡ false
nothing_allowed Read = refl
nothing_allowed Write = refl
nothing_allowed Execute = refl

zeros : (all : List ℕ) → all ≡ flat (λ _. 0) → (a : ℕ) → get_or all a 0 ≡ 0
zeros all e a = ap (λ l. get_or l a 0) e ∙ get_or-zeros a

whole_heap : (h : ℕ) → h % 4096 ≡ 0 → h ≤ 0x40000000 → All IsWhole (heap_area h ∷ [])
whole_heap h page high zero d lt = record { start = page; end = page; order = omega arith; fits = omega arith }
whole_heap h page high (suc k) d lt = absurd (omega arith)

pub no_size : (h : ℕ) → mapped_pages (heap_area h ∷ []) ≡ 0
unfolding mapped_pages
no_size h = let none : (h - h) / 4096 ≡ 0 = omega arith in omega (arith, none)

heap_side : (h : ℕ) → h ≤ 0x40000000 → All IsOnOneSide (heap_area h ∷ [])
heap_side h high zero d lt = inl high
heap_side h high (suc k) d lt = absurd (omega arith)

rounded : (h : ℕ) → h % 4096 ≡ 0 → rounded_up h ≡ h
rounded h page = omega arith

pub sound_empty : (h : ℕ) (rights : List Rights) (pages : Contents) → h % 4096 ≡ 0 → h ≤ 0x40000000 → rights ≡ []
    → (count : ℕ) → pages ≡ pages_over (flat (λ _. 0)) count → AddUp pages.frames
    → IsSound (heap_area h ∷ []) rights pages h 0x40000000
sound_empty h rights pages page high none count is adds_up =
    let bytes = ap (λ (p : Contents). p.flat_bytes) is in
    let framed = ap (λ (p : Contents). p.frames.framed) is in
    let written = ap (λ (p : Contents). p.frames.written) is in record {
      whole = whole_heap h page high;
      adds_up = adds_up;
      few_pages = omega (arith, no_size h);
      table = record { each = λ access p lt. ap (λ (l : List Rights). allows access (get_or l p no_rights)) none ∙ nothing_allowed access ∙ sym (heap_permits access h (4096 * p)) };
      pages_len = ap length bytes ∙ length-flat (λ _. 0);
      rest_zero = λ a _. zeros pages.flat_bytes bytes a;
      framed_len = ap length framed ∙ length-unmarked (2 ^ 20);
      written_len = ap length written ∙ length-unmarked (2 ^ 20);
      framed_where = λ p lt.
          ap (λ l. get_or l p false) framed ∙ get_or-unmarked (2 ^ 20) p
          ∙ sym (ap (λ t. t && is_mapped (heap_area h ∷ []) (4096 * p)) (ap (λ l. get_or l p false) written ∙ get_or-unmarked (2 ^ 20) p));
      sides = λ k d lt. heap_side h high k d lt;
      heap_bound = high;
      heap = grind (arith, nat_tests, rounded h page);
      next = record { page = omega arith; low = omega arith; high = omega arith };
      unused_free = λ a _. heap_holds h a;
      unused_unwritten = λ p _. ap (λ l. get_or l p false) written ∙ get_or-unmarked (2 ^ 20) p;
    }

pub empty_over : (h : ℕ) (all : List ℕ) → space_over (heap_area h ∷ []) all h 0x40000000 ≡ empty_space h
unfolding empty_space
empty_over h all =
    let none : of_areas (heap_area h ∷ []) (λ q. get_or all q 0) ≡ map.empty =
    same_bytes _ _ (λ q. get-of_areas (heap_area h ∷ []) (λ k. get_or all k 0) q ∙ cond-false _ _ _ (heap_holds h q) ∙ sym (map.get-empty nat_cmp q)) in
    ap (λ (b : Bytes). let t : Space = record { bytes = b; areas = heap_area h ∷ []; heap_break = h; next_map = 0x40000000 } in t) none

-- in a new memory no page was written
pub none_written : (f : Frames) (n : ℕ) → f ≡ free_frames n → count_marked f.written ≡ 0
none_written f n e = ap (λ (g : Frames). count_marked g.written) e ∙ count_marked-unmarked (2 ^ 20)
