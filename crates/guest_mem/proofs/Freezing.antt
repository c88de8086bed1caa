-- A space that is frozen and forked.
use Rattle.std.proofs.Common.{◌≡◌, ℕ, ◌*◌, ◌^◌, ◌&&◌, false, List, length, get_or, refl, sym, ap, ◌∙◌, arith}
use Rattle.std.proofs.lemmas.List.{ext_get_or}
use Rattle.guest_model.specs.Areas.{is_mapped}
use Rattle.guest_model.specs.Bytes.{byte_at}
use Rattle.guest_model.specs.Space.{Space}
use Rattle.guest_model.specs.declared.Area.{Area}
use Rattle.cow_pages.specs.Contents.{Contents, flat, pages_over}
use Rattle.cow_pages.proofs.Flat.{get_or-flat, get_or-zeros, length-flat, get_or-unmarked, length-unmarked}
use Rattle.cow_pages.proofs.MarkLists.{count_marked-unmarked}
use Rattle.guest_mem.specs.Mapped.{space_over}
use Rattle.guest_mem.specs.Memory.{all_bytes}
use Rattle.guest_mem.specs.Sound.{IsSound}
use Rattle.guest_mem.specs.declared.rights.Rights.{Rights}
use Rattle.guest_mem.proofs.Mapped.{byte_of_space}

-- the bytes of a space are the list that it stands over
pub all_bytes_are : (s : Space) (xs : List Area) (all : List ℕ) (brk next : ℕ) → space_over xs all brk next ≡ s → length all ≡ 2 ^ 32 → ((a : ℕ) → is_mapped xs a ≡ false → get_or all a 0 ≡ 0) → all_bytes s ≡ all
unfolding all_bytes
all_bytes_are s xs all brk next e len rest =
    let bytes = λ (a : ℕ). byte_at s.bytes a in
    ext_get_or 0 (flat bytes) all (length-flat bytes ∙ sym len) (λ a lt. get_or-flat bytes a (omega (arith, lt, length-flat bytes)) ∙ byte_of_space s xs all brk next e rest a)

-- a new space is as it was when it was made
pub origin_begun : (xs : List Area) (pages : Contents) (brk next count : ℕ) → pages ≡ pages_over (flat (λ _. 0)) count → pages.origin ≡ all_bytes (space_over xs pages.flat_bytes brk next)
origin_begun xs pages brk next count is =
    let same : pages.flat_bytes ≡ flat (λ _. 0) = ap (λ (p : Contents). p.flat_bytes) is in
    let origin : pages.origin ≡ flat (λ _. 0) = ap (λ (p : Contents). p.origin) is in
    origin ∙ sym same
    ∙ sym (all_bytes_are (space_over xs pages.flat_bytes brk next) xs pages.flat_bytes brk next refl (ap length same ∙ length-flat (λ _. 0)) (λ a _. ap (λ l. get_or l a 0) same ∙ get_or-zeros a))

-- a space of which no page was changed
pub sound_fresh : (xs : List Area) (rights : List Rights) (pages : Contents) (brk next count : ℕ) → IsSound xs rights pages brk next → IsSound xs rights (pages_over pages.flat_bytes count) brk next
sound_fresh xs rights pages brk next count sound = record {
  whole = sound.whole;
  few_pages = sound.few_pages;
  table = sound.table;
  pages_len = sound.pages_len;
  rest_zero = sound.rest_zero;
  framed_len = length-unmarked (2 ^ 20);
  written_len = length-unmarked (2 ^ 20);
  framed_where = λ page lt. get_or-unmarked (2 ^ 20) page ∙ sym (ap (λ t. t && is_mapped xs (4096 * page)) (get_or-unmarked (2 ^ 20) page));
  sides = sound.sides;
  heap_bound = sound.heap_bound;
  heap = sound.heap;
  next = sound.next;
  unused_free = sound.unused_free;
  unused_unwritten = λ page _. get_or-unmarked (2 ^ 20) page;
  adds_up = omega (arith, count_marked-unmarked (2 ^ 20));
}

-- what is frozen of a space
pub sound_frozen : (xs ys : List Area) (rights table : List Rights) (pages : Contents) (bytes : List ℕ) (brk next : ℕ) → IsSound xs rights pages brk next
    → ys ≡ xs → table ≡ rights → bytes ≡ pages.flat_bytes → IsSound ys table (pages_over bytes 0) brk next
sound_frozen xs ys rights table pages bytes brk next sound e f g = rw (e, f, g) (sound_fresh xs rights pages brk next 0 sound)

-- equal layouts and equal bytes make equal spaces
pub same_space : (s t : Space) (xs ys : List Area) (all others : List ℕ) (brk end next after : ℕ) → space_over xs all brk next ≡ s → space_over ys others end after ≡ t
    → (s.areas ≡ t.areas) × (s.heap_break ≡ t.heap_break) × (s.next_map ≡ t.next_map) → all ≡ others → s ≡ t
same_space s t xs ys all others brk end next after e f layout same =
    let areas : xs ≡ ys = ap (λ (u : Space). u.areas) e ∙ layout.0 ∙ sym (ap (λ (u : Space). u.areas) f) in
    let ends : brk ≡ end = ap (λ (u : Space). u.heap_break) e ∙ layout.1 ∙ sym (ap (λ (u : Space). u.heap_break) f) in
    let starts : next ≡ after = ap (λ (u : Space). u.next_map) e ∙ layout.2 ∙ sym (ap (λ (u : Space). u.next_map) f) in
    sym e
    ∙ ap (λ k. space_over xs all k next) ends
    ∙ ap (λ k. space_over xs all end k) starts
    ∙ ap (λ l. space_over l all end after) areas
    ∙ ap (λ l. space_over ys l end after) same
    ∙ f
