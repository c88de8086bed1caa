-- Pages over which nothing stands.
use Rattle.std.proofs.Common.{[], ◌≡◌, ℕ, ◌/◌, ◌%◌, List, get_or, refl, sym, ap, ◌∙◌, arith}
use Rattle.std.proofs.lemmas.Bool.{true≢false}
use Rattle.frame_pool.specs.PoolState.{PoolState}
use Rattle.page_table.specs.Table.{Table, page_at}
use Rattle.slot_table.specs.declared.slot.Slot.{Slot}
use Rattle.slot_table.specs.declared.slot.Slot.TheVariants.{Unchanged, Framed}
use Rattle.slot_table.specs.Slots.{all_unchanged, is_changed, is_framed, is_written, marks_by}
use Rattle.cow_pages.specs.Contents.{Contents, flat, pages_over}
use Rattle.cow_pages.specs.Laid.{IsLaid, byte_in, laid_byte, table_byte}
use Rattle.cow_pages.proofs.Flat.{flat-same}
use Rattle.cow_pages.proofs.SlotMarks.{fresh-count, fresh-length, fresh-marks, fresh-slot}

not_framed : (f : ℕ) → Unchanged ≡ Framed f → ⊥
not_framed f e = true≢false (sym (ap is_framed e))

pub fresh-laid : (slots : List Slot) (pool : PoolState) → slots ≡ all_unchanged → pool.free ≡ pool.count → IsLaid slots pool
fresh-laid slots pool e free = record {
  len = fresh-length slots e;
  given = λ p f is. absurd (not_framed f (sym (fresh-slot slots e p) ∙ is));
  apart = λ p q f is _. absurd (not_framed f (sym (fresh-slot slots e p) ∙ is));
  adds_up = omega (arith, fresh-count is_framed slots refl e, free);
}

pub fresh-bytes : (slots : List Slot) (frames : List ℕ) (table other : Table) → slots ≡ all_unchanged → table ≡ other → flat (byte_in slots frames table) ≡ flat (table_byte other)
fresh-bytes slots frames table other e f = flat-same (table_byte other) (byte_in slots frames table)
    (λ q _. ap (λ s. laid_byte s frames table q) (fresh-slot slots e (q / 4096)) ∙ ap (λ t. table_byte t q) f)

-- what callers see of them
pub fresh-contents : (slots : List Slot) (frames : List ℕ) (base origin table : Table) (bytes : List ℕ) (free count n : ℕ) → slots ≡ all_unchanged → base ≡ table → origin ≡ table → flat (table_byte table) ≡ bytes → free ≡ n → count ≡ n
    → ◌≡◌ {A = Contents} (record {
      flat_bytes = flat (byte_in slots frames base);
      origin = flat (table_byte origin);
      changed = marks_by is_changed slots;
      frames = record { framed = marks_by is_framed slots; written = marks_by is_written slots; free = free; count = count };
    }) (pages_over bytes n)
fresh-contents slots frames base origin table bytes free count n e b o is f c =
    let flat_is = fresh-bytes slots frames base table e b ∙ is in
    let origin_is : flat (table_byte origin) ≡ bytes = ap (λ t. flat (table_byte t)) o ∙ is in
    let changed_is = fresh-marks is_changed slots refl e in
    let framed_is = fresh-marks is_framed slots refl e in
    let written_is = fresh-marks is_written slots refl e in
    cc

pub empty-table : (table : Table) → ((page : ℕ) → page_at table page ≡ []) → flat (table_byte table) ≡ flat (λ _. 0)
unfolding table_byte
empty-table table none = flat-same (λ _. 0) (λ a. get_or (page_at table (a / 4096)) (a % 4096) 0) (λ q _. ap (λ l. get_or l (q % 4096) 0) (none (q / 4096)))
