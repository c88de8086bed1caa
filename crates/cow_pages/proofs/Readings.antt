-- What is read where.
use Rattle.std.proofs.Common.{◌≡◌, ℕ, ◌<◌, false, List, length, get_or, Option, None, Some, MatchOption, Bor, refl, sym, ◌∙◌}
use Rattle.std.proofs.lemmas.Bool.{true≢false}
use Rattle.page_table.specs.Table.{Table}
use Rattle.slot_table.specs.declared.slot.Slot.{Slot}
use Rattle.slot_table.specs.declared.slot.Slot.TheVariants.{Unchanged, Placed, Dropped, Framed}
use Rattle.slot_table.specs.Slots.{is_framed}
use Rattle.cow_pages.specs.Laid.{laid_byte}

-- bytes that are read where others are meant, which are the same
pub reading : (o : Option (Bor (List ℕ))) (f g : ℕ → ℕ) → ((i : ℕ) → i < 4096 → g i ≡ f i)
    → MatchOption o ((i : ℕ) → i < 4096 → f i ≡ 0) (λ bytes. (length bytes.now ≡ 4096) × ((i : ℕ) → i < 4096 → get_or bytes.now i 0 ≡ f i))
    → MatchOption o ((i : ℕ) → i < 4096 → g i ≡ 0) (λ bytes. (length bytes.now ≡ 4096) × ((i : ℕ) → i < 4096 → get_or bytes.now i 0 ≡ g i))
reading None f g same h = λ i lt. same i lt ∙ h i lt
reading (Some b) f g same h = (h.0, λ i lt. h.1 i lt ∙ sym (same i lt))

-- a page that has no frame reads as the same whatever the frames hold
pub below-frames : (s : Slot) (frames other : List ℕ) (table : Table) (a : ℕ) → is_framed s ≡ false → laid_byte s frames table a ≡ laid_byte s other table a
below-frames Unchanged frames other table a h = refl
below-frames Placed frames other table a h = refl
below-frames (Dropped written) frames other table a h = refl
below-frames (Framed frame) frames other table a h = absurd (true≢false h)

pub dropped-byte : (s : Slot) (frames : List ℕ) (table : Table) (a : ℕ) → (s ≡ Unchanged → ⊥) → (s ≡ Placed → ⊥) → is_framed s ≡ false → laid_byte s frames table a ≡ 0
dropped-byte Unchanged frames table a u p h = absurd (u refl)
dropped-byte Placed frames table a u p h = absurd (p refl)
dropped-byte (Dropped written) frames table a u p h = refl
dropped-byte (Framed frame) frames table a u p h = absurd (true≢false h)
