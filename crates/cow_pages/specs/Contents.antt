-- What callers see of the pages of a 32-bit address space: 2^20 pages of 4,096 bytes.
use Rattle.std.specs.Prelude.{◌≡◌, ℕ, ◌+◌, ◌*◌, ◌/◌, ◌%◌, ◌^◌, ◌==◌, Bool, true, false, if◌then◌else◌, List, map, slice_index, refl}
use Rattle.std.specs.Coded.{Coded, coded_ℕ, coded_bool, coded_list, coded×, code_by}
use Rattle.std.specs.List.{range_with_len}
use Rattle.frame_pool.specs.Bytes.{is_among}
use Rattle.cow_pages.specs.Frames.{Frames, free_frames, frames_code}
use Rattle.cow_pages.specs.Marks.{is_marked, unmarked}

pub record Contents : Type 0 where
  -- the byte at each address
  pub flat_bytes : List ℕ
  -- the byte at each address as it was at the last freeze or fork
  pub origin : List ℕ
  -- for each page, whether it was placed, written or dropped since then
  pub changed : List Bool
  pub frames : Frames

-- pages as they were at a freeze
pub record Frozen : Type 0 where
  -- the byte at each address
  pub bytes : List ℕ
  -- for each page, whether it was changed since the state that these pages came from
  pub changed : List Bool

-- what f gives at each address
unfoldable pub flat : (ℕ → ℕ) → List ℕ
flat f = map f (range_with_len 0 (2 ^ 32))

-- the address of a byte of a page
abbrev pub address_of : ℕ → ℕ → ℕ
address_of page at = 4096 * page + at

-- how many pages hold n bytes, of which the first is byte `at` of its page
abbrev pub page_count : ℕ → ℕ → ℕ
page_count at n = if n == 0 then 0 else (at % 4096 + n + 4095) / 4096

-- the n pages from `page` on read as zeros
abbrev pub ReadAsZeros : List ℕ → ℕ → ℕ → Type 0
ReadAsZeros bytes page n = (a : ℕ) → is_among page n (a / 4096) ≡ true → slice_index bytes a ≡ 0

-- two lists of all bytes agree in the pages that are not marked
abbrev pub AgreeOutside : List Bool → List ℕ → List ℕ → Type 0
AgreeOutside marks xs ys = (a : ℕ) → is_marked marks (a / 4096) ≡ false → slice_index xs a ≡ slice_index ys a

-- pages with these bytes of which none was changed, with so many free frames
abbrev pub pages_over : List ℕ → ℕ → Contents
pages_over bytes count = record { flat_bytes = bytes; origin = bytes; changed = unmarked (2 ^ 20); frames = free_frames count }

abbrev pub contents_code : Coded Contents
contents_code = code_by (List ℕ × (List ℕ × (List Bool × Frames))) (coded× (coded_list coded_ℕ) (coded× (coded_list coded_ℕ) (coded× (coded_list coded_bool) frames_code)))
    (λ c. (c.flat_bytes, (c.origin, (c.changed, c.frames))))
    (λ p. record { flat_bytes = p.0; origin = p.1.0; changed = p.1.1.0; frames = p.1.1.1 }) (λ _. refl)
