-- Ranges of addresses, and the pages that hold them.
use Rattle.std.specs.Prelude.{ℕ, ◌+◌, ◌/◌, ◌^◌, ◌==◌, Bool, List, sum_by}
use Rattle.std.specs.List.{count_by, list_any, range_with_len}
use Rattle.guest_model.specs.Areas.{wrap}
use Rattle.guest_model.specs.declared.platform.TheConstants as platform

-- `size` addresses from `at` on, modulo 2^32
pub record Range : Type 0 where
  pub at : ℕ
  pub size : ℕ

abbrev pub range : ℕ → ℕ → Range
range a n = record { at = a; size = n }

-- how many addresses they are
abbrev pub total_size : List Range → ℕ
total_size ranges = sum_by (λ r. r.size) ranges

-- whether the page holds one of the n addresses from a on
unfoldable pub is_page_of : ℕ → ℕ → ℕ → Bool
is_page_of a n page = list_any (λ i. wrap (a + i) / platform.PAGE_SIZE == page) (range_with_len 0 n)

-- whether the page holds an address of one of the ranges
unfoldable pub is_page_among : List Range → ℕ → Bool
is_page_among ranges page = list_any (λ r. is_page_of r.at r.size page) ranges

-- how many pages hold an address of one of the ranges
unfoldable pub pages_among : List Range → ℕ
pages_among ranges = count_by (is_page_among ranges) (range_with_len 0 (2 ^ 20))
