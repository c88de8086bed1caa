-- Pages that a list names.
use Rattle.std.specs.Prelude.{ℕ, ◌^◌, ◌==◌, Bool, List, map}
use Rattle.std.specs.List.{range_with_len, list_any}

-- whether a list names a page
unfoldable pub is_named : List ℕ → ℕ → Bool
is_named pages page = list_any (λ p. p == page) pages

-- the pages that a list names are marked
unfoldable pub marks_of : List ℕ → List Bool
marks_of pages = map (is_named pages) (range_with_len 0 (2 ^ 20))
