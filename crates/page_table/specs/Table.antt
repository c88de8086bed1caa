-- A table of pages behind shared pointers. A page that is not in it is the empty list, which reads as zeros.
use Rattle.std.specs.Prelude.{ℕ, ◌/◌, ◌%◌, List, [], slice_index_or, Option, None, Some}
use Rattle.std.specs.Arc.{arc_value}
use Rattle.std.specs.declared.alloc.Global.{Global}
use Rattle.std.specs.declared.sync.Arc.{Arc}

-- the list behind a shared pointer, or the empty list
abbrev pub shared_list : {X : Type 0} → Option (Arc (List X) Global) → List X
shared_list None = []
shared_list (Some p) = arc_value p

-- a page of a branch of 128 leaves of 32 pages
abbrev pub page_in : List (List (List ℕ)) → ℕ → List ℕ
page_in branch i = slice_index_or (slice_index_or branch (i / 32) []) (i % 32) []

-- a table as contracts see it, in branches of 4,096 pages
abbrev pub Table : Type 0
Table = List (List (List (List ℕ)))

-- the bytes of a page
abbrev pub page_at : Table → ℕ → List ℕ
page_at table page = page_in (slice_index_or table (page / 4096) []) (page % 4096)
