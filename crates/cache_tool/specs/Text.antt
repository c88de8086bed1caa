-- The text of a cache.
use Rattle.std.specs.Prelude.{ℕ, List, ◌++◌, codes, decimal}
use Rattle.cache_tool.specs.Cache.{Cache, accesses}

-- `cache S B`
abbrev pub sizes_text : ℕ → ℕ → List ℕ
sizes_text sets line = codes "cache " ++ (decimal sets ++ (codes " " ++ decimal line))

-- ` accesses A hits H misses M`
abbrev pub counts_text : Cache → List ℕ
counts_text c = codes " accesses " ++ (decimal (accesses c) ++ (codes " hits " ++ (decimal c.hits ++ (codes " misses " ++ decimal c.misses))))

-- `cache S B accesses A hits H misses M`
abbrev pub cache_text : ℕ → ℕ → Cache → List ℕ
cache_text sets line c = sizes_text sets line ++ (counts_text c ++ codes "\n")
