-- The lines of a run's slices.
use Rattle.std.specs.Prelude.{ℕ, List, ◌++◌, codes, decimal}
use Rattle.std.specs.List.{enumerate_from, flat_map}
use Rattle.tool_law.specs.declared.piece.Hits.{Hits}
use Rattle.ordered_merge.specs.declared.merger.SliceLine.{SliceLine}

-- how many positions passed the test of the pc and two registers, of all registers too, of the stack too, and of the whole state
abbrev pub hits_text : Hits → List ℕ
hits_text hits =
    decimal hits.quick
    ++ (codes " " ++ (decimal hits.registers ++ (codes " " ++ (decimal hits.stack ++ (codes " " ++ decimal hits.whole)))))

-- a slice's instructions, its calls and its hits
abbrev pub figures_text : SliceLine → List ℕ
figures_text line = decimal line.steps ++ (codes " " ++ (decimal line.calls ++ (codes " " ++ hits_text line.hits)))

-- `slice I N C Q R S W`
unfoldable pub slice_text : ℕ × SliceLine → List ℕ
slice_text entry = codes "slice " ++ (decimal entry.0 ++ (codes " " ++ (figures_text entry.1 ++ codes "\n")))

-- a line for each, numbered from 0
abbrev pub lines_text : List SliceLine → List ℕ
lines_text lines = flat_map slice_text (enumerate_from 0 lines)
