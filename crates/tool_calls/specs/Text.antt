-- The text of a trace.
use Rattle.std.specs.Prelude.{ℕ, List, ◌++◌, codes, decimal}
use Rattle.std.specs.List.{flat_map}
use Rattle.ins_views.specs.Views.{ViewFields}
use Rattle.sp_report.specs.Digits.{address_text}
use Rattle.tool_calls.specs.declared.slice.Called.{Called}
use Rattle.tool_parts.specs.Text.{routine_shown}

-- `DEPTH FROM TO`
abbrev pub places_text : Called → List ℕ
places_text c = decimal c.depth ++ (codes " " ++ (address_text c.from ++ (codes " " ++ address_text c.to)))

-- `call DEPTH FROM TO ROUTINE`, the routine being that of TO
unfoldable pub call_line : ViewFields → Called → List ℕ
call_line views c = codes "call " ++ (places_text c ++ (codes " " ++ (routine_shown views c.to ++ codes "\n")))

-- a line for each call, in order
abbrev pub call_lines : ViewFields → List Called → List ℕ
call_lines views calls = flat_map (call_line views) calls
