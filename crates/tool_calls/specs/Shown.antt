-- The trace that the totals show.
use Rattle.tool_calls.specs.declared.slice.CallTotals.{CallTotals}
use Rattle.tool_calls.specs.Trace.{Trace}

abbrev pub trace_of : CallTotals → Trace
trace_of t = record { calls = t.calls.items; depth = t.depth }
