use Rattle.std.proofs.Common.{◌≡◌, ◌++◌, slice_index, take}
use Rattle.std.specs.List.{flat_map}
use Rattle.rv_isa.specs.Places.{place_of}
use Rattle.tool_counts.specs.Mix.{mix_line}
use Rattle.tool_counts.proofs.op_mix.push_lines.Given as goal

abbrev pub invariant-loop-op : goal.invariant-loop-op
invariant-loop-op l =
    l.out.items ≡ l.fn.out.items ++ flat_map (λ op. mix_line op (slice_index l.counts (place_of op))) (take l.op-index l.op-items)
