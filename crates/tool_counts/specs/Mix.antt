-- What `mix` counts, and its text.
use Rattle.std.specs.Prelude.{◌≡◌, ℕ, ◌<◌, ◌==◌, ◌&&◌, Bool, List, [], ◌++◌, codes, decimal, slice_index, if◌then◌else◌}
use Rattle.std.specs.List.{count_by, flat_map}
use Rattle.std.proofs.Props.{props}
use Rattle.rv_isa.specs.declared.op.Op.{Op}
use Rattle.rv_isa.specs.Decoded.{ops}
use Rattle.rv_isa.specs.Places.{place_of}
use Rattle.rv_isa.specs.Text.{name_of}
use Rattle.insert_points.specs.declared.call.Event.{Event}
use Rattle.tool_parts.specs.Calls.{is_own}

-- an event of an instruction whose name has the place k in the table. A place that no name has counts for nothing
abbrev pub is_at : ℕ → Event → Bool
is_at k e = is_own e && (slice_index e.args 0 == k)

abbrev pub count_at : List Event → ℕ → ℕ
count_at xs k = count_by (is_at k) xs

-- how many instructions there were of each name
abbrev pub mix_of : List Event → Op → ℕ
mix_of xs op = count_at xs (place_of op)

-- `mix NAME N`, where there are any
abbrev pub mix_line : Op → ℕ → List ℕ
mix_line op n = if n == 0 then [] else codes "mix " ++ (name_of op ++ (codes " " ++ (decimal n ++ codes "\n")))

-- a line for each name that there were any of, in the table's order
unfoldable pub mix_text : (Op → ℕ) → List ℕ
mix_text mix = flat_map (λ op. mix_line op (mix op)) ops

-- 59 numbers stand for the events
pub record IsMix (xs : List Event) (counts : List ℕ) : Type 0 where
  pub same : (k : ℕ) → k < 59 → slice_index counts k ≡ count_at xs k

pub IsMix-prop : (xs : List Event) (counts : List ℕ) → IsProp (IsMix xs counts)
IsMix-prop xs counts = hlevel props
