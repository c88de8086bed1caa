-- What `blocks` counts, and its text.
use Rattle.std.specs.Prelude.{◌≡◌, ℕ, ◌+◌, List, ◌++◌, fold, codes, decimal, slice_index, Option, None, Some, unwrap_or, if◌then◌else◌}
use Rattle.std.specs.List.{flat_map}
use Rattle.std.specs.Ordering.{nat_cmp}
use Rattle.std.specs.FinMap as table
use Rattle.std.specs.FinMap.{FinMap}
use Rattle.std.proofs.Props.{props}
use Rattle.ins_views.specs.Blocks.{block_at}
use Rattle.ins_views.specs.Views.{ViewFields}
use Rattle.ins_views.specs.declared.views.Block.{Block}
use Rattle.insert_points.specs.declared.call.Event.{Event}
use Rattle.sp_report.specs.Digits.{address_text}
use Rattle.tool_parts.specs.Calls.{is_own}
use Rattle.tool_parts.specs.Text.{routine_shown}

-- a count for each head of a block that began
abbrev pub Counts : Type 0
Counts = FinMap nat_cmp ℕ

abbrev pub count_of : Counts → ℕ → ℕ
count_of t head = unwrap_or (table.get t head) 0

-- n more at a head
abbrev pub add : Counts → ℕ → ℕ → Counts
add t head n = table.insert t head (count_of t head + n)

-- one more at the head of the event's block
abbrev pub note : Counts → Event → Counts
note t e = if is_own e then add t (slice_index e.args 0) 1 else t

abbrev pub tally : List Event → Counts
tally xs = fold note table.empty xs

-- two counts together
abbrev pub both : Option ℕ → Option ℕ → Option ℕ
both None o = o
both (Some a) o = Some (a + unwrap_or o 0)

-- the length of the block that begins at a head, or 0 where no instruction stands
abbrev pub length_shown : Option Block → ℕ
length_shown None = 0
length_shown (Some block) = block.len

-- `HEAD LEN N`
abbrev pub figures_text : ViewFields → ℕ × ℕ → List ℕ
figures_text views entry =
    address_text entry.0 ++ (codes " " ++ (decimal (length_shown (block_at views entry.0)) ++ (codes " " ++ decimal entry.1)))

-- `block HEAD LEN N ROUTINE`
unfoldable pub profile_line : ViewFields → ℕ × ℕ → List ℕ
profile_line views entry = codes "block " ++ (figures_text views entry ++ (codes " " ++ (routine_shown views entry.0 ++ codes "\n")))

-- a line for each head, from the lowest on
abbrev pub profile_text : ViewFields → List (ℕ × ℕ) → List ℕ
profile_text views entries = flat_map (profile_line views) entries

-- a map with these entries stands for the events
abbrev pub IsProfile : List Event → List (ℕ × ℕ) → Type 0
IsProfile xs entries = entries ≡ table.entries (tally xs)

-- a map that gives these counts does
abbrev pub IsTally : List Event → (ℕ → Option ℕ) → Type 0
IsTally ys count_at = (q : ℕ) → count_at q ≡ table.get (tally ys) q

pub IsTally-prop : (ys : List Event) (count_at : ℕ → Option ℕ) → IsProp (IsTally ys count_at)
IsTally-prop ys count_at = hlevel props
