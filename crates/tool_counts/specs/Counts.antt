-- What `icount` and `bcount` count, and their texts.
use Rattle.std.specs.Prelude.{◌≡◌, ℕ, ◌*◌, ◌≤◌, ◌^◌, List, ◌++◌, codes, decimal, length, slice_index, if◌then◌else◌}
use Rattle.std.specs.List.{count_by, sum_by}
use Rattle.std.proofs.Props.{props}
use Rattle.insert_points.specs.declared.call.Event.{Event}
use Rattle.tool_parts.specs.Calls.{is_own}

-- how many events are of the tool's one call
abbrev pub own_events : List Event → ℕ
own_events xs = count_by is_own xs

-- the length of the event's block
abbrev pub length_of : Event → ℕ
length_of e = if is_own e then slice_index e.args 0 else 0

-- how many blocks began, and how many instructions they have together
pub record BlockSums : Type 0 where
  pub blocks : ℕ
  pub instructions : ℕ

abbrev pub block_sums : List Event → BlockSums
block_sums xs = record { blocks = own_events xs; instructions = sum_by length_of xs }

-- `icount N`
abbrev pub count_text : ℕ → List ℕ
count_text n = codes "icount " ++ (decimal n ++ codes "\n")

-- `bcount B N`
abbrev pub block_count_text : BlockSums → List ℕ
block_count_text sums = codes "bcount " ++ (decimal sums.blocks ++ (codes " " ++ (decimal sums.instructions ++ codes "\n")))

-- a number stands for the events
abbrev pub IsCount : List Event → ℕ → Type 0
IsCount xs n = n ≡ own_events xs

pub IsCount-prop : (xs : List Event) (n : ℕ) → IsProp (IsCount xs n)
IsCount-prop xs n = hlevel props

-- two numbers do. An event's argument is a number of 32 bits, so their sum is bounded
pub record IsBlockCount (xs : List Event) (blocks instructions : ℕ) : Type 0 where
  pub blocks_are : blocks ≡ own_events xs
  pub instructions_are : instructions ≡ sum_by length_of xs
  pub bounded : instructions ≤ length xs * 2 ^ 32

pub IsBlockCount-prop : (xs : List Event) (blocks instructions : ℕ) → IsProp (IsBlockCount xs blocks instructions)
IsBlockCount-prop xs blocks instructions = hlevel props
