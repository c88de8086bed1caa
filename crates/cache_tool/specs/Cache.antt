-- A direct-mapped cache: each address belongs to a line, each line to a set, and a set keeps one line.
use Rattle.std.specs.Prelude.{ℕ, ◌+◌, ◌-◌, ◌/◌, ◌%◌, ◌^◌, ◌==◌, Bool, false, if◌then◌else◌, List, [], ◌∷◌, fold, slice_index, slice_index_or, slice_set, Option, Some, None}
use Rattle.std.proofs.Math.ListN.{replicate}
use Rattle.insert_points.specs.declared.call.Event.{Event}
use Rattle.tool_parts.specs.Calls.{is_own}

-- the line that each set keeps, and how many accesses found their line in its set, and how many did not
pub record Cache : Type 0 where
  pub kept : List (Option ℕ)
  pub hits : ℕ
  pub misses : ℕ

abbrev pub empty : ℕ → Cache
empty sets = record { kept = replicate sets None; hits = 0; misses = 0 }

abbrev pub accesses : Cache → ℕ
accesses c = c.hits + c.misses

abbrev pub keeps : Option ℕ → ℕ → Bool
keeps None line = false
keeps (Some kept) line = kept == line

-- the address of the last byte of an access, modulo 2^32; a size of 0 is read as 1
abbrev pub last_byte : ℕ → ℕ → ℕ
last_byte at size = (at + (size - 1)) % 2 ^ 32

-- the lines of the first and of the last byte, or the one line of both
abbrev pub lines_between : ℕ → ℕ → List ℕ
lines_between first last = if first == last then first ∷ [] else first ∷ last ∷ []

-- an event has an address and a size; its lines have so many bytes each
abbrev pub lines_of : ℕ → Event → List ℕ
lines_of bytes e =
    if is_own e
    then lines_between (slice_index e.args 0 / bytes) (last_byte (slice_index e.args 0) (slice_index e.args 1) / bytes)
    else []

module _ (sets : ℕ) where
  -- an access to a line hits where the line's set keeps it; else it misses, and the set keeps it from then on
  abbrev pub access : Cache → ℕ → Cache
  access c line =
      if keeps (slice_index_or c.kept (line % sets) None) line
      then record c { hits = c.hits + 1 }
      else record { kept = slice_set c.kept (line % sets) (Some line); hits = c.hits; misses = c.misses + 1 }

  abbrev pub step : ℕ → Cache → Event → Cache
  step bytes c e = fold access c (lines_of bytes e)

  -- the cache after a list of events, from empty
  abbrev pub simulate : ℕ → List Event → Cache
  simulate bytes xs = fold (step bytes) (empty sets) xs
