-- What holds of the fields of every table of slots.
use Rattle.std.specs.Prelude.{◌*◌, ◌≤◌}
use Rattle.std.specs.Vec.{vec_capacity}
use Rattle.slot_table.specs.Sparse.{IsSparse}
use Rattle.slot_table.specs.declared.table.SlotTable.TheInside.{Inside}

pub record IsKept (t : Inside) : Type 0 where
  pub sparse : IsSparse t.directory.items t.leaves.items
  -- the memory of all leaves was taken
  pub room : 1024 * 1025 ≤ vec_capacity t.leaves
