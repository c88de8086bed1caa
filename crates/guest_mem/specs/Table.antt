-- What may be done in each page: a table that is shared, or one of its own entries.
use Rattle.std.specs.Prelude.{◌^◌, ◌≤◌, ◌==◌, List, length, if◌then◌else◌}
use Rattle.std.specs.Vec.{vec_capacity}
use Rattle.std.specs.Arc.{arc_value}
use Rattle.guest_mem.specs.declared.rights.Rights.{Rights}
use Rattle.guest_mem.specs.declared.rights.RightsTable.TheInside.{Inside}

-- the entries that count: the shared ones where there are none of its own
abbrev pub entries : List Rights → List Rights → List Rights
entries shared own = if length own == 0 then shared else own

abbrev pub entries_of : Inside → List Rights
entries_of t = entries (arc_value t.shared).items t.own.items

pub record IsTable (t : Inside) : Type 0 where
  pub shared_few : length (arc_value t.shared).items ≤ 2 ^ 20
  pub own_few : length t.own.items ≤ 2 ^ 20
  -- there is room for an entry of each page
  pub room : 2 ^ 20 ≤ vec_capacity t.own
