-- What holds of the fields of all pages.
use Rattle.std.specs.Prelude.{◌≡◌, ℕ, ◌/◌, ◌^◌, ◌<◌, false}
use Rattle.std.specs.Arc.{arc_value}
use Rattle.slot_table.specs.Slots.{is_changed, is_framed, is_written, marks_by, slot_at}
use Rattle.cow_pages.specs.Contents.{Contents, flat}
use Rattle.cow_pages.specs.Laid.{IsLaid, byte_in, table_byte}
use Rattle.cow_pages.specs.Marks.{count_marked}
use Rattle.cow_pages.specs.declared.pages.Pages.TheInside.{Inside}

-- what callers see of the fields
abbrev pub contents_of : Inside → Contents
contents_of p = record {
  flat_bytes = flat (byte_in p.slots p.pool.bytes (arc_value p.base));
  origin = flat (table_byte (arc_value p.origin));
  changed = marks_by is_changed p.slots;
  frames = record { framed = marks_by is_framed p.slots; written = marks_by is_written p.slots; free = p.pool.free; count = p.pool.count };
}

pub record IsKept (p : Inside) : Type 0 where
  pub laid : IsLaid p.slots p.pool
  -- the bytes of a page that was not changed are those that it had at the last freeze or fork
  pub since : (a : ℕ) → a < 2 ^ 32 → is_changed (slot_at p.slots (a / 4096)) ≡ false → table_byte (arc_value p.base) a ≡ table_byte (arc_value p.origin) a
  pub written_is : p.written ≡ count_marked (marks_by is_written p.slots)
