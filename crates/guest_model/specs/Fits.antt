-- Which records a call can have left, whatever the world outside was.
use Rattle.std.specs.Prelude.{◌==◌, Bool, ◌&&◌, ◌||◌, not, true, false, length, nat_le, Option, None, Some}
use Rattle.std.specs.List.{list_all}
use Rattle.call_record.specs.Record.{CallRecord, Stored, stored_size}
use Rattle.guest_model.specs.Calls.{call_number, call_numbered, can_write}
use Rattle.guest_model.specs.Machine.{Machine}
use Rattle.guest_model.specs.declared.platform.TheConstants.{MOST_READ, MOST_USED}
use Rattle.guest_model.specs.declared.system_call.SystemCall.{SystemCall}
use Rattle.guest_model.specs.declared.system_call.SystemCall.TheVariants.{Exit, ExitGroup, Brk, Munmap, Mmap2}

-- whether a call with a row, which may go on, has this number
abbrev pub may_go_on : Option SystemCall → Bool
may_go_on None = false
may_go_on (Some Exit) = false
may_go_on (Some ExitGroup) = false
may_go_on (Some call) = true

-- whether it changes the areas, so that it stores nothing
abbrev pub changes_areas : Option SystemCall → Bool
changes_areas (Some Brk) = true
changes_areas (Some Munmap) = true
changes_areas (Some Mmap2) = true
changes_areas call = false

-- whether the bytes are some, and each may be written
abbrev pub can_store : Machine → Stored → Bool
can_store m s = not (length s.bytes == 0) && can_write m s.at (length s.bytes)

-- whether a record fits the call at which the machine stands
unfoldable pub fits : Machine → CallRecord → Bool
fits m entry =
    (entry.number == call_number m && may_go_on (call_numbered entry.number))
    && ((nat_le (length entry.stored) MOST_USED && nat_le (stored_size entry) MOST_READ)
    && (list_all (can_store m) entry.stored && (not (changes_areas (call_numbered entry.number)) || length entry.stored == 0)))
