-- What a host in memory has.
use Rattle.std.specs.Prelude.{ℕ, Bool, false, true, List, [], ◌∷◌, map, drop, if◌then◌else◌, nat_eq, Some}
use Rattle.std.specs.Prelude.{Vec, String, string_bytes}
use Rattle.std.specs.Cmp.Lexicographic.{pointwise}
use Rattle.std.specs.FinMap.{from_entries}
use Rattle.std.specs.declared.alloc.Global.{Global}
use Rattle.sp_host.specs.Told.{Told, Files}
use Rattle.sp_host.specs.Faults.{Faults}
use Rattle.sp_host.specs.Plan.{Calls, MemoryState}
use Rattle.sp_host.specs.declared.memory.Meter.{Meter}
use Rattle.sp_host.specs.declared.memory.Tape.{Tape}
use Rattle.sp_host.specs.declared.memory.MemoryHost.{MemoryHost}

-- The files of these names. Of several with one name the first counts.
abbrev pub files_of : List (String Global × Vec ℕ Global) → Files
files_of files = from_entries (map (λ file. (string_bytes file.0, file.1.items)) files)

-- the bytes of the first file of a name, none where no file has it: what that map has there
abbrev pub file_named : List (String Global × Vec ℕ Global) → List ℕ → List ℕ
file_named [] name = []
file_named (file ∷ files) name =
    if pointwise nat_eq (string_bytes file.0) name then file.1.items else file_named files name

-- whether one has this name: whether that map has it
abbrev pub is_named : List (String Global × Vec ℕ Global) → List ℕ → Bool
is_named [] name = false
is_named (file ∷ files) name = if pointwise nat_eq (string_bytes file.0) name then true else is_named files name

-- what a tape has left
abbrev pub tape_left : Tape → List ℕ
tape_left t = drop t.at t.items.items

abbrev pub memory_told : MemoryHost → Told
memory_told h = record {
  files = Some (files_of h.files.items);
  input = Some (tape_left h.input);
  moments = Some (drop h.moments_at h.moments.items);
  out = Some h.out.bytes.items;
  err = Some h.err.bytes.items;
  report = Some h.report.bytes.items;
}

abbrev pub memory_faults : MemoryHost → Faults
memory_faults h = record {
  file = h.file_meter.faults;
  input = h.input_meter.faults;
  out = h.out.meter.faults;
  err = h.err.meter.faults;
  report = h.report.meter.faults;
}

abbrev pub meter_calls : Meter → Calls
meter_calls m = record { planned = m.plan.items; made = m.calls }

abbrev pub memory_of : MemoryHost → MemoryState
memory_of h = record {
  file = meter_calls h.file_meter;
  input = meter_calls h.input_meter;
  out = meter_calls h.out.meter;
  err = meter_calls h.err.meter;
  report = meter_calls h.report.meter;
  most = h.most;
  room = h.room;
}

-- how far its files were asked for
abbrev pub memory_reach : MemoryHost → ℕ
memory_reach h = h.reach

-- how much was drawn from its files
abbrev pub memory_drawn : MemoryHost → ℕ
memory_drawn h = h.drawn
