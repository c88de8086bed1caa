-- The routine of an address, as tools print it.
use Rattle.std.specs.Prelude.{ℕ, List, codes, slice_get, Option, None, Some, option_and_then}
use Rattle.elf_load.specs.Image.{FunctionFields}
use Rattle.ins_views.specs.Views.{ViewFields, routine_of}
use Rattle.sp_report.specs.View.{shown_name}

-- the name of a routine, or `-` where there is none
abbrev pub name_shown : Option FunctionFields → List ℕ
name_shown None = codes "-"
name_shown (Some f) = shown_name f.name

-- that of the routine in which an address lies
unfoldable pub routine_shown : ViewFields → ℕ → List ℕ
routine_shown views a = name_shown (option_and_then (slice_get views.routines) (routine_of views a))
