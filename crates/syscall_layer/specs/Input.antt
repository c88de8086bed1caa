-- What filling buffers from the input does.
use Rattle.std.specs.Prelude.{◌≡◌, ℕ, ◌<◌, ◌≤◌, List, length, take}
use Rattle.call_record.specs.Record.{Stored}
use Rattle.sp_host.specs.Told.{Told, WhereTold, input_taken}
use Rattle.guest_model.specs.Call.{filled}
use Rattle.guest_model.specs.Range.{Range, total_size}
use Rattle.syscall_layer.specs.declared.fault.CallFault.{CallFault}
use Rattle.syscall_layer.specs.declared.fault.CallFault.TheVariants.{Unsupported, InputFault, OutputFault, NoMemory}

-- The first n bytes of a buffer are the first bytes of the input left: as many as the buffer holds, or all of them.
pub record Fills (left : List ℕ) (n : ℕ) (buffer : List ℕ) : Type 0 where
  pub bytes : take n buffer ≡ take (length buffer) left
  pub count : n ≡ length (take (length buffer) left)

-- A beginning of the input was taken, shorter than asked for.
pub record IsCutShort (asked : ℕ) (old new : Told) : Type 0 where
  pub count : ℕ
  pub few : count < asked
  pub takes : new ≡ input_taken count old

-- The first bytes of the input fill these ranges in order: as many as the ranges have, or all that is left.
pub record FillsRanges (into : List Range) (told : Told) (count : ℕ) (writes : List Stored) : Type 0 where
  pub bytes : List ℕ
  pub counted : count ≡ length bytes
  pub few : length bytes ≤ total_size into
  pub fills : writes ≡ filled into bytes
  pub taken : WhereTold told.input (λ left. bytes ≡ take (total_size into) left)

-- what was taken before a fault; memory is taken before the input is asked
abbrev pub FaultTakes : CallFault → ℕ → Told → Told → Type 0
FaultTakes InputFault asked old new = IsCutShort asked old new
FaultTakes NoMemory asked old new = new ≡ old
FaultTakes (Unsupported number) asked old new = ⊥
FaultTakes (OutputFault port) asked old new = ⊥
