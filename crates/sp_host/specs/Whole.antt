-- What reading a whole file answers.
use Rattle.std.specs.Prelude.{◌≡◌, ℕ, ◌<◌, ◌≤◌, List, length, take, ◌+◌, Option, None, Some, ⊤}
use Rattle.std.specs.Prelude.{Result, Ok, Err, Vec, vec_len}
use Rattle.std.specs.declared.alloc.Global.{Global}
use Rattle.sp_host.specs.Faults.{Source}
use Rattle.sp_host.specs.Faults.Source.{File}
use Rattle.sp_host.specs.declared.whole.ReadFault.{ReadFault}
use Rattle.sp_host.specs.declared.whole.ReadFault.TheVariants.{FileFault, FileTooLarge, NoMemory}

-- the most bytes that a file may have to be read whole
abbrev pub most_file : ℕ
most_file = 33554432

-- the call that a fault comes from
abbrev pub fault_source : ReadFault → Option Source
fault_source FileFault = Some File
fault_source FileTooLarge = None
fault_source NoMemory = None

-- A file of this size, of which at most so many bytes may be read, can lead to this fault.
abbrev pub FaultFits : ReadFault → ℕ → ℕ → Type 0
FaultFits FileFault most size = ⊤
FaultFits FileTooLarge most size = most < size
FaultFits NoMemory most size = 0 < size

-- the first bytes of a file
pub record IsFront (bytes file : List ℕ) : Type 0 where
  pub within : length bytes ≤ length file
  pub same : bytes ≡ take (length bytes) file

-- How much may be drawn from a file: each of its bytes once, and once that there are no more; and where it was not read,
-- at most so many bytes and one.
abbrev pub drawn_whole : ℕ → Result (Vec ℕ Global) ReadFault → ℕ
drawn_whole most (Ok bytes) = vec_len bytes + 1
drawn_whole most (Err _) = most + 1
