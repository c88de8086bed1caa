-- The files that a guest has open (Linux, openat(2)). A descriptor of one is a number from 3 on; 0, 1 and 2 are the standard
-- input, output and error, which stand in no list.
use Rattle.std.specs.Prelude.{ℕ, ◌+◌, ◌-◌, ◌%◌, ◌^◌, nat_lt, List, [], ◌∷◌, Option, None, Some, replicate, slice_get, slice_set, if◌then◌else◌, refl}
use Rattle.std.specs.Coded.{Coded, coded_ℕ, coded_list, coded_option, coded×, code_by}
use Rattle.std.specs.Option.{option_flatten, option_map}
use Rattle.guest_model.specs.declared.platform.TheConstants.{FIRST_FILE, MOST_FILES}

pub record OpenFile : Type 0 where
  -- the bytes of its name
  pub name : List ℕ
  -- the place of the byte that is read next, modulo 2^64
  pub offset : ℕ

-- for each descriptor from 3 on the file that is open there; None where it is closed
abbrev pub Descriptors : Type 0
Descriptors = List (Option OpenFile)

abbrev pub all_closed : Descriptors
all_closed = replicate MOST_FILES None

-- the file that is open at a descriptor
abbrev pub file_at : Descriptors → ℕ → Option OpenFile
file_at files fd = if nat_lt fd FIRST_FILE then None else option_flatten (slice_get files (fd - FIRST_FILE))

-- with this at a descriptor where a file is open
abbrev pub with_file : Descriptors → ℕ → Option OpenFile → Option OpenFile → Descriptors
with_file files fd None now = files
with_file files fd (Some old) now = slice_set files (fd - FIRST_FILE) now

-- the place of the first that is closed
abbrev pub first_closed : Descriptors → Option ℕ
first_closed [] = None
first_closed (None ∷ files) = Some 0
first_closed (Some file ∷ files) = option_map (λ k. k + 1) (first_closed files)

-- the least descriptor that is closed (openat(2): "the lowest-numbered file descriptor not currently open")
unfoldable pub least_closed : Descriptors → Option ℕ
least_closed files = option_map (λ k. k + FIRST_FILE) (first_closed files)

-- a file of this name is open at a closed descriptor, from its first byte on
abbrev pub opened : Descriptors → ℕ → List ℕ → Descriptors
opened files fd name = slice_set files (fd - FIRST_FILE) (Some (record { name = name; offset = 0 }))

-- it is open at the least one, where one is closed
abbrev pub opened_at : Option ℕ → List ℕ → Descriptors → Descriptors
opened_at None name files = files
opened_at (Some fd) name files = opened files fd name

-- a descriptor is closed, where a file is open there (close(2))
abbrev pub closed : Descriptors → ℕ → Descriptors
closed files fd = with_file files fd (file_at files fd) None

-- the next byte that is read of a file is so many bytes further on
abbrev pub moved_on : ℕ → OpenFile → OpenFile
moved_on by file = record file { offset = (file.offset + by) % 2 ^ 64 }

abbrev pub advanced : Descriptors → ℕ → ℕ → Descriptors
advanced files fd by = with_file files fd (file_at files fd) (option_map (moved_on by) (file_at files fd))

-- how they are stored as plain data
abbrev pub file_code : Coded OpenFile
file_code = code_by (List ℕ × ℕ) (coded× (coded_list coded_ℕ) coded_ℕ) (λ f. (f.name, f.offset)) (λ p. record { name = p.0; offset = p.1 }) (λ _. refl)

abbrev pub descriptors_code : Coded Descriptors
descriptors_code = coded_list (coded_option file_code)
