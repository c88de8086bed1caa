-- What a host tells of the outside, each part optionally, and what a call does to it.
use Rattle.std.specs.Prelude.{◌≡◌, ℕ, ◌<◌, ◌≤◌, Bool, List, [], ◌++◌, length, take, drop, max, Option, Some, is_some}
use Rattle.std.specs.Prelude.{Result, Ok, Err}
use Rattle.std.specs.Option.{option_map, unwrap_or}
use Rattle.std.specs.Ordering.{nat_cmp}
use Rattle.std.specs.Cmp.Lexicographic.{slice_cmp}
use Rattle.std.specs.FinMap.{FinMap, get}
use Rattle.sp_host.specs.declared.host.Port.{Port}
use Rattle.sp_host.specs.declared.host.Port.TheVariants.{Out, Err, Report}

-- the bytes of each file, by the bytes of its name
abbrev pub Files : Type 0
Files = FinMap (slice_cmp nat_cmp) (List ℕ)

-- the bytes of a file of this name. One that isn't there reads as empty.
abbrev pub file_of : Files → List ℕ → List ℕ
file_of files name = unwrap_or (get files name) []

-- whether there is a file of this name
abbrev pub has_file : Files → List ℕ → Bool
has_file files name = is_some (get files name)

pub record Told : Type 0 where
  pub files : Option Files
  -- the bytes of the input that are left
  pub input : Option (List ℕ)
  -- the moments that are left, in nanoseconds
  pub moments : Option (List ℕ)
  -- the bytes written to each port
  pub out : Option (List ℕ)
  pub err : Option (List ℕ)
  pub report : Option (List ℕ)

-- these bytes, where told, and then others
abbrev pub appended : Option (List ℕ) → List ℕ → Option (List ℕ)
appended old bytes = option_map (λ xs. xs ++ bytes) old

-- all but the first n, where told
abbrev pub dropped : Option (List ℕ) → ℕ → Option (List ℕ)
dropped old n = option_map (drop n) old

-- the bytes written to a port
abbrev pub written_to : Port → Told → Option (List ℕ)
written_to Out told = told.out
written_to Err told = told.err
written_to Report told = told.report

-- after bytes were written to a port
abbrev pub sent : Port → List ℕ → Told → Told
sent Out bytes told = record told { out = appended told.out bytes }
sent Err bytes told = record told { err = appended told.err bytes }
sent Report bytes told = record told { report = appended told.report bytes }

-- after n bytes of the input were taken
abbrev pub input_taken : ℕ → Told → Told
input_taken n told = record told { input = dropped told.input n }

-- after the first moment was taken
abbrev pub moment_taken : Told → Told
moment_taken told = record told { moments = dropped told.moments 1 }

-- holds of what is told
abbrev pub WhereTold : {T : Type 0} → Option T → (T → Type 0) → Type 0
WhereTold {T} known P = (x : T) → known ≡ Some x → P x

-- A read gave the first n of these bytes, none only at their end.
pub record Gives (bytes : List ℕ) (n : ℕ) (buffer : List ℕ) : Type 0 where
  pub first : take n buffer ≡ take n bytes
  pub within : n ≤ length bytes
  pub end : n ≡ 0 → bytes ≡ []

-- what a read of a file draws: its bytes, or one where it gave none; nothing where it failed
abbrev pub drawn_by : {E : Type 0} → Result ℕ E → ℕ
drawn_by (Ok n) = max n 1
drawn_by (Err _) = 0

-- A beginning of these bytes was written to a port, and not all of them.
pub record PartSent (port : Port) (bytes : List ℕ) (old new : Told) : Type 0 where
  pub count : ℕ
  pub proper : count < length bytes
  pub sends : new ≡ sent port (take count bytes) old
