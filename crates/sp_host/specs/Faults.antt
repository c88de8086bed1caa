-- How often each kind of call of the outside has failed.
use Rattle.std.specs.Prelude.{◌≡◌, ℕ, Result, MatchResult, Option, None, Some}
use Rattle.sp_host.specs.declared.host.Port.{Port}
use Rattle.sp_host.specs.declared.host.Port.TheVariants.{Out, Err, Report}
use Rattle.sp_host.specs.Count.{one_more}

pub record Faults : Type 0 where
  pub file : ℕ
  pub input : ℕ
  pub out : ℕ
  pub err : ℕ
  pub report : ℕ

-- what a call reaches
pub data Source : Type 0 where
  File : Source
  Input : Source
  To : (port : Port) → Source

abbrev pub count_of : Source → Faults → ℕ
count_of File f = f.file
count_of Input f = f.input
count_of (To Out) f = f.out
count_of (To Err) f = f.err
count_of (To Report) f = f.report

-- with another count for this source
abbrev pub with_count : Source → ℕ → Faults → Faults
with_count File n f = record f { file = n }
with_count Input n f = record f { input = n }
with_count (To Out) n f = record f { out = n }
with_count (To Err) n f = record f { err = n }
with_count (To Report) n f = record f { report = n }

-- The count of this source rose by one, and no other changed.
abbrev pub Faulted : Source → Faults → Faults → Type 0
Faulted source old new = new ≡ with_count source (one_more (count_of source old)) old

-- A call failed exactly where the count of its source rose, by one, and no other count changed.
abbrev pub Counts : {T E : Type 0} → Source → Faults → Faults → Result T E → Type 0
Counts source old new result = MatchResult result (λ _. new ≡ old) (λ _. Faulted source old new)

-- The count of this source rose by one and no other changed, or none did.
abbrev pub Caused : Option Source → Faults → Faults → Type 0
Caused None old new = new ≡ old
Caused (Some source) old new = Faulted source old new

-- Of a call whose errors name what they reached: no count changed where it succeeded, and where it
-- failed that of the error's source rose by one, or none did where it has no source.
abbrev pub CausedIn : {T E : Type 0} → (E → Option Source) → Faults → Faults → Result T E → Type 0
CausedIn source_of old new result = MatchResult result (λ _. new ≡ old) (λ e. Caused (source_of e) old new)

abbrev pub no_faults : Faults
no_faults = record { file = 0; input = 0; out = 0; err = 0; report = 0 }
