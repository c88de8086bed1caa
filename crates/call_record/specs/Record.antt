-- The records of calls: what a call that went on left behind.
use Rattle.std.specs.Prelude.{ℕ, List, length}
use Rattle.std.specs.List.{sum_by}

-- bytes that a call stored in memory
pub record Stored : Type 0 where
  pub at : ℕ
  pub bytes : List ℕ

-- the record of a call that went on: its number, its result, and what it stored in memory, in order
pub record CallRecord : Type 0 where
  pub number : ℕ
  pub answer : ℕ
  pub stored : List Stored

-- how many bytes a call stored, and how many a list of records has
abbrev pub stored_size : CallRecord → ℕ
stored_size entry = sum_by (λ s. length s.bytes) entry.stored

abbrev pub size_of_records : List CallRecord → ℕ
size_of_records entries = sum_by stored_size entries
