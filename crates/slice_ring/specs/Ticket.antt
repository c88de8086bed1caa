-- What a job or a piece says of itself.
use Rattle.std.specs.Prelude.{ℕ}

abbrev pub Tag : Type 0
Tag = ℕ × ℕ

pub record Ticket (T : Type 0) : Type 0 where
  pub number : ℕ
  pub tag : Tag
  -- what it is about, the same for all jobs and pieces of a ring
  pub topic : T
