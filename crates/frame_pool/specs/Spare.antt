-- The frames that were handed out at some time, and are not now.
use Rattle.std.specs.Prelude.{◌≡◌, ℕ, ◌+◌, ◌<◌, Bool, false, List, length, slice_index, slice_index_or}
use Rattle.frame_pool.specs.PoolState.{given_count}

-- the spare frames are those that are not handed out, each once
pub record AreSpare (given : List Bool) (spare : List ℕ) : Type 0 where
  pub adds_up : length spare + given_count given ≡ length given
  pub inside : (k : ℕ) → k < length spare → slice_index spare k < length given
  pub free : (k : ℕ) → k < length spare → slice_index_or given (slice_index spare k) false ≡ false
  pub distinct : (j k : ℕ) → j < length spare → k < length spare → slice_index spare j ≡ slice_index spare k → j ≡ k
