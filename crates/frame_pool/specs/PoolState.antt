-- What callers see of a pool of page frames.
use Rattle.std.specs.Prelude.{ℕ, Bool, false, List, slice_index_or}
use Rattle.std.specs.List.{count_by}

pub record PoolState : Type 0 where
  -- for each frame that was handed out at some time, whether it is handed out now
  pub given : List Bool
  -- the bytes of these frames, one after another
  pub bytes : List ℕ
  -- how many frames are free
  pub free : ℕ
  -- how many frames there are
  pub count : ℕ

-- whether a frame is one of the pool, and is handed out
abbrev pub is_given : PoolState → ℕ → Bool
is_given pool frame = slice_index_or pool.given frame false

-- how many frames are handed out
unfoldable pub given_count : List Bool → ℕ
given_count given = count_by (λ b. b) given
