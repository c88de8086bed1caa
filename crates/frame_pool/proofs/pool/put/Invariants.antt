use Rattle.std.proofs.Common.{◌≡◌, ℕ, ◌-◌, cond, length, get_or, vec_capacity}
use Rattle.frame_pool.specs.Bytes.{is_among}
use Rattle.frame_pool.proofs.pool.put.Given as goal

abbrev pub invariant-loop-i : goal.invariant-loop-i
invariant-loop-i l = record {
  copied : (k : ℕ) → get_or l.bytes.items k 0 ≡ cond (is_among l.from l.i k) (get_or l.source (k - l.from) 0) (get_or l.initial.bytes.items k 0);
  len : length l.bytes.items ≡ length l.initial.bytes.items;
  capacity : vec_capacity l.bytes ≡ vec_capacity l.initial.bytes;
}
