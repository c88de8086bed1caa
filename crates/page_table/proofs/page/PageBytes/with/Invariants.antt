use Rattle.std.proofs.Common.{◌≡◌, ℕ, ◌-◌, cond, get_or, length}
use Rattle.frame_pool.specs.Bytes.{is_among}
use Rattle.page_table.proofs.page.PageBytes.with.Given as goal

abbrev pub invariant-loop-i : goal.invariant-loop-i
invariant-loop-i l = record {
  copied : (k : ℕ) → get_or l.page k 0 ≡ cond (is_among l.at l.i k) (get_or l.bytes (k - l.at) 0) 0;
  len : length l.page ≡ 4096;
}
