use Rattle.std.proofs.Common.{◌≡◌, ℕ, ◌+◌, ◌<◌, get_or, length}
use Rattle.guest_model.specs.Areas.{wrap}
use Rattle.guest_model.specs.Bytes.{byte_at}
use Rattle.guest_mem.proofs.space.Space.number_across.Given as goal

abbrev pub invariant-loop-i : goal.invariant-loop-i
invariant-loop-i l = record {
  len : length l.bytes ≡ 4;
  read : (k : ℕ) → k < l.i → get_or l.bytes k 0 ≡ byte_at l.self.space.bytes (wrap (l.at + k));
}
