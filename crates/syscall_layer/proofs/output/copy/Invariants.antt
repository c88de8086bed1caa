use Rattle.std.proofs.Common.{◌≡◌, ℕ, ◌+◌, ◌<◌, get_or, length}
use Rattle.guest_model.specs.Areas.{wrap}
use Rattle.guest_model.specs.Bytes.{byte_at}
use Rattle.syscall_layer.proofs.output.copy.Given as goal

abbrev pub invariant-loop-i : goal.invariant-loop-i
invariant-loop-i l = record {
  len : length l.buffer ≡ length l.initial.buffer;
  copied : (k : ℕ) → k < l.i → get_or l.buffer k 0 ≡ byte_at l.space.space.bytes (wrap (l.at + k));
}
