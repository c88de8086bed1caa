use Rattle.std.proofs.Common.{◌≡◌, ℕ, ◌/◌, ◌^◌, ◌&&◌, false, cond, length, get_or}
use Rattle.std.specs.Prelude.{not}
use Rattle.cow_pages.specs.Frames.{AddUp}
use Rattle.guest_model.specs.Maps.{is_in_range}
use Rattle.guest_mem.proofs.clear.drop_pages.Given as goal

abbrev pub invariant-loop-page : goal.invariant-loop-page
invariant-loop-page l = record {
  bytes : (q : ℕ) → get_or l.pages.flat_bytes q 0 ≡ cond (is_in_range l.from l.page (q / 4096)) 0 (get_or l.initial.pages.flat_bytes q 0);
  bytes_len : length l.pages.flat_bytes ≡ 2 ^ 32;
  framed : (page : ℕ) → get_or l.pages.frames.framed page false ≡ (not (is_in_range l.from l.page page) && get_or l.initial.pages.frames.framed page false);
  framed_len : length l.pages.frames.framed ≡ length l.initial.pages.frames.framed;
  written : l.pages.frames.written ≡ l.initial.pages.frames.written;
  origin : l.pages.origin ≡ l.initial.pages.origin;
  count : l.pages.frames.count ≡ l.initial.pages.frames.count;
  adds_up : AddUp l.initial.pages.frames → AddUp l.pages.frames;
}
