use Rattle.std.proofs.Common.{◌≡◌, ℕ, ◌*◌, ◌^◌, ◌&&◌, false, cond, length, get_or, take}
use Rattle.std.specs.Prelude.{not}
use Rattle.cow_pages.specs.Frames.{AddUp}
use Rattle.guest_mem.specs.Sound.{is_cut, no_rights}
use Rattle.guest_mem.proofs.clear.clear_range.Given as goal

abbrev pub invariant-loop-area : goal.invariant-loop-area
invariant-loop-area l = record {
  bytes : (q : ℕ) → get_or l.pages.flat_bytes q 0 ≡ cond (is_cut l.from l.to (take l.area-index l.areas) q) 0 (get_or l.initial.pages.flat_bytes q 0);
  bytes_len : length l.pages.flat_bytes ≡ 2 ^ 32;
  framed : (page : ℕ) → get_or l.pages.frames.framed page false ≡ (not (is_cut l.from l.to (take l.area-index l.areas) (4096 * page)) && get_or l.initial.pages.frames.framed page false);
  framed_len : length l.pages.frames.framed ≡ length l.initial.pages.frames.framed;
  written : l.pages.frames.written ≡ l.initial.pages.frames.written;
  origin : l.pages.origin ≡ l.initial.pages.origin;
  count : l.pages.frames.count ≡ l.initial.pages.frames.count;
  adds_up : AddUp l.initial.pages.frames → AddUp l.pages.frames;
  rights : (page : ℕ) → get_or l.rights page no_rights ≡ cond (is_cut l.from l.to (take l.area-index l.areas) (4096 * page)) no_rights (get_or l.initial.rights page no_rights);
}
