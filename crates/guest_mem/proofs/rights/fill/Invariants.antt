use Rattle.std.proofs.Common.{◌≡◌, ℕ, ◌&&◌, cond, length, get_or}
use Rattle.std.specs.Prelude.{nat_le, nat_lt}
use Rattle.guest_mem.specs.Sound.{no_rights}
use Rattle.guest_mem.proofs.rights.fill.Given as goal

abbrev pub invariant-loop-page : goal.invariant-loop-page
invariant-loop-page l = record {
  len : length l.table.items ≡ length l.initial.table.items;
  filled : (page : ℕ) → get_or l.table.items page no_rights ≡ cond (nat_le l.from page && nat_lt page l.page) l.rights (get_or l.initial.table.items page no_rights);
}
