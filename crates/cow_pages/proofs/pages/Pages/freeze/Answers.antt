use Rattle.std.proofs.Common.{◌≡◌, ℕ, ◌<◌, ◌^◌, ◌∙◌, ap, refl, sym, arith}
use Rattle.std.specs.Arc.{arc_value}
use Rattle.slot_table.specs.Slots.{is_framed, is_written}
use Rattle.cow_pages.specs.Contents.{flat}
use Rattle.cow_pages.specs.Laid.{byte_in, table_byte}
use Rattle.cow_pages.proofs.Agree.{agree-outside}
use Rattle.cow_pages.proofs.Flat.{flat-same}
use Rattle.cow_pages.proofs.Fresh.{fresh-laid, fresh-contents}
use Rattle.cow_pages.proofs.SlotMarks.{fresh-count}
use Rattle.cow_pages.proofs.pages.Pages.freeze.Goals as goal

-- the new table holds what the pages read as
as_read : (c : goal.After-self-1) → (a : ℕ) → a < 2 ^ 32 → table_byte (arc_value c.in_ok-table-2.table) a ≡ byte_in c.self.inside.slots c.self.inside.pool.bytes (arc_value c.self.inside.base) a
as_read c a lt =
    ap (λ t. table_byte t a) c.in_ok-table-2.ensures.ok ∙ c.in_ok-table.ensures.table a lt ∙ ap (λ t. byte_in c.self.inside.slots c.self.inside.pool.bytes t a) c.deref.ensures

all : (c : goal.After-self-1) → flat (table_byte (arc_value c.in_ok-table-2.table)) ≡ c.args.self.now.flat_bytes
all c =
    flat-same (byte_in c.self.inside.slots c.self.inside.pool.bytes (arc_value c.self.inside.base)) (table_byte (arc_value c.in_ok-table-2.table)) (as_read c) ∙ ap (λ v. v.flat_bytes) c.self.view_is

pub invariant_of-self : goal.invariant_of-self
invariant_of-self c = record {
  laid = fresh-laid c.clear.new.self c.give_all.new.self c.clear.ensures (c.give_all.ensures.free ∙ sym c.give_all.ensures.count);
  since = λ a _ _. ap (λ t. table_byte t a) (c.in_ok-base.ensures ∙ sym c.in_ok-origin.ensures);
  written_is = sym (fresh-count is_written c.clear.new.self refl c.clear.ensures);
}

pub returns-clause-shared : goal.returns-clause-shared
returns-clause-shared c =
    let bytes_are = all c in
    let changed_are = c.in_ok-table.ensures.changed ∙ ap (λ v. v.changed) c.self.view_is in
    cc

pub returns-clause-agree : goal.returns-clause-agree
returns-clause-agree c =
    agree-outside c.self.inside.slots c.self.inside.pool.bytes (arc_value c.self.inside.base) (arc_value c.self.inside.origin) (arc_value c.in_ok-table-2.table) _ c.args.self.now.origin c.in_ok-table.ensures.changed (ap (λ v. v.origin) c.self.view_is) c.self.invariant.since (as_read c)

pub returns-clause-pages : goal.returns-clause-pages
returns-clause-pages c = fresh-contents c.clear.new.self c.give_all.new.self.bytes (arc_value c.in_ok-base.base) (arc_value c.in_ok-origin.origin) (arc_value c.in_ok-table-2.table) c.args.self.now.flat_bytes c.give_all.new.self.free c.give_all.new.self.count c.args.self.now.frames.count
    c.clear.ensures c.in_ok-base.ensures c.in_ok-origin.ensures (all c) (c.give_all.ensures.free ∙ ap (λ v. v.frames.count) c.self.view_is) (c.give_all.ensures.count ∙ ap (λ v. v.frames.count) c.self.view_is)

pub returns-clause-adds_up : goal.returns-clause-adds_up
returns-clause-adds_up c = omega (arith, fresh-count is_framed c.clear.new.self refl c.clear.ensures, c.give_all.ensures.free, c.give_all.ensures.count)
