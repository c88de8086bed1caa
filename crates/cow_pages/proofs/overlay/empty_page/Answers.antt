use Rattle.std.proofs.Common.{◌≡◌, ◌+◌, ◌==◌, ◌∙◌, ℕ, Bool, ap, cond, refl, sym, arith, false}
use Rattle.std.proofs.Math.ListN.{set}
use Rattle.std.proofs.lemmas.Bool.{cond-false, ne_eqb}
use Rattle.frame_pool.specs.PoolState.{is_given}
use Rattle.slot_table.specs.declared.slot.Slot.TheVariants.{Dropped, Framed}
use Rattle.slot_table.specs.Slots.{is_framed, is_written, slot_at}
use Rattle.cow_pages.proofs.Laid.{Emptying, laid-less}
use Rattle.cow_pages.proofs.SlotMarks.{unframed}
use Rattle.cow_pages.proofs.overlay.empty_page.Goals as goal

emptying : (c : goal.After-give) → Emptying c.args.slots.now c.replace.new.self c.args.pool.now c.give.new.self c.args.page (is_written (slot_at c.args.slots.now c.args.page))
emptying c =
    let was = sym c.replace.ensures.old ∙ c.in-Framed.is in
    record {
      in_slots = omega (arith, c.requires.page, c.requires.laid.len);
      slots_are = c.replace.ensures.new ∙ ap (λ b. set c.args.slots.now c.args.page (Dropped b)) c.was_written-written.ensures;
      given = λ g other. c.give.ensures.given g ∙ cond-false (g == c.in-Framed.frame) false (is_given c.args.pool.now g) (ne_eqb g c.in-Framed.frame (λ e. other (sym c.replace.ensures.old ∙ c.in-Framed.is ∙ ap Framed (sym e))));
      free = c.give.ensures.free ∙ ap (λ s. c.args.pool.now.free + cond {A = ℕ} (is_framed s) 1 0) (sym (sym c.replace.ensures.old ∙ c.in-Framed.is));
      count = c.give.ensures.count;
    }

pub returns-in-Framed-clause-laid : goal.returns-in-Framed-clause-laid
returns-in-Framed-clause-laid c = laid-less _ _ _ _ c.args.page _ c.requires.laid (emptying c)

pub returns-in_default : goal.returns-in_default
returns-in_default c =
    let none : is_framed (slot_at c.args.slots.now c.args.page) ≡ false = ap is_framed (sym c.replace.ensures.old) ∙ unframed c.replace.result c.in_default.not-Framed in
    let e : Emptying c.args.slots.now c.replace.new.self c.args.pool.now c.args.pool.now c.args.page (is_written (slot_at c.args.slots.now c.args.page)) = record {
      in_slots = omega (arith, c.requires.page, c.requires.laid.len);
      slots_are = c.replace.ensures.new ∙ ap (λ b. set c.args.slots.now c.args.page (Dropped b)) c.was_written-written.ensures;
      given = λ g other. refl;
      free = let zero : cond {A = ℕ} (is_framed (slot_at c.args.slots.now c.args.page)) 1 0 ≡ 0 = ap (λ (b : Bool). cond {A = ℕ} b 1 0) none in omega arith;
      count = refl;
    } in
    record {
      laid = laid-less _ _ _ _ c.args.page _ c.requires.laid e;
      slots = e.slots_are;
      bytes = refl;
      free = e.free;
      count = refl;
    }
