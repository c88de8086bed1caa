use Rattle.std.proofs.Common.{◌≡◌, ℕ, ◌+◌, ◌*◌, ◌/◌, ◌<◌, ◌∙◌, ap, sym, refl, length, get_or, arith}
use Rattle.std.proofs.lemmas.Bool.{true≢false}
use Rattle.std.proofs.lemmas.Grind.{common_steps}
use Rattle.slot_table.specs.Slots.{is_changed, slot_at}
use Rattle.cow_pages.specs.Laid.{byte_in, table_byte}
use Rattle.cow_pages.proofs.Agree.{named-at, named-where}
use Rattle.cow_pages.proofs.compare.same_listed.Goals as goal

page_of_byte : (page i : ℕ) → i < 4096 → (4096 * page + i) / 4096 ≡ page
page_of_byte page i lt = omega arith

pub returns-then-not-same_page : goal.returns-then-not-same_page
returns-then-not-same_page c =
    let here : get_or c.args.pages.now.items c.loop-k.k 0 ≡ c.index-page.result.now = grind (arith, common_steps) in
    let inside : c.loop-k.k < length c.args.pages.now.items = grind (arith, common_steps) in (
      λ f. absurd (true≢false (sym f)),
      λ h. c.if-not-same_page.ensures.1 (λ i lt. h (4096 * c.index-page.result.now + i) (omega (arith, c.if-page-lt-PAGES.true))
          (named-at c.args.pages.now.items c.loop-k.k ((4096 * c.index-page.result.now + i) / 4096) inside (omega (arith, here, lt)))
          (ap (λ q. is_changed (slot_at c.args.slots.now q)) (page_of_byte c.index-page.result.now i lt) ∙ sym (c.if-not-was_changed.ensures))),
    )

pub returns : goal.returns
returns c = (
  λ _ a lt named none. named-where c.args.pages.now.items (a / 4096) (byte_in c.args.slots.now c.args.pool.now.bytes c.args.table.now a ≡ table_byte c.args.end.now a)
      (λ j less e. c.loop-k.invariant j (omega (arith, less, c.loop-k-test.false, c.len-k-end.ensures)) a lt (sym e) none) named,
  λ _. refl,
)
