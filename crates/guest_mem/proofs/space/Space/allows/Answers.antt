use Rattle.std.proofs.Common.{inl, inr, sym, ◌∙◌, arith}
use Rattle.std.proofs.lemmas.Bool.{cases_Bool}
use Rattle.guest_mem.proofs.Permitted.{first_and_last, in_one_page, first_denied, last_denied}
use Rattle.guest_mem.proofs.space.Space.allows.Goals as goal

pub returns-then-not-allows_page-clause-permitted : goal.returns-then-not-allows_page-clause-permitted
returns-then-not-allows_page-clause-permitted c =
    sym (first_denied c.args.access c.args.self.now.space.areas c.args.at c.args.size c.ranges.at.fits (omega arith) (λ q e. sym c.if-not-allows_page.true ∙ c.allows_page.ensures.permitted q e))

pub returns-then-at-size-clause-permitted : goal.returns-then-at-size-clause-permitted
returns-then-at-size-clause-permitted c =
    sym (in_one_page c.args.access c.args.self.now.space.areas c.args.at c.args.size c.ranges.at.fits (omega arith) (λ q e. sym c.if-not-allows_page.false ∙ c.allows_page.ensures.permitted q e))

pub returns-clause-permitted : goal.returns-clause-permitted
returns-clause-permitted c =
    elim (cases_Bool c.allows_page-2.result) [
      | inl h ↦ h ∙ sym (first_and_last c.args.access c.args.self.now.space.areas c.args.at c.args.size c.ranges.at.fits (omega arith)
          (λ q e. sym c.if-not-allows_page.false ∙ c.allows_page.ensures.permitted q e)
          (λ q e. sym h ∙ c.allows_page-2.ensures.permitted q e))
      | inr h ↦ h ∙ sym (last_denied c.args.access c.args.self.now.space.areas c.args.at c.args.size (omega arith) (λ q e. sym h ∙ c.allows_page-2.ensures.permitted q e))
    ]
