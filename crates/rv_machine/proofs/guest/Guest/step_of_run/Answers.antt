use Rattle.std.proofs.Common.{◌≡◌, ℕ, Some, ap, sym, subst, ◌∙◌}
use Rattle.rv_isa.specs.Table.{Fields}
use Rattle.guest_model.specs.Effect.{Effect, stored_by}
use Rattle.guest_mem.specs.Code.{word_at}
use Rattle.guest_mem.specs.Frames.{HasAllFrames}
use Rattle.rv_machine.specs.Guest.{GuestState}
use Rattle.rv_machine.specs.Step.{Gives}
use Rattle.rv_machine.proofs.Frames.{effect_found}
use Rattle.rv_machine.proofs.guest.Guest.step_of_run.Goals as goal
use Rattle.rv_machine.proofs.guest.Guest.step_of_run.Goals.{After-fields_of-i}

stands : (c : After-fields_of-i) → word_at c.args.self.now.machine.space c.args.self.now.machine.pc ≡ Some (Some c.fields_of-i.result)
stands c =
    ap (λ (a : ℕ). word_at c.args.self.now.machine.space a) (sym c.requires.pc)
    ∙ ap (λ (h : GuestState). word_at h.machine.space c.args.pc.now) (sym c.self.view_is) ∙ c.in-Some.ensures ∙ ap (λ (f : Fields). Some (Some f)) (sym c.fields_of-i.ensures)

pub carry_out-stepped-requires : goal.carry_out-stepped-requires
carry_out-stepped-requires c =
    let g = c.args.self.now in
    subst (λ (e : Effect). HasAllFrames g.frames (stored_by e)) (effect_found g.machine c.fields_of-i.result (stands (goal.at.carry_out-stepped-requires c).After-fields_of-i)) c.requires.frames

pub returns-after-stepped-clause-gives : goal.returns-after-stepped-clause-gives
returns-after-stepped-clause-gives c =
    let g = c.args.self.now in
    let there = effect_found g.machine c.fields_of-i.result (stands (goal.at.returns-after-stepped-clause-gives c).After-fields_of-i) in
    subst (λ (e : Effect). Gives e c.carry_out-stepped.result g c.carry_out-stepped.new.self) (sym there) c.carry_out-stepped.ensures
