use Rattle.std.proofs.Common.{◌≡◌, Some, ap, sym, subst, ◌∙◌}
use Rattle.rv_isa.specs.Table.{Fields}
use Rattle.guest_model.specs.Effect.{Effect, stored_by}
use Rattle.guest_mem.specs.Code.{word_at}
use Rattle.guest_mem.specs.Frames.{HasAllFrames}
use Rattle.rv_machine.specs.Guest.{GuestState}
use Rattle.rv_machine.specs.Step.{Gives}
use Rattle.rv_machine.proofs.Frames.{effect_found}
use Rattle.rv_machine.proofs.guest.Guest.step.Goals as goal
use Rattle.rv_machine.proofs.guest.Guest.step.Goals.{Joined-kept_at, in-Some, in-None+in-Ok}

-- the instruction stands at pc, whether it was kept or looked up
stands : (c : Joined-kept_at) → word_at c.args.self.now.machine.space c.args.self.now.machine.pc ≡ Some (Some c.match-kept_at.i)
stands c = elim c.match-kept_at.branch [
  | in-Some w ↦ ap (λ (h : GuestState). word_at h.machine.space h.machine.pc) (sym c.self.view_is) ∙ w.in-Some.ensures ∙ ap (λ (f : Fields). Some (Some f)) (sym w.fields_of-i.ensures ∙ sym w.i-is)
  | in-None+in-Ok w ↦ w.in-Ok.ensures ∙ ap (λ (f : Fields). Some (Some f)) (sym w.i-is)
]

pub carry_out-requires : goal.carry_out-requires
carry_out-requires c =
    let g = c.args.self.now in
    subst (λ (e : Effect). HasAllFrames g.frames (stored_by e)) (effect_found g.machine c.match-kept_at.i (stands (goal.at.carry_out-requires c).Joined-kept_at)) c.requires

pub returns : goal.returns
returns c =
    let g = c.args.self.now in
    let there = effect_found g.machine c.match-kept_at.i (stands (goal.at.returns c).Joined-kept_at) in
    subst (λ (e : Effect). Gives e c.carry_out.result g c.carry_out.new.self) (sym there) c.carry_out.ensures
