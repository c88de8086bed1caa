use Rattle.std.proofs.Common.{◌≡◌, sym, ap, subst, ◌∙◌}
use Rattle.std.specs.Prelude.{Some}
use Rattle.boundary_verify.specs.Job.{JobFields}
use Rattle.boundary_verify.specs.declared.job.Boundary.{Boundary}
use Rattle.boundary_verify.specs.declared.job.Boundary.TheVariants.{At}
use Rattle.slice_runner.specs.Turn.{HasSignature}
use Rattle.slice_runner.proofs.hits.signature_of_end.Goals as goal

pub returns-in-At : goal.returns-in-At
returns-in-At c =
    let end : c.args.job.now.end ≡ At c.in-At.state c.in-At.position = sym (ap (λ (j : JobFields). j.end) c.job.view_is) ∙ c.in-At.is in
    subst (λ (b : Boundary). HasSignature b (Some c.of.result)) (sym end) c.of.ensures
