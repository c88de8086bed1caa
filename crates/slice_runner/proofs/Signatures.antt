-- The signature of a boundary that was reached.
use Rattle.std.proofs.Common.{◌≡◌, ap, ◌∙◌}
use Rattle.guest_model.specs.Play.{Spot}
use Rattle.guest_model.specs.Tests.{SignatureFields, signature_of}
use Rattle.boundary_verify.specs.Job.{boundary_of}
use Rattle.boundary_verify.specs.Path as paths
use Rattle.boundary_verify.specs.declared.job.Boundary.{Boundary}
use Rattle.boundary_verify.specs.declared.job.Boundary.TheVariants.{At, End}
use Rattle.slice_runner.specs.Turn.{IsSignatureOf}

-- where a boundary stands
abbrev spot_or : Spot → paths.Boundary → Spot
spot_or other (paths.At s) = s
spot_or other paths.AtEnd = other

pub same_signature : (end : Boundary) (signature : SignatureFields) (s : Spot) → IsSignatureOf end signature → boundary_of end ≡ paths.At s → signature ≡ signature_of s
same_signature (At state position) signature s is there = is ∙ ap (λ (b : paths.Boundary). signature_of (spot_or s b)) there
same_signature End signature s is there = absurd is
