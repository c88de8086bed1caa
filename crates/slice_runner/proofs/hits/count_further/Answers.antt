use Rattle.std.proofs.Common.{sym, ap}
use Rattle.guest_model.specs.Tests.{SignatureFields}
use Rattle.slice_runner.proofs.Signatures.{same_signature}
use Rattle.slice_runner.proofs.hits.count_further.Goals as goal

pub returns-then-not-stack-clause-end : goal.returns-then-not-stack-clause-end
returns-then-not-stack-clause-end c =
    (λ no. absurd (cc (no)), λ is. c.if-not-stack.ensures.1 (sym (ap (λ (s : SignatureFields). s.stack) (same_signature c.args.job.now.end c.args.signature.now _ c.requires.signature is))))
