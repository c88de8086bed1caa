use Rattle.std.proofs.Common.{◌≡◌, drop}
use Rattle.std.specs.Prelude.{find}
use Rattle.ins_views.specs.Memory.{lies_in}
use Rattle.ins_views.proofs.views.Views.code_at.Given as goal

abbrev pub invariant-loop-code : goal.invariant-loop-code
invariant-loop-code l = find (λ c. lies_in c.start c.size l.at) l.self.code ≡ find (λ c. lies_in c.start c.size l.at) (drop l.code-index l.self.code)
