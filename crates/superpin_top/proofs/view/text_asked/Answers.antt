use Rattle.std.proofs.Common.{List, ℕ, subst, ◌∙◌}
use Rattle.superpin_top.specs.Due.{view_task}
use Rattle.superpin_top.specs.Top.{TextGives}
use Rattle.superpin_top.proofs.view.text_asked.Goals as goal

pub returns-clause-text : goal.returns-clause-text
returns-clause-text g c files is =
    let read = c.in-Ok.ensures.bytes files is in
    subst (λ (file : List ℕ). TextGives (view_task file) c.file_text.result) (c.deref.ensures.value ∙ read.0) c.file_text.ensures.text
