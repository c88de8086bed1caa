use Rattle.std.proofs.Common.{ap, ◌∙◌}
use Rattle.clap.specs.Faults.{is_simple_and_free}
use Rattle.sp_words.proofs.Forms.{view_is_simple}
use Rattle.sp_words.proofs.read.view_matched.Goals as goal

pub matched-requires : goal.matched-requires
matched-requires c = ap is_simple_and_free c.view_command.ensures ∙ view_is_simple
