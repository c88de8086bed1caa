use Rattle.std.proofs.Common.{ap, ◌∙◌}
use Rattle.clap.specs.Faults.{is_simple_and_free}
use Rattle.sp_words.proofs.Forms.{demo_is_simple}
use Rattle.sp_words.proofs.read.demo_matched.Goals as goal

pub matched-requires : goal.matched-requires
matched-requires c = ap is_simple_and_free c.demo_command.ensures ∙ demo_is_simple
