use Rattle.std.proofs.Common.{ap, sym, ◌∙◌}
use Rattle.sp_words.specs.Asked.{run_of_asked}
use Rattle.superpin_top.specs.Due.{strings_of, texts}
use Rattle.superpin_top.proofs.load.load_run.Goals as goal

pub returns-in-Ok-ready-clause-loaded : goal.returns-in-Ok-ready-clause-loaded
returns-in-Ok-ready-clause-loaded g c files files_are =
    let r = run_of_asked c.args.run in
    let loads = c.in-Ok-ready.ensures.loaded r (sym c.in-Ok.ensures ∙ ap texts (sym c.deref.ensures.value)) files files_are in
    record { strings = strings_of r; task_is = loads.0; machine_is = loads.1 }

pub returns-clause-loaded : goal.returns-clause-loaded
returns-clause-loaded g c files files_are =
    c.in-Err.ensures.loaded (run_of_asked c.args.run) (sym c.in-Ok.ensures ∙ ap texts (sym c.deref.ensures.value)) files files_are
