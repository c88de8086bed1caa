use Rattle.std.proofs.Common.{map, string_bytes}
use Rattle.sp_words.specs.Commands.{run_app}
use Rattle.sp_words.specs.Options.{run_values}
use Rattle.sp_words.proofs.Forms.{run_in_form, run_out_of_form}
use Rattle.sp_words.proofs.read.read_run.Goals as goal

pub returns-in-Ok : goal.returns-in-Ok
returns-in-Ok c = run_in_form string_bytes run_app run_values (map string_bytes c.args.options.now) c.args.words.now c.in-Ok.matches _ c.run_with.result c.in-Ok.ensures c.run_values.ensures c.run_with.ensures

pub returns-in-Err : goal.returns-in-Err
returns-in-Err c = run_out_of_form string_bytes run_app run_values (map string_bytes c.args.options.now) c.args.words.now c.in-Err.fault c.in-Err.ensures
