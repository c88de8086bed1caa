use Rattle.std.proofs.Common.{map, string_bytes}
use Rattle.sp_words.specs.Asked.{demo_with}
use Rattle.sp_words.specs.Commands.{demo_app}
use Rattle.sp_words.proofs.Forms.{one_in_form, one_out_of_form}
use Rattle.sp_words.proofs.read.read_demo.Goals as goal

pub returns-in-Ok : goal.returns-in-Ok
returns-in-Ok c = one_in_form string_bytes demo_app demo_with (map string_bytes c.args.options.now) c.args.words.now _ c.demo_with.result c.in-Ok.ensures c.demo_with.ensures

pub returns-in-Err : goal.returns-in-Err
returns-in-Err c = one_out_of_form string_bytes demo_app demo_with (map string_bytes c.args.options.now) c.args.words.now c.in-Err.fault c.in-Err.ensures
