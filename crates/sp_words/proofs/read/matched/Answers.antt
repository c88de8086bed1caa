use Rattle.std.proofs.Common.{map, string_bytes}
use Rattle.clap.specs.Simple.{app_of}
use Rattle.sp_words.proofs.Forms.{unparsed}
use Rattle.sp_words.proofs.read.matched.Goals as goal

pub returns-in-Err : goal.returns-in-Err
returns-in-Err c = unparsed (app_of c.args.command) (map string_bytes c.args.options.now) c.args.fits c.in-Err.fault c.requires c.in-Err.ensures
