use Rattle.frame_pool.proofs.Rules.{fills}
use Rattle.frame_pool.proofs.pool.fill_frame.Goals as goal

pub returns-clause-bytes : goal.returns-clause-bytes
returns-clause-bytes c = fills c.args.bytes.now.items c.put.new.bytes.items c.args.source.now c.args.index c.requires.len c.put.ensures.bytes
