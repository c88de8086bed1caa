use Rattle.std.proofs.Common.{arith}
use Rattle.std.proofs.lemmas.Grind.{common_steps}
use Rattle.std.proofs.lemmas.Bool.{ltb-false}
use Rattle.sp_host.specs.Told.{file_of}
use Rattle.sp_host.proofs.Pieces.{next_front, all_read}
use Rattle.sp_host.proofs.whole.read_piece.Goals as goal

pub returns-clause-bytes : goal.returns-clause-bytes
returns-clause-bytes g c = λ files is front.
    next_front (file_of files c.args.name.now) c.args.bytes.now.items c.extend_from_slice.new.self.items c.read_file.new.buf c.len.result c.in_ok-count.count (grind (arith, common_steps)) front (c.in_ok-count.ensures.bytes files is) c.in_ok-extend_from_slice.ensures.items

pub returns-clause-end : goal.returns-clause-end
returns-clause-end g c = λ files is front none.
    all_read (file_of files c.args.name.now) c.args.bytes.now.items c.extend_from_slice.new.self.items c.read_file.new.buf c.len.result c.in_ok-count.count (grind (arith, common_steps)) front (c.in_ok-count.ensures.bytes files is) (omega (arith, ltb-false 0 c.in_ok-count.count none)) c.in_ok-extend_from_slice.ensures.items
