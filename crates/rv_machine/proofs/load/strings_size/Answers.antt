use Rattle.std.proofs.Common.{◌<◌, length, map, string_bytes, arith}
use Rattle.std.proofs.lemmas.List.{length-map}
use Rattle.rv_machine.proofs.Words.{size_more, string_size}
use Rattle.rv_machine.proofs.load.strings_size.Goals as goal

pub loop-arg-preserved : goal.loop-arg-preserved
loop-arg-preserved c =
    let lt : c.loop-arg.arg-index < length (map string_bytes c.args.args.now) = omega (arith, length-map c.args.args.now string_bytes) in
    omega (arith, size_more (map string_bytes c.args.args.now) c.loop-arg.arg-index lt, string_size c.args.args.now c.loop-arg.arg-index c.arg-item.result c.loop-arg-test.true c.arg-item.is)
