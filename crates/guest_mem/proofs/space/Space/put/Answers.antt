use Rattle.std.proofs.Common.{length}
use Rattle.guest_model.specs.declared.Access.TheVariants.{Write}
use Rattle.guest_mem.proofs.Permitted.{range_end, range_below_permitted}
use Rattle.guest_mem.proofs.space.Space.put.Goals as goal

pub store_bytes-requires-clause-end : goal.store_bytes-requires-clause-end
store_bytes-requires-clause-end c = range_end Write c.args.self.now.space.areas c.args.at (length c.args.bytes.now) c.requires.writable

pub store_bytes-requires-clause-writable : goal.store_bytes-requires-clause-writable
store_bytes-requires-clause-writable c = λ i lt. range_below_permitted Write c.args.self.now.space.areas c.args.at (length c.args.bytes.now) i c.requires.writable lt
