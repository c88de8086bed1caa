use Rattle.std.proofs.Common.{◌≡◌, drop}
use Rattle.sp_host.specs.Memory.{is_named}
use Rattle.sp_host.proofs.memory.MemoryHost.is_there.Given as goal

abbrev pub invariant-loop-file : goal.invariant-loop-file
invariant-loop-file l = is_named (drop l.file-index l.self.files.items) l.name ≡ is_named l.self.files.items l.name
