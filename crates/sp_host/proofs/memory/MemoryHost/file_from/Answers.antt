use Rattle.std.proofs.Common.{drop, sym, ap, ◌∙◌}
use Rattle.sp_host.proofs.Files.{named}
use Rattle.sp_host.proofs.memory.MemoryHost.file_from.Goals as goal

pub returns : goal.returns
returns c = c.bytes_from.ensures ∙ ap (drop c.args.at) (c.file.ensures ∙ sym (named c.args.self.now.files.items c.args.name.now))
