use Rattle.std.proofs.Common.{◌≡◌, ap, sym, ◌∙◌}
use Rattle.std.specs.Option.{unwrap_or}
use Rattle.sp_host.specs.Told.{Files, has_file}
use Rattle.sp_host.specs.Memory.{files_of}
use Rattle.sp_host.proofs.Files.{there}
use Rattle.sp_host.proofs.memory.MemoryHostHost.has_file.Goals as goal

pub returns-clause-value : goal.returns-clause-value
returns-clause-value c = λ files is.
    let items = c.args.self.now.files.items in
    let name = c.args.name.now in
    let same : files_of items ≡ files = ap (λ known. unwrap_or known (files_of items)) is in
    c.is_there.ensures ∙ sym (there items name) ∙ ap (λ (known : Files). has_file known name) same
