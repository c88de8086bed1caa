use Rattle.std.proofs.Common.{◌≡◌, List, ℕ, map, ap, subst, ◌∙◌}
use Rattle.std.specs.Prelude.{IfOk}
use Rattle.elf_load.specs.Image.{FunctionFields}
use Rattle.elf_load.specs.Symbols.{names, table_functions, function_named}
use Rattle.elf_load.proofs.Names.{table_in_file}
use Rattle.elf_load.proofs.functions.table_functions.Goals as goal

pub entries-requires : goal.entries-requires
entries-requires c = table_in_file c.args.file.now c.args.table.now c.requires.good

pub returns : goal.returns
unfolding table_functions
returns c =
    let bytes = names c.args.file.now c.args.table.now in
    subst (λ (xs : List FunctionFields). IfOk c.named.result (λ functions. functions.items ≡ xs))
    (ap (λ (b : List ℕ). map (function_named b) c.deref.result.now) (c.in_ok-names.ensures ∙ c.names.ensures)
    ∙ ap (map (function_named bytes)) (c.deref.ensures.value ∙ (c.in_ok-entries-2.ensures ∙ c.in_ok-entries.ensures)))
    c.named.ensures
