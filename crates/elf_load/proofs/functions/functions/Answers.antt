use Rattle.std.proofs.Common.{false, sym, ap, ◌∙◌}
use Rattle.std.specs.Prelude.{Option}
use Rattle.std.specs.Option.{option_map_or}
use Rattle.elf_load.specs.declared.fields.SectionHeader.{SectionHeader}
use Rattle.elf_load.specs.Symbols.{is_bad_table, are_bad_symbols}
use Rattle.elf_load.proofs.functions.functions.Goals as goal

pub table_functions-requires-clause-good : goal.table_functions-requires-clause-good
unfolding are_bad_symbols
table_functions-requires-clause-good c =
    ap (λ (o : Option SectionHeader). option_map_or (is_bad_table c.args.file.now) o false) (sym c.in-Some.is ∙ c.requires.table) ∙ c.requires.good
