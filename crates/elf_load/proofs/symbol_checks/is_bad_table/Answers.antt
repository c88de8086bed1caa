use Rattle.std.proofs.Common.{sym, ◌∙◌}
use Rattle.elf_load.proofs.Names.{bad_shape, bad_names, bad_functions}
use Rattle.elf_load.proofs.symbol_checks.is_bad_table.Goals as goal

pub returns-then-is_malformed_table : goal.returns-then-is_malformed_table
returns-then-is_malformed_table c = bad_shape _ _ (sym c.is_malformed_table.ensures ∙ c.if-is_malformed_table.true)

pub returns-then-are_malformed_names : goal.returns-then-are_malformed_names
returns-then-are_malformed_names c =
    bad_names c.args.file.now c.args.table.now c.section-strings.result c.section-strings.ensures
    (sym c.is_malformed_table.ensures ∙ c.if-is_malformed_table.false)
    (sym c.are_malformed_names.ensures ∙ c.if-are_malformed_names.true)

pub returns : goal.returns
returns c =
    bad_functions c.args.file.now c.args.table.now c.section-strings.result c.section-strings.ensures
    (sym c.is_malformed_table.ensures ∙ c.if-is_malformed_table.false)
    (sym c.are_malformed_names.ensures ∙ c.if-are_malformed_names.false)
    c.section_bytes.result.now c.is_any_unnamed.result c.section_bytes.ensures c.is_any_unnamed.ensures
