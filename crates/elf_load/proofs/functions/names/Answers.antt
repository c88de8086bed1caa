use Rattle.std.proofs.Common.{◌≡◌, ◌<◌, false, length, sym, ap, subst, ◌∙◌}
use Rattle.elf_load.specs.declared.fields.FileHeader.{FileHeader}
use Rattle.elf_load.specs.declared.fields.SectionHeader.{SectionHeader}
use Rattle.elf_load.specs.Symbols.{names, section_bytes, section_ends_past_file}
use Rattle.elf_load.proofs.Names.{linked_below, names_in_file}
use Rattle.elf_load.proofs.functions.names.Goals as goal

pub section-requires-clause-index : goal.section-requires-clause-index
section-requires-clause-index c =
    subst (λ (h : FileHeader). c.args.table.now.link < h.section_header_count) (sym c.requires.header) (linked_below c.args.file.now c.args.table.now c.requires.good)

pub section_bytes-requires : goal.section_bytes-requires
section_bytes-requires c =
    subst (λ (s : SectionHeader). section_ends_past_file (length c.args.file.now) s ≡ false) (sym c.section.ensures) (names_in_file c.args.file.now c.args.table.now c.requires.good)

pub returns : goal.returns
unfolding names
returns c = c.section_bytes.ensures ∙ ap (section_bytes c.args.file.now) c.section.ensures
