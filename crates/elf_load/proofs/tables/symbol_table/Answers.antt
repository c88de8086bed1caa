use Rattle.std.proofs.Common.{◌≡◌, ◌<◌, ℕ, sym, ap, subst, ◌∙◌, arith, false, eq-eqb}
use Rattle.std.specs.Prelude.{◌==◌, Some}
use Rattle.elf_load.specs.declared.fields.FileHeader.{FileHeader}
use Rattle.elf_load.specs.declared.fields.SectionHeader.{SectionHeader}
use Rattle.elf_load.specs.Header.{section, section_headers, file_header}
use Rattle.elf_load.specs.Symbols.{symbol_table}
use Rattle.elf_load.proofs.Search.{first_is, none_is}
use Rattle.elf_load.proofs.tables.symbol_table.Goals as goal

pub returns-then-found-eq-SYMBOL_TABLE : goal.returns-then-found-eq-SYMBOL_TABLE
unfolding symbol_table section_headers
returns-then-found-eq-SYMBOL_TABLE c =
    let file = c.args.file.now in
    let k = c.loop-k.k in
    let lt : k < c.args.header.now.section_header_count = c.loop-k-test.true in
    let kind : (section file k).kind ≡ 2 = ap (λ (s : SectionHeader). s.kind) (sym c.section-found.ensures) ∙ c.if-found-eq-SYMBOL_TABLE.true in
    ap Some c.section-found.ensures
    ∙ sym (first_is (λ (s : SectionHeader). s.kind == 2) (section file) (file_header file).section_header_count k
    (subst (λ (h : FileHeader). k < h.section_header_count) c.requires.header lt)
    c.loop-k.invariant
    (eq-eqb _ 2 kind))

pub returns : goal.returns
unfolding symbol_table section_headers
returns c =
    let file = c.args.file.now in
    let before : (j : ℕ) → j < c.args.header.now.section_header_count → ((section file j).kind == 2) ≡ false = λ j lt. c.loop-k.invariant j (omega arith) in
    sym (none_is (λ (s : SectionHeader). s.kind == 2) (section file) (file_header file).section_header_count
    (λ j lt. before j (subst (λ (h : FileHeader). j < h.section_header_count) (sym c.requires.header) lt)))
