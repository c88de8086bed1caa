use Rattle.std.proofs.Common.{◌≡◌, List, false, length, map, sym, ap, subst, ◌∙◌}
use Rattle.std.specs.Prelude.{All}
use Rattle.elf_load.specs.declared.fields.ProgramHeader.{ProgramHeader}
use Rattle.elf_load.specs.Elf.{segment_of}
use Rattle.elf_load.specs.Image.{SegmentFields, FunctionFields, IsImage}
use Rattle.elf_load.specs.Symbols.{functions}
use Rattle.elf_load.specs.Tests.{ends_past_file}
use Rattle.elf_load.proofs.Made.{made, image_is}
use Rattle.elf_load.proofs.Passed.{passed, ordered_in_file, addresses_fit}
use Rattle.elf_load.proofs.Refused.{few_headers}
use Rattle.elf_load.proofs.Whole.{whole}
use Rattle.elf_load.proofs.loader.image.Goals as goal

pub table_address-requires : goal.table_address-requires
table_address-requires c =
    addresses_fit (length c.args.file.now) c.args.header.now.entry c.args.headers.now (passed (length c.args.file.now) c.args.header.now.entry c.args.headers.now c.requires.passed)

pub segments-requires : goal.segments-requires
segments-requires c =
    subst (λ (xs : List ProgramHeader). All (λ header. ends_past_file (length c.args.file.now) header ≡ false) xs)
    (sym (c.deref.ensures.value ∙ c.in_ok-ordered.ensures))
    (ordered_in_file (length c.args.file.now) c.args.header.now.entry c.args.headers.now (passed (length c.args.file.now) c.args.header.now.entry c.args.headers.now c.requires.passed))

pub invariant_of-result : goal.invariant_of-result
invariant_of-result c =
    let file = c.args.file.now in
    let header = c.args.header.now in
    let headers = c.args.headers.now in
    subst (λ (fs : List FunctionFields). IsImage (made header c.table_address.result c.in_ok-segments.field-0.items fs)) (sym c.in_ok-functions.ensures)
    (subst (λ (xs : List SegmentFields). IsImage (made header c.table_address.result xs (functions file headers)))
    (sym (c.in_ok-segments.ensures ∙ ap (λ (xs : List ProgramHeader). map (segment_of file) xs) (c.deref.ensures.value ∙ c.in_ok-ordered.ensures)))
    (whole file (length file) header.entry headers (passed (length file) header.entry headers c.requires.passed) (few_headers file header headers c.requires.header c.requires.headers c.requires.few) c.table_address.result header.program_header_count))

pub returns : goal.returns
returns c =
    image_is c.args.file.now c.args.header.now c.args.headers.now _ _ _ c.requires.header c.requires.headers c.table_address.ensures
    (c.in_ok-segments.ensures ∙ ap (λ (xs : List ProgramHeader). map (segment_of c.args.file.now) xs) (c.deref.ensures.value ∙ c.in_ok-ordered.ensures))
    c.in_ok-functions.ensures
