use Rattle.std.proofs.Common.{◌+◌, ◌-◌, sym, ap, ◌∙◌, arith}
use Rattle.std.specs.Prelude.{Option}
use Rattle.std.specs.Option.{option_map_or}
use Rattle.elf_load.specs.declared.fields.ProgramHeader.{ProgramHeader}
use Rattle.elf_load.specs.Elf.{holds_table, table_address}
use Rattle.elf_load.proofs.Found.{no_header, found_first, found_none}
use Rattle.elf_load.proofs.segments.table_address.Goals as goal

pub returns-then-holds_table : goal.returns-then-holds_table
unfolding table_address
returns-then-holds_table c =
    ap (λ (o : Option ProgramHeader). option_map_or (λ header. header.address + (c.args.header.now.program_headers_at - header.offset)) o 0)
    (sym (found_first (holds_table c.args.header.now) c.args.headers.now c.loop-segment.segment-index no_header c.loop-segment-test.true (λ j. c.loop-segment.invariant j no_header) (sym c.holds_table.ensures ∙ c.if-holds_table.true)))

pub returns : goal.returns
unfolding table_address
returns c =
    ap (λ (o : Option ProgramHeader). option_map_or (λ header. header.address + (c.args.header.now.program_headers_at - header.offset)) o 0)
    (sym (found_none (holds_table c.args.header.now) c.args.headers.now no_header (λ j lt. c.loop-segment.invariant j no_header (omega arith))))
