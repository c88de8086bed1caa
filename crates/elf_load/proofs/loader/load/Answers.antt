use Rattle.std.proofs.Common.{inl, inr, refl, ◌∙◌}
use Rattle.elf_load.proofs.Refused.{by_identification, by_header, by_segments, by_symbols, by_none, few_headers}
use Rattle.elf_load.proofs.loader.load.Goals as goal

pub returns-in-Some : goal.returns-in-Some
returns-in-Some c = inr (by_identification c.args.file.now c.in-Some.fault c.in-Some.ensures.first)

pub returns-in-Some-header_fault : goal.returns-in-Some-header_fault
returns-in-Some-header_fault c =
    inr (by_header c.args.file.now c.file_header-header.result c.file_header-header.ensures c.in_default.ensures.first c.in-Some-header_fault.fault c.in-Some-header_fault.ensures.first)

pub segment_fault-requires : goal.segment_fault-requires
segment_fault-requires c =
    few_headers c.args.file.now c.file_header-header.result c.as_slice-headers.result.now c.file_header-header.ensures (c.as_slice-headers.ensures.value ∙ c.program_headers-headers.ensures) c.in_default-header_fault.ensures.few

pub returns-in-Some-segment_fault : goal.returns-in-Some-segment_fault
returns-in-Some-segment_fault c =
    inr (by_segments c.args.file.now c.file_header-header.result c.file_header-header.ensures c.in_default.ensures.first
    c.as_slice-headers.result.now (c.as_slice-headers.ensures.value ∙ c.program_headers-headers.ensures) c.in_default-header_fault.ensures.first
    c.in-Some-segment_fault.fault c.in-Some-segment_fault.ensures)

pub returns-then-are_bad_symbols : goal.returns-then-are_bad_symbols
returns-then-are_bad_symbols c =
    inr (by_symbols c.args.file.now c.file_header-header.result c.file_header-header.ensures c.in_default.ensures.first
    c.as_slice-headers.result.now (c.as_slice-headers.ensures.value ∙ c.program_headers-headers.ensures) c.in_default-header_fault.ensures.first
    c.are_bad_symbols.result c.in_default-segment_fault.ensures c.are_bad_symbols.ensures c.if-are_bad_symbols.true)

pub returns-in-Ok : goal.returns-in-Ok
returns-in-Ok c = (
  by_none c.args.file.now c.file_header-header.result c.file_header-header.ensures c.in_default.ensures.first
      c.as_slice-headers.result.now (c.as_slice-headers.ensures.value ∙ c.program_headers-headers.ensures) c.in_default-header_fault.ensures.first
      c.are_bad_symbols.result c.in_default-segment_fault.ensures c.are_bad_symbols.ensures c.if-are_bad_symbols.false,
  c.in-Ok.ensures,
)

pub returns-in-Err : goal.returns-in-Err
returns-in-Err c = inl (
  by_none c.args.file.now c.file_header-header.result c.file_header-header.ensures c.in_default.ensures.first
      c.as_slice-headers.result.now (c.as_slice-headers.ensures.value ∙ c.program_headers-headers.ensures) c.in_default-header_fault.ensures.first
      c.are_bad_symbols.result c.in_default-segment_fault.ensures c.are_bad_symbols.ensures c.if-are_bad_symbols.false,
  refl,
)
