use Rattle.std.proofs.Common.{◌≡◌, ◌<◌, ◌+◌, ◌*◌, ap, ◌∙◌, arith, length, map}
use Rattle.std.specs.List.{range_with_len}
use Rattle.std.proofs.lemmas.List.FromFn.{map-range_with_len_more, length-map-range_with_len}
use Rattle.elf_load.specs.declared.fields.FileHeader.{FileHeader}
use Rattle.elf_load.specs.Header.{program_header_at, nth_program_header, program_headers}
use Rattle.elf_load.proofs.tables.program_headers.Goals as goal

pub push-requires : goal.push-requires
push-requires c =
    let same : length c.loop-k.headers.items ≡ c.loop-k.k = ap length c.loop-k.invariant ∙ length-map-range_with_len (nth_program_header c.args.file.now) 0 c.loop-k.k in
    let below : length c.loop-k.headers.items < 32 = omega (arith, same, c.requires.few, c.loop-k-test.true) in
    (omega arith, below)

pub loop-k-preserved : goal.loop-k-preserved
loop-k-preserved c =
    let more = map-range_with_len_more (nth_program_header c.args.file.now) 0 c.loop-k.k c.loop-k.k (omega arith) in
    let at = ap (λ (h : FileHeader). program_header_at c.args.file.now (h.program_headers_at + 32 * c.loop-k.k)) c.requires.header in
    cc (c.push.ensures.items)

pub returns : goal.returns
unfolding program_headers
returns c =
    let k = c.loop-k.k in
    let end : k ≡ c.args.header.now.program_header_count = omega arith in
    c.loop-k.invariant
    ∙ (ap (λ n. map (nth_program_header c.args.file.now) (range_with_len 0 n)) end
    ∙ ap (λ (h : FileHeader). map (nth_program_header c.args.file.now) (range_with_len 0 h.program_header_count)) c.requires.header)
