use Rattle.std.proofs.Common.{◌≡◌, ◌+◌, ◌-◌, ◌/◌, sym, ap, ◌∙◌, arith}
use Rattle.elf_load.specs.Symbols.{symbols}
use Rattle.elf_load.proofs.Entries.{entries_from, entry_is, entry_kept, none_left}
use Rattle.elf_load.proofs.functions.entries.Goals as goal

pub loop-k-init : goal.loop-k-init
loop-k-init c = record {
  within = omega arith;
  same = c.new-entries.ensures.empty ∙ sym (none_left c.args.file.now c.args.table.now c.args.headers.now _ _ (omega arith));
}

pub loop-k-preserved-then-is_code : goal.loop-k-preserved-then-is_code
loop-k-preserved-then-is_code c =
    let count = c.args.table.now.size / 16 in
    let k = c.loop-k.k in
    let back : k ≡ k - 1 + 1 = omega arith in
    let within = c.loop-k.invariant.within in
    record {
      within = omega arith;
      same =
          entry_kept c.args.file.now c.args.table.now c.args.headers.now (k - 1) (count - k) (count - (k - 1)) c.symbol_at-symbol.result.value c.symbol_at-symbol.result.name c.loop-k.entries.entries _ (omega arith)
          (entry_is c.args.headers.now c.symbol_at-symbol.result _ c.symbol_at-symbol.ensures (sym c.is_function.ensures ∙ c.if-is_function.true) (sym c.is_code.ensures ∙ c.if-is_code.true))
          (c.loop-k.invariant.same ∙ ap (λ i. entries_from c.args.file.now c.args.table.now c.args.headers.now i (count - k)) back)
          c.in_ok-insert.ensures.entries;
    }

pub returns : goal.returns
unfolding symbols
returns c =
    let k = c.loop-k.k in
    let count = c.args.table.now.size / 16 in
    let none : k ≡ 0 = omega arith in
    let all : count - k ≡ count = omega arith in
    c.loop-k.invariant.same
    ∙ (ap (λ i. entries_from c.args.file.now c.args.table.now c.args.headers.now i (count - k)) none
    ∙ ap (entries_from c.args.file.now c.args.table.now c.args.headers.now 0) all)
