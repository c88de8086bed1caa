use Rattle.std.proofs.Common.{sym, ◌∙◌, arith}
use Rattle.elf_load.specs.Symbols.{symbols, nth_symbol, is_unnamed}
use Rattle.elf_load.proofs.Names.{unnamed}
use Rattle.elf_load.proofs.Search.{any_is, not_any_is}
use Rattle.elf_load.proofs.symbol_checks.is_any_unnamed.Goals as goal

pub returns-then-symbol-end : goal.returns-then-symbol-end
unfolding symbols
returns-then-symbol-end c =
    sym (any_is (is_unnamed c.args.names.now) (nth_symbol c.args.file.now c.args.table.now) _ c.loop-k.k c.loop-k-test.true
    (unnamed c.args.names.now c.names_end-end.result c.symbol_at-symbol.result _ c.names_end-end.ensures c.symbol_at-symbol.ensures (sym c.is_function.ensures ∙ c.if-is_function.true) c.if-symbol-end.true))

pub returns : goal.returns
unfolding symbols
returns c =
    sym (not_any_is (is_unnamed c.args.names.now) (nth_symbol c.args.file.now c.args.table.now) _ (λ j lt. c.loop-k.invariant j (omega arith)))
