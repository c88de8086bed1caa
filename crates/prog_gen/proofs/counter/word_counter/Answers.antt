use Rattle.std.proofs.Common.{◌++◌, ◌∙◌, ap, subst, List, ℕ}
use Rattle.prog_gen.specs.File.{headers, AddsSome}
use Rattle.prog_gen.proofs.Added.{some_more}
use Rattle.prog_gen.proofs.counter.word_counter.Goals as goal

pub returns : goal.returns
returns c =
    let b0 = c.push_headers.new.bytes.items in
    let b1 = c.push_read.new.bytes.items in
    let b2 = c.push_count.new.bytes.items in
    let b3 = c.push_totals.new.bytes.items in
    let b4 = c.push_values.new.bytes.items in
    let b5 = c.push_finish.new.bytes.items in
    let b6 = c.push_number.new.bytes.items in
    let two = some_more 16 19 b0 b1 b2 c.in_ok-push_read.ensures c.in_ok-push_count.ensures in
    let three = some_more 35 12 b0 b2 b3 two c.in_ok-push_totals.ensures in
    let four = some_more 47 13 b0 b3 b4 three c.in_ok-push_values.ensures in
    let five = some_more 60 8 b0 b4 b5 four c.in_ok-push_finish.ensures in
    let six = some_more 68 16 b0 b5 b6 five c.in_ok-push_number.ensures in
    let at = c.in_ok-push_headers.ensures ∙ ap (λ bytes. bytes ++ headers 452 0x20000 0x2000) c.new-bytes.ensures.items in
    subst (λ (b : List ℕ). AddsSome 84 b b6) at six
