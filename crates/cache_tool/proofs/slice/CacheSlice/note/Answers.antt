use Rattle.std.proofs.Common.{◌≡◌, ◌∙◌, sym, arith, None, ◌%◌, ◌+◌, ◌<◌, ◌^◌, bit_and, length}
use Rattle.std.proofs.lemmas.List.{get_or_read}
use Rattle.cache_tool.proofs.Powers.{masked}
use Rattle.cache_tool.proofs.Steps.{settled-first, settled-hit, settled-miss}
use Rattle.cache_tool.proofs.slice.CacheSlice.note.Goals as goal

pub returns-in-None-clause-exact : goal.returns-in-None-clause-exact
returns-in-None-clause-exact c = λ sets power mask sized small d same.
    let place : bit_and c.args.line c.args.self.now.set_mask ≡ c.args.line % sets = masked _ _ _ power mask in
    let inside : bit_and c.args.line c.args.self.now.set_mask < length c.args.self.now.touched.items = omega arith in
    let read = rw place at (sym (get_or_read _ _ _ inside c.index.ensures None) ∙ c.in-None.is) in
    rw place (settled-first _ _ _ _ _ d (rw place at inside) (omega arith) read)

pub returns-then-touched-line-clause-exact : goal.returns-then-touched-line-clause-exact
returns-then-touched-line-clause-exact c = λ sets power mask sized small d same.
    let place : bit_and c.args.line c.args.self.now.set_mask ≡ c.args.line % sets = masked _ _ _ power mask in
    let inside : bit_and c.args.line c.args.self.now.set_mask < length c.args.self.now.touched.items = omega arith in
    let read = rw place at (sym (get_or_read _ _ _ inside c.index.ensures None) ∙ c.in-Some.is) in
    let fits : (c.args.self.now.hits + 1) % 2 ^ 64 ≡ c.args.self.now.hits + 1 = omega arith in
    rw fits (settled-hit _ _ _ _ _ d (rw place at inside) (omega arith) c.in-Some.touched read c.if-touched-line.true)

pub returns-else-touched-line-clause-exact : goal.returns-else-touched-line-clause-exact
returns-else-touched-line-clause-exact c = λ sets power mask sized small d same.
    let place : bit_and c.args.line c.args.self.now.set_mask ≡ c.args.line % sets = masked _ _ _ power mask in
    let inside : bit_and c.args.line c.args.self.now.set_mask < length c.args.self.now.touched.items = omega arith in
    let read = rw place at (sym (get_or_read _ _ _ inside c.index.ensures None) ∙ c.in-Some.is) in
    let fits : (c.args.self.now.misses + 1) % 2 ^ 64 ≡ c.args.self.now.misses + 1 = omega arith in
    rw (place, fits) (settled-miss _ _ _ _ _ d (rw place at inside) (omega arith) c.in-Some.touched read c.if-touched-line.false)
