use Rattle.std.proofs.Common.{◌<◌, ◌-◌, ap, arith, refl, length}
use Rattle.std.proofs.lemmas.List.{get_or_read}
use Rattle.elf_load.specs.Image.{FunctionFields}
use Rattle.ins_views.proofs.Routines.{few_routines, has_last, has_none}
use Rattle.ins_views.proofs.views.routine_in.Goals as goal

pub overflow_cast-result : goal.overflow_cast-result
overflow_cast-result c = omega (arith, few_routines c.args.routines.now c.requires)

pub returns-then-last-start : goal.returns-then-last-start
returns-then-last-start c =
    let routines = c.args.routines.now in
    let count = c.count_started-count.result in
    let within : count - 1 < length routines = omega (arith, c.count_started-count.ensures.within) in
    let start = ap (λ (f : FunctionFields). f.start) c.last.view_is in
    let none = has_none routines c.args.code.now c.args.at count c.requires.rising c.count_started-count.ensures.within c.count_started-count.ensures.parts
    (λ some d. let read = ap (λ (f : FunctionFields). f.start) (get_or_read routines (count - 1) c.index-routines-count.result within c.index-routines-count.is d) in omega (arith, read, start, c.if-last-start.true, c.start.ensures)) in
    rw none refl

pub returns : goal.returns
returns c =
    let routines = c.args.routines.now in
    let count = c.count_started-count.result in
    let last = c.index-routines-count.result in
    let start = ap (λ (f : FunctionFields). f.start) c.last.view_is in
    let read = ap (λ (f : FunctionFields). f.start) c.index-routines-count.is in
    let some = has_last routines c.args.code.now c.args.at count last c.count_started-count.ensures.within (omega arith) c.count_started-count.ensures.parts (omega (arith, read, start, c.if-last-start.false, c.start.ensures)) in
    rw (some, c.count_started-count.ensures.count) refl

pub returns-then-count-eq0 : goal.returns-then-count-eq0
returns-then-count-eq0 c =
    let none = has_none c.args.routines.now c.args.code.now c.args.at c.count_started-count.result c.requires.rising c.count_started-count.ensures.within c.count_started-count.ensures.parts (λ some d. absurd (omega (arith, some, c.if-count-eq0.true))) in
    rw none refl
