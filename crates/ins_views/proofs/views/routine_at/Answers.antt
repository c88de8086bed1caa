use Rattle.std.proofs.Common.{◌≡◌, ◌-◌, ◌<◌, ◌∙◌, ap, arith, get_or, length, sym}
use Rattle.std.specs.Prelude.{Some}
use Rattle.std.proofs.lemmas.List.{get_or_read}
use Rattle.elf_load.specs.Image.{FunctionFields}
use Rattle.ins_views.proofs.Routines.{find_last, find_no_last}
use Rattle.ins_views.proofs.views.routine_at.Goals as goal

pub returns-then-count-eq0 : goal.returns-then-count-eq0
returns-then-count-eq0 c =
    sym (find_no_last c.args.routines.now c.args.at c.count_started-count.result c.requires.rising c.count_started-count.ensures.within c.count_started-count.ensures.parts
    (λ some d. absurd (omega (arith, some, c.if-count-eq0.true))))

pub returns-then-last-at : goal.returns-then-last-at
returns-then-last-at c =
    let routines = c.args.routines.now in
    let count = c.count_started-count.result in
    let within : count - 1 < length routines = omega (arith, c.count_started-count.ensures.within) in
    let start = ap (λ (f : FunctionFields). f.start) c.last.view_is in
    sym (find_no_last routines c.args.at count c.requires.rising c.count_started-count.ensures.within c.count_started-count.ensures.parts
    (λ some d e.
    let read = ap (λ (f : FunctionFields). f.start) (get_or_read routines (count - 1) c.index-routines-count.result within c.index-routines-count.is d) in
    c.if-last-at.true (omega (arith, read, start, e))))

pub returns : goal.returns
returns c =
    let routines = c.args.routines.now in
    let count = c.count_started-count.result in
    let last = c.index-routines-count.result in
    let start = ap (λ (f : FunctionFields). f.start) c.last.view_is in
    let read = ap (λ (f : FunctionFields). f.start) c.index-routines-count.is in
    ap (λ (f : FunctionFields). Some f) c.index-routines-count.is
    ∙ sym (find_last routines c.args.at count last c.requires.rising c.count_started-count.ensures.within (omega arith) (omega (arith, read, start, c.if-last-at.false)))
