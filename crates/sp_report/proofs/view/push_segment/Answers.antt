use Rattle.std.proofs.Common.{◌≡◌, ◌+◌, ◌-◌, ◌*◌, ◌/◌, ◌∙◌, ◌++◌, ◌==◌, List, ap, append_assoc, arith, length}
use Rattle.std.specs.Prelude.{find}
use Rattle.std.specs.List.{flat_map, range_with_len}
use Rattle.elf_load.specs.Image.{FunctionFields}
use Rattle.ins_views.specs.Memory.{memory_word}
use Rattle.sp_report.specs.View.{first_shown, lines_at, routine_line, segment_text, word_line}
use Rattle.sp_report.proofs.ViewLines.{flat_map_range, same_routines}
use Rattle.sp_report.proofs.view.push_segment.Goals as goal

pub loop-k-preserved : goal.loop-k-preserved
loop-k-preserved c =
    let image = c.args.image.now in
    let s = c.args.segment.now in
    let at : c.first_shown-first.result + 4 * c.loop-k.k ≡ first_shown image s + 4 * c.loop-k.k = ap (λ first. first + 4 * c.loop-k.k) c.first_shown-first.ensures.value in
    let routine = c.routine_at.ensures ∙ ap (λ (fs : List FunctionFields). find (λ f. f.start == (c.first_shown-first.result + 4 * c.loop-k.k)) fs) (same_routines c.args.views.now image c.requires.views) in
    let word = ap (λ w. word_line (c.first_shown-first.result + 4 * c.loop-k.k) w) c.memory_word.ensures in
    let lines = ap (λ a. lines_at image s a) at in
    c.in_ok-push_word.ensures
    ∙ ap (λ xs. c.push_routine.new.text.items ++ xs) word
    ∙ ap (λ xs. xs ++ word_line (c.first_shown-first.result + 4 * c.loop-k.k) (memory_word s (c.first_shown-first.result + 4 * c.loop-k.k))) (c.in_ok-push_routine.ensures ∙ ap (λ r. c.loop-k.text.items ++ routine_line r) routine)
    ∙ append_assoc c.loop-k.text.items _ _
    ∙ ap (λ xs. c.loop-k.text.items ++ xs) lines
    ∙ ap (λ xs. xs ++ lines_at image s (first_shown image s + 4 * c.loop-k.k)) c.loop-k.invariant
    ∙ flat_map_range (λ k. lines_at image s (first_shown image s + 4 * k)) c.args.text.now.items c.loop-k.k

pub returns : goal.returns
unfolding segment_text
returns c =
    let image = c.args.image.now in
    let s = c.args.segment.now in
    let end : c.loop-k.k ≡ c.count_shown-k-end.result = omega (arith, c.loop-k-test.false, c.loop-k.auto.k-end) in
    let count = end ∙ c.count_shown-k-end.ensures.value ∙ ap (λ first. (s.start + length s.bytes - first) / 4) c.first_shown-first.ensures.value in
    c.loop-k.invariant ∙ ap (λ n. c.args.text.now.items ++ flat_map (λ k. lines_at image s (first_shown image s + 4 * k)) (range_with_len 0 n)) count
