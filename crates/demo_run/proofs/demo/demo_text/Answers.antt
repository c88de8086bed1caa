use Rattle.std.proofs.Common.{◌≡◌, length, None, rules, ap, sym, ◌∙◌}
use Rattle.elf_load.specs.Elf.{image_of, refusal_of}
use Rattle.demo_run.proofs.Due.{printed, refused}
use Rattle.demo_run.proofs.demo.demo_text.Goals as goal

pub returns-in-Err-run_all : goal.returns-in-Err-run_all
returns-in-Err-run_all g c =
    let file = c.in-Ok.file.items in
    let same = c.deref.ensures.value in
    let sound : refusal_of file ≡ None = ap refusal_of (sym same) ∙ c.in-Ok-image_of.ensures.0 in
    let is = c.in-Ok-image_of.ensures.1 ∙ ap image_of same in
    refused c.args.n file _ c.in-Err-run_all.refusal c.in-Ok.ensures sound is c.in-Err-run_all.ensures

pub returns-in-Ok-lines_of : goal.returns-in-Ok-lines_of
returns-in-Ok-lines_of g c =
    let file = c.in-Ok.file.items in
    let same = c.deref.ensures.value in
    let sound : refusal_of file ≡ None = ap refusal_of (sym same) ∙ c.in-Ok-image_of.ensures.0 in
    let is = c.in-Ok-image_of.ensures.1 ∙ ap image_of same in
    let size : c.len.result ≡ length file = search rules in
    printed c.args.n c.len.result file _ c.in-Ok-run_all.three c.in-Ok-lines_of.text c.in-Ok.ensures sound is c.in-Ok-run_all.ensures size c.in-Ok-lines_of.ensures
