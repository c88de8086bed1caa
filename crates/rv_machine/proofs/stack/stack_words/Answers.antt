use Rattle.std.proofs.Common.{◌<◌, ◌≤◌, ◌++◌, ◌∷◌, [], length, take, map, string_bytes, ap, sym, ◌∙◌, arith}
use Rattle.std.proofs.lemmas.List.{length-map}
use Rattle.elf_load.specs.Image.{ImageFields}
use Rattle.rv_machine.specs.Load.{addresses, auxiliary_vector}
use Rattle.rv_machine.proofs.Words.{count-le-size, size_more, string_size, string_within, addresses_more, words_whole}
use Rattle.rv_machine.proofs.stack.stack_words.Goals as goal

pub overflow_cast-args : goal.overflow_cast-args
overflow_cast-args c = omega (arith, c.requires.few, count-le-size (map string_bytes c.args.args.now), length-map c.args.args.now string_bytes)

pub overflow_cast-at : goal.overflow_cast-at
overflow_cast-at c = omega (arith, string_within c.args.args.now c.loop-arg.arg-index c.arg-item.result c.loop-arg-test.true c.arg-item.is)

pub overflow_add-at : goal.overflow_add-at
overflow_add-at c = omega (arith, string_within c.args.args.now c.loop-arg.arg-index c.arg-item.result c.loop-arg-test.true c.arg-item.is)

pub overflow_add-at-in-loop-arg : goal.overflow_add-at-in-loop-arg
overflow_add-at-in-loop-arg c = omega (arith, string_within c.args.args.now c.loop-arg.arg-index c.arg-item.result c.loop-arg-test.true c.arg-item.is)

pub loop-arg-preserved : goal.loop-arg-preserved
loop-arg-preserved c =
    let strings = map string_bytes c.args.args.now in
    let lt : c.loop-arg.arg-index < length (map string_bytes c.args.args.now) = omega (arith, length-map c.args.args.now string_bytes) in
    let size = string_size c.args.args.now c.loop-arg.arg-index c.arg-item.result c.loop-arg-test.true c.arg-item.is in
    record {
      behind = omega (arith, size, size_more strings c.loop-arg.arg-index lt);
      pushed =
          c.in_ok-push-2.ensures.items
          ∙ ap (λ l. l ++ c.loop-arg.at ∷ []) c.loop-arg.invariant.pushed
          ∙ ap (λ k. length c.args.args.now ∷ (addresses c.args.strings (take c.loop-arg.arg-index strings) ++ k ∷ [])) c.loop-arg.invariant.behind
          ∙ ap (λ l. length c.args.args.now ∷ l) (sym (addresses_more c.args.strings strings c.loop-arg.arg-index lt));
    }

pub returns : goal.returns
returns c =
    let strings = map string_bytes c.args.args.now in
    let done : length (map string_bytes c.args.args.now) ≤ c.loop-arg.arg-index = omega (arith, length-map c.args.args.now string_bytes) in
    c.in_ok-extend_from_slice.ensures.items
    ∙ ap (λ (image : ImageFields). c.loop-arg.words.items ++ (0 ∷ 0 ∷ auxiliary_vector image)) c.image.view_is
    ∙ ap (λ l. l ++ (0 ∷ 0 ∷ auxiliary_vector c.args.image.now)) c.loop-arg.invariant.pushed
    ∙ words_whole c.args.image.now strings (length c.args.args.now) c.loop-arg.arg-index c.args.strings (sym (length-map c.args.args.now string_bytes)) done c.requires.strings
