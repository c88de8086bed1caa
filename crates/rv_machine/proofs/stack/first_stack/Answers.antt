use Rattle.std.proofs.Common.{◌++◌, map, string_bytes, ap, ◌∙◌}
use Rattle.std.specs.List.{flat_map}
use Rattle.guest_model.specs.Bytes.{low_bytes}
use Rattle.rv_machine.specs.Load.{random_bytes}
use Rattle.rv_machine.proofs.Words.{stack_whole}
use Rattle.rv_machine.proofs.stack.first_stack.Goals as goal

pub returns : goal.returns
returns c =
    let strings = map string_bytes c.args.args.now in
    c.in_ok-extend_from_slice.ensures.items
    ∙ ap (λ l. l ++ random_bytes) c.in_ok-put_strings.ensures
    ∙ stack_whole c.args.image.now strings c.args.strings c.args.pointer c.put_words.new.bytes.len c.in_ok-stack_words.field-0.items c.put_words.new.bytes.items c.resize.new.self.items
    c.requires.few c.requires.strings c.requires.pointer c.in_ok-stack_words.ensures
    (c.in_ok-put_words.ensures ∙ ap (λ l. l ++ flat_map (low_bytes 4) c.deref.result.now) c.new-bytes.ensures.items ∙ ap (flat_map (low_bytes 4)) c.deref.ensures.value)
    c.put_words.new.bytes.ok.0 c.in_ok-resize.ensures.items
