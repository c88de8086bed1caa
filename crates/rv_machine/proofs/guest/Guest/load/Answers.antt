use Rattle.std.proofs.Common.{◌≡◌, ◌≤◌, ℕ, length, map, string_bytes, ap, subst, ◌∙◌, arith}
use Rattle.std.proofs.lemmas.List.{length-map}
use Rattle.elf_load.specs.Image.{IsImage, ImageFields}
use Rattle.guest_model.specs.Added.{with_area}
use Rattle.guest_model.specs.Space.{Space}
use Rattle.rv_machine.specs.Load.{first_stack, segments_space, stack_area, stack_pointer_of, strings_size}
use Rattle.guest_model.specs.declared.platform.TheConstants.{MOST_STRINGS}
use Rattle.guest_mem.proofs.Begun.{none_written}
use Rattle.rv_machine.proofs.Segments.{IsPlaced, stack_placed}
use Rattle.rv_machine.proofs.Words.{count-le-size, length-stack, machine_whole}
use Rattle.rv_machine.proofs.guest.Guest.load.Goals as goal
use Rattle.rv_machine.proofs.guest.Guest.load.Goals.{After-deref}

pub stack_pointer-pointer-requires : goal.stack_pointer-pointer-requires
stack_pointer-pointer-requires c = omega (arith, count-le-size (map string_bytes c.args.args.now), length-map c.args.args.now string_bytes)

few : (c : After-deref) → strings_size (map string_bytes c.args.args.now) ≤ MOST_STRINGS
few c = omega (arith, c.strings_size-bytes.ensures)

pointer_is : (c : After-deref) → c.stack_pointer-pointer.result ≡ stack_pointer_of (map string_bytes c.args.args.now)
pointer_is c = omega (arith, c.strings_size-bytes.ensures, c.stack_pointer-pointer.ensures, length-map c.args.args.now string_bytes)

bytes_are : (c : After-deref) → c.deref.result.now ≡ first_stack c.args.image.now (map string_bytes c.args.args.now)
bytes_are c = c.deref.ensures.value ∙ c.in_ok-stack.ensures

is_placed : (c : After-deref) → IsPlaced stack_area c.in_ok-segments_space.field-0.space
is_placed c = stack_placed c.args.image.now c.in_ok-segments_space.field-0.space (subst IsImage c.image.view_is c.image.invariant) c.in_ok-segments_space.ensures.space

pub add_area-requires-clause-apart : goal.add_area-requires-clause-apart
add_area-requires-clause-apart c = let known = is_placed c in known.apart

pub add_area-requires-clause-from : goal.add_area-requires-clause-from
add_area-requires-clause-from c = omega (arith, few c, pointer_is c, count-le-size (map string_bytes c.args.args.now))

pub add_area-requires-clause-within : goal.add_area-requires-clause-within
add_area-requires-clause-within c = omega (arith, pointer_is c, ap (length {A = ℕ}) (bytes_are c), length-stack c.args.image.now (map string_bytes c.args.args.now) (few c))

pub add_area-requires-clause-areas : goal.add_area-requires-clause-areas
add_area-requires-clause-areas c = let known = is_placed c in known.areas

pub add_area-requires-clause-pages : goal.add_area-requires-clause-pages
add_area-requires-clause-pages c = let known = is_placed c in known.pages

pub returns : goal.returns
returns c =
    let args = map string_bytes c.args.args.now in
    let before = (goal.at.returns c).After-deref in
    let kept = c.in_ok-add_area.ensures in
    let given = c.in_ok-segments_space.ensures.frames in
    let space =
    kept.space
    ∙ ap (λ (s : Space). with_area s stack_area c.stack_pointer-pointer.result c.deref.result.now) c.in_ok-segments_space.ensures.space
    ∙ ap (λ (a : ℕ). with_area (segments_space c.args.image.now.segments) stack_area a c.deref.result.now) (pointer_is before)
    ∙ ap (with_area (segments_space c.args.image.now.segments) stack_area (stack_pointer_of args)) (bytes_are before) in (
      few before,
      machine_whole c.args.image.now args c.image.inside.entry c.stack_pointer-pointer.result c.add_area.new.self.space c.closed.result (ap (λ (image : ImageFields). image.entry) c.image.view_is) (pointer_is before) space c.closed.ensures,
      kept.frames ∙ given,
    )

pub add_area-requires-clause-unwritten : goal.add_area-requires-clause-unwritten
add_area-requires-clause-unwritten c = none_written c.in_ok-segments_space.field-0.frames c.args.frames c.in_ok-segments_space.ensures.frames
