-- The areas are added in order of address, below the heap.
use Rattle.std.proofs.Common.{◌≡◌, ℕ, ◌∙◌, ap, true, false, inl, arith}
use Rattle.guest_model.specs.declared.Area.{Area}
use Rattle.guest_mem.specs.Frames.{Frames}
use Rattle.guest_mem.specs.Memory.{free_frames}
use Rattle.guest_mem.proofs.Ascending.{ascending-empty, ascending-added, apart_behind}
use Rattle.guest_mem.proofs.Begun.{none_written}
use Rattle.tests_memory.proofs.space.small.Goals as goal

counted : (f : Frames) (n : ℕ) → f ≡ free_frames n → f.count ≡ n
counted f n e = ap (λ (g : Frames). g.count) e

pub add_area-requires-clause-unwritten : goal.add_area-requires-clause-unwritten
add_area-requires-clause-unwritten c = none_written _ _ c.in_ok-space.ensures.frames

pub add_area-requires-clause-apart : goal.add_area-requires-clause-apart
add_area-requires-clause-apart c =
    let first = ascending-empty c.in_ok-space.space.space 0x20000 c.in_ok-space.ensures.space in
    let area : Area = record { start = 0x10000; end = 0x11000; read = true; write = false; execute = true } in
    apart_behind c.in_ok-space.space.space area 0 1 0 0x20000 first (omega arith)

pub add_area-requires-clause-place : goal.add_area-requires-clause-place
add_area-requires-clause-place c =
    let first = ascending-empty c.in_ok-space.space.space 0x20000 c.in_ok-space.ensures.space in
    inl (omega (arith, first.heap_is))

pub add_area-requires-clause-areas : goal.add_area-requires-clause-areas
add_area-requires-clause-areas c =
    let first = ascending-empty c.in_ok-space.space.space 0x20000 c.in_ok-space.ensures.space in
    omega (arith, first.count)

pub add_area-requires-clause-pages : goal.add_area-requires-clause-pages
add_area-requires-clause-pages c =
    let first = ascending-empty c.in_ok-space.space.space 0x20000 c.in_ok-space.ensures.space in
    omega (arith, first.mapped)

pub add_area-requires-2-clause-unwritten : goal.add_area-requires-2-clause-unwritten
add_area-requires-2-clause-unwritten c = none_written _ _ (c.in_ok-add_area.ensures.frames ∙ c.in_ok-space.ensures.frames)

pub add_area-requires-2-clause-apart : goal.add_area-requires-2-clause-apart
add_area-requires-2-clause-apart c =
    let first = ascending-empty c.in_ok-space.space.space 0x20000 c.in_ok-space.ensures.space in
    let second = ascending-added c.in_ok-space.space.space c.add_area.new.self.space _ _ _ 0 1 0 0x20000 c.in_ok-add_area.ensures.space first (omega arith) (omega arith) in
    let area : Area = record { start = 0x11000; end = 0x13000; read = true; write = true; execute = false } in
    apart_behind c.add_area.new.self.space area 0x11000 2 1 0x20000 second (omega arith)

pub add_area-requires-2-clause-place : goal.add_area-requires-2-clause-place
add_area-requires-2-clause-place c =
    let first = ascending-empty c.in_ok-space.space.space 0x20000 c.in_ok-space.ensures.space in
    let second = ascending-added c.in_ok-space.space.space c.add_area.new.self.space _ _ _ 0 1 0 0x20000 c.in_ok-add_area.ensures.space first (omega arith) (omega arith) in
    inl (omega (arith, second.heap_is))

pub add_area-requires-2-clause-areas : goal.add_area-requires-2-clause-areas
add_area-requires-2-clause-areas c =
    let first = ascending-empty c.in_ok-space.space.space 0x20000 c.in_ok-space.ensures.space in
    let second = ascending-added c.in_ok-space.space.space c.add_area.new.self.space _ _ _ 0 1 0 0x20000 c.in_ok-add_area.ensures.space first (omega arith) (omega arith) in
    omega (arith, second.count)

pub add_area-requires-2-clause-pages : goal.add_area-requires-2-clause-pages
add_area-requires-2-clause-pages c =
    let first = ascending-empty c.in_ok-space.space.space 0x20000 c.in_ok-space.ensures.space in
    let second = ascending-added c.in_ok-space.space.space c.add_area.new.self.space _ _ _ 0 1 0 0x20000 c.in_ok-add_area.ensures.space first (omega arith) (omega arith) in
    omega (arith, second.mapped)

pub returns : goal.returns
returns c = counted _ _ (c.in_ok-add_area-2.ensures.frames ∙ (c.in_ok-add_area.ensures.frames ∙ c.in_ok-space.ensures.frames))
