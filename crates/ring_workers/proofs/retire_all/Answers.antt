use Rattle.std.proofs.Common.{◌≡◌, ◌+◌, length, ℕ, ◌∷◌, ◌++◌, [], arith, ap, ◌∙◌, length-append}
use Rattle.std.proofs.lemmas.List.Elements.{All-tail}
use Rattle.slice_ring.specs.Seats.{with_view, IsIdle}
use Rattle.slice_ring.specs.Steps.{takes_back}
use Rattle.ring_workers.proofs.retire_all.Goals as goal

pub loop-seat-preserved : goal.loop-seat-preserved
loop-seat-preserved g c =
    let i = c.loop-seat.invariant in let r = c.retire.ensures in let first = c.args.lead.now in let n : ℕ = length c.loop-seat.yielded in
    let longer : length (c.loop-seat.yielded ++ c.in-Some.seat ∷ []) ≡ n + 1 = length-append c.loop-seat.yielded (c.in-Some.seat ∷ []) in (
      tt,
      tt,
      All-tail (IsIdle c.args.ring.now) c.in-Some.seat _ (rw c.in-Some.ensures.steps.0 at i.2),
      (ap (λ s. s.table) r ∙ i.3.0, ap (λ s. s.view.topic) r ∙ i.3.1),
      r ∙ ap (λ s. with_view s (takes_back s.view)) i.4
          ∙ ap (λ (k : ℕ). with_view first (record first.view { retired = k })) (let e : first.view.retired + n + 1 ≡ first.view.retired + length (c.loop-seat.yielded ++ c.in-Some.seat ∷ []) = omega (arith, longer) in e),
      (let rest = ap length c.in-Some.ensures.steps.0 in omega (arith, longer, rest, i.5)),
    )
