use Rattle.std.proofs.Common.{◌≡◌, ℕ, ◌+◌, ◌-◌, ◌≤◌, ap, arith, length, subst, take, ◌∙◌}
use denote.Param.Send.{sendable}
use Rattle.slice_ring.specs.Seats.{IsIdle, SeatView}
use Rattle.live_run.proofs.Sent.{job_send}
use Rattle.live_run.proofs.Tags.{all_but_last, all_of_both, all_taken_back}
use Rattle.live_run.proofs.run.run_live.Goals as goal

pub retire-requires-send-J : goal.retire-requires-send-J
retire-requires-send-J g c κs within = search (sendable, job_send)

pub retire_all-requires-send-J : goal.retire_all-requires-send-J
retire_all-requires-send-J g c κs within = search (sendable, job_send)

pub run_crew-result-requires-clause-seats : goal.run_crew-result-requires-clause-seats
run_crew-result-requires-clause-seats g c κs within =
    let enough : 2 ≤ c.args.seats.len = omega (arith, c.requires.seats.0, c.args.seats.ok.0) in
    all_but_last (IsIdle c.args.ring.now) c.args.seats.items c.as_mut_slice.result.now c.args.seats.len (c.as_mut_slice.ensures.value ∙ c.pop.ensures.rest) c.args.seats.ok.0 enough c.requires.seats.1

pub retire_all-requires-clause-seats : goal.retire_all-requires-clause-seats
retire_all-requires-clause-seats g c κs within =
    let enough : 2 ≤ c.args.seats.len = omega (arith, c.requires.seats.0, c.args.seats.ok.0) in
    all_of_both (IsIdle c.args.ring.now) c.run_crew-result.new.seats c.pop.new.self.items c.pop.new.self.len (length c.run_crew-result.new.seats) c.run_crew-result.ensures.seats
    (all_but_last (IsIdle c.args.ring.now) c.args.seats.items c.pop.new.self.items c.args.seats.len c.pop.ensures.rest c.args.seats.ok.0 enough c.requires.seats.1).1

pub returns-clause-retired : goal.returns-clause-retired
returns-clause-retired g c =
    let seats = c.args.seats.items in
    let ys = c.run_crew-result.new.seats in
    let xs = c.pop.new.self.items in
    let are : xs ≡ take (length seats - 1) seats = subst (λ (n : ℕ). xs ≡ take (n - 1) seats) c.args.seats.ok.0 c.pop.ensures.rest in
    let same : length ys ≡ length xs = c.run_crew-result.auto.seats ∙ ap length c.as_mut_slice.ensures.value in
    let own : c.retire.new.lead.view.retired ≡ c.run_crew-result.new.lead.view.retired + 1 = ap (λ (s : SeatView _). s.view.retired) c.retire.ensures in
    all_taken_back ys xs seats c.pop.new.self.len c.args.lead.now.view.retired c.retire.new.lead.view.retired c.retire_all.new.lead.view.retired are c.pop.new.self.ok.0 same c.requires.seats.0 (own ∙ ap (λ (n : ℕ). n + 1) c.run_crew-result.ensures.retired)
    (ap (λ (s : SeatView _). s.view.retired) c.retire_all.ensures)
