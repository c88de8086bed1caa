use Rattle.std.proofs.Common.{rules, arith, refl, sym, subst, ap, ◌∙◌, ◌≡◌, ℕ, ◌+◌, ◌*◌, ◌/◌, ◌%◌, ◌<◌, Some}
use Rattle.slice_ring.specs.Steps.{takes_job}
use Rattle.slice_ring.proofs.Workers.{claims_allowed, kept_at}
use Rattle.slice_ring.proofs.table.SlotTable.exchange_word.Goals as goal

quarter : (n : ℕ) → n % 4 ≡ 1 → n ≡ 4 * (n / 4) + 1
quarter n e = omega arith

pub compare_exchange-requires : goal.compare_exchange-requires
compare_exchange-requires g c = let look = c.requires.look in let q = quarter c.args.ready look.1 in let near = c.requires.near in (
  search rules,
  search rules,
  claims_allowed _ _ _ _ _ _ _ _ c.args.i (c.args.ready / 4) _ _ look.2.0 refl (subst (λ (z : ℕ). c.args.i < z) (sym c.args.self.now.sized.2) near.0) q (ap (λ (z : ℕ). z + 1) q ∙ (omega arith)) c.requires.idle.0 c.requires.idle.1
      (kept_at _ _ _ near.1) look.0 look.2.1 look.2.2,
)

pub returns-clause-won : goal.returns-clause-won
returns-clause-won g c hit = let look = c.requires.look in let q = quarter c.args.ready look.1 in
    let got = (c.compare_exchange.ensures.2 c.args.i (c.args.ready / 4) look.2.0 _ refl q look.2.1 look.2.2 c.requires.seat.1).0 hit in let ticket = got.2.2 in (
      got.2.0,
      record {
        turn = got.2.1;
        view = got.0 ∙ ap (λ t. takes_job t.number t.tag c.args.seat.now.me.0) (sym ticket);
        about = ap (λ t. t.topic) ticket;
        word = ap (λ t. 4 * t.number + 1) ticket ∙ sym q;
        lies = subst (λ (z : ℕ). (g.J.Numbered.ticket got.2.0).number % z ≡ c.args.i) c.args.self.now.sized.1 (ap (λ t. t.number % c.args.self.now.table.shared.table_id.slots) ticket ∙ got.1);
        first = look.2.1 ∙ ap (λ t. Some t.tag.0) (sym ticket);
        second = look.2.2 ∙ ap (λ t. Some t.tag.1) (sym ticket);
      },
    )

pub returns-clause-lost : goal.returns-clause-lost
returns-clause-lost g c miss = let look = c.requires.look in let q = quarter c.args.ready look.1 in
    (c.compare_exchange.ensures.2 c.args.i (c.args.ready / 4) look.2.0 _ refl q look.2.1 look.2.2 c.requires.seat.1).1 miss
