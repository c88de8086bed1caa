use Rattle.std.proofs.Common.{◌≡◌, ◌∙◌, ◌^◌, ◌<◌, ◌==◌, ℕ, ap, arith, length, refl, subst, sym}
use Rattle.std.specs.Prelude.{if◌then◌else◌}
use Rattle.std.proofs.lemmas.Bool.Decides.{nat_tests}
use Rattle.std.proofs.lemmas.List.{nil_from_length}
use Rattle.insert_points.specs.Plan.{IsSite, PlanFields, called_at, called_put, site_at, site_with}
use Rattle.insert_points.specs.declared.index.Site.{Site}
use Rattle.insert_points.proofs.Plans.{kept_plan, on_err, plan, put_plan, put_sound, sites_longer, skip_plan}
use Rattle.insert_points.proofs.plan.Plan.put.Goals as goal

pub returns-then-not-has_part-clause-given : goal.returns-then-not-has_part-clause-given
returns-then-not-has_part-clause-given c =
    λ a fits.
    let empty : length c.args.list.now ≡ 0 = grind (arith, nat_tests) in
    let none = ap (λ (p : PlanFields). site_at p.table p.sites c.args.at) (sym c.self.view_is) ∙ c.if-not-has_part.ensures in
    skip_plan c.args.self.now c.args.list.now c.args.at c.args.placing a (nil_from_length c.args.list.now empty) none

pub returns-in_err-start-clause-refused : goal.returns-in_err-start-clause-refused
returns-in_err-start-clause-refused c =
    let p = c.self.inside in
    let same : (a : ℕ) → a < 2 ^ 32 → called_at (plan p.index.table.items p.index.sites.items c.keep.new.self.calls.items) a ≡ called_at c.args.self.now a =
    λ a fits.
    kept_plan p.index.table.items p.index.table.items p.index.sites.items p.index.sites.items p.pool.calls.items c.keep.new.self.calls.items a c.self.invariant.sites c.keep.ensures.kept refl
    ∙ ap (λ (q : PlanFields). called_at q a) c.self.view_is in
    on_err _ same

pub invariant_of-self-in_err-reserve : goal.invariant_of-self-in_err-reserve
invariant_of-self-in_err-reserve c =
    let p = c.self.inside in
    record {
      index = c.reserve.ensures.index;
      sites = c.reserve.ensures.sound (length c.keep.new.self.calls.items) (sites_longer p.pool.calls.items c.keep.new.self.calls.items p.index.sites.items c.keep.ensures.kept c.self.invariant.sites);
    }

pub returns-in_err-reserve-clause-refused : goal.returns-in_err-reserve-clause-refused
returns-in_err-reserve-clause-refused c =
    let p = c.self.inside in
    let same : (a : ℕ) → a < 2 ^ 32 → called_at (plan c.reserve.new.self.table.items c.reserve.new.self.sites.items c.keep.new.self.calls.items) a ≡ called_at c.args.self.now a =
    λ a fits.
    kept_plan p.index.table.items c.reserve.new.self.table.items p.index.sites.items c.reserve.new.self.sites.items p.pool.calls.items c.keep.new.self.calls.items a c.self.invariant.sites c.keep.ensures.kept (c.reserve.ensures.same a)
    ∙ ap (λ (q : PlanFields). called_at q a) c.self.view_is in
    on_err _ same

pub invariant_of-self-2 : goal.invariant_of-self-2
invariant_of-self-2 c =
    let p = c.self.inside in
    let calls = c.keep.new.self.calls.items in
    let longer = c.reserve.ensures.sound (length calls) (sites_longer p.pool.calls.items calls p.index.sites.items c.keep.ensures.kept c.self.invariant.sites) in
    record {
      index = c.set.ensures.index;
      sites = c.set.ensures.sound (length calls) longer (subst (IsSite (length calls)) (sym c.site_with-site.ensures) (put_sound c.in_ok-start.start calls c.args.list.now c.args.placing c.get.result (c.get.ensures.sound (length calls) longer) c.in_ok-start.ensures.place c.requires));
    }

pub returns-clause-given : goal.returns-clause-given
returns-clause-given c =
    λ a fits.
    let p = c.self.inside in
    let n = length c.args.list.now in
    let site = c.site_with-site.ensures ∙ ap (λ (s : Site). site_with c.args.placing c.in_ok-start.start n s) (c.get.ensures.site ∙ c.reserve.ensures.same c.args.at) in
    let set =
    c.set.ensures.sites a fits
    ∙ ap (λ (s : Site). if a == c.args.at then s else site_at c.reserve.new.self.table.items c.reserve.new.self.sites.items a) site
    ∙ ap (λ (s : Site). if a == c.args.at then site_with c.args.placing c.in_ok-start.start n (site_at p.index.table.items p.index.sites.items c.args.at) else s) (c.reserve.ensures.same a) in
    put_plan p.index.table.items c.set.new.self.table.items p.index.sites.items c.set.new.self.sites.items p.pool.calls.items c.keep.new.self.calls.items c.args.list.now c.args.at c.args.placing c.in_ok-start.start a c.self.invariant.sites c.keep.ensures.kept c.in_ok-start.ensures.place c.requires set
    ∙ ap (λ (q : PlanFields). called_put c.args.at c.args.placing c.args.list.now a (called_at q a)) c.self.view_is
