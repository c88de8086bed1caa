use Rattle.std.proofs.Common.{rules, ◌≡◌, ◌∙◌, ◌^◌, ap, sym, arith, length, replicate, None}
use Rattle.std.proofs.Math.Nat.{pow-suc}
use Rattle.std.proofs.lemmas.List.{length-replicate}
use Rattle.std.proofs.lemmas.Nat.{pow_pos}
use Rattle.cache_tool.proofs.Merging.{settled-none}
use Rattle.cache_tool.proofs.Powers.{line_power, same_power, sets_power}
use Rattle.cache_tool.proofs.direct.DirectCacheTool.begin.Goals as goal

pub returns : goal.returns
returns c =
    let none : c.in_ok-touched.touched.items ≡ replicate c.args.self.now.sets None = search rules in
    let sets = sets_power c.args.self.now.sets c.args.self.now.sets_fit in
    let line = line_power c.args.self.now.line c.args.self.now.line_fits in
    let bits : c.ilog2.result ≡ line.0 = same_power c.ilog2.result line.0 (omega (arith, line.1)) (omega (arith, line.1, pow-suc 2 c.ilog2.result)) in
    record {
      few_bits = c.ilog2.ensures.bound;
      line_is = ap (λ n. 2 ^ n) bits ∙ sym line.1;
      mask_is = omega (arith, sets.1, pow_pos sets.0);
      sized = ap length none ∙ length-replicate c.args.self.now.sets None;
      bounded = omega arith;
      exact = λ cache same. settled-none c.args.self.now.sets _ none cache same;
    }
