use Rattle.std.proofs.Common.{◌≡◌, ℕ, ◌-◌, ◌∙◌, false, get_or, replicate, sym, arith, inl, inr}
use Rattle.std.proofs.lemmas.Bool.{cases_lt, cond-false}
use Rattle.std.proofs.lemmas.Bool.Decides.{nat_tests}
use Rattle.std.proofs.lemmas.List.{get_or-replicate, get_or_past, length-replicate}
use Rattle.frame_pool.specs.Bytes.{is_among}
use Rattle.page_table.proofs.page.PageBytes.with.Goals as goal

zero_at : (n k : ℕ) → get_or {A = ℕ} (replicate n 0) k 0 ≡ 0
zero_at n k = elim (cases_lt k n) [
  | inl lt ↦ get_or-replicate n k 0 0 lt
  | inr ge ↦ get_or_past (replicate n 0) k 0 (omega (arith, length-replicate {A = ℕ} n 0))
]

none : (a q : ℕ) → is_among a 0 q ≡ false
none a q = grind (arith, nat_tests)

pub loop-i-init : goal.loop-i-init
loop-i-init c = record {
  copied = λ k. zero_at 4096 k ∙ sym (cond-false (is_among c.args.at 0 k) (get_or c.args.bytes.now (k - c.args.at) 0) 0 (none c.args.at k));
  len = length-replicate {A = ℕ} 4096 0;
}
