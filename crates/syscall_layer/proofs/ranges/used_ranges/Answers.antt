use Rattle.std.proofs.Common.{◌≡◌, ◌<◌, ◌≤◌, ◌∙◌, ℕ, Bool, true, false, ◌==◌, List, length, ap, sym, arith}
use Rattle.std.proofs.lemmas.Bool.Decides.{nat_tests}
use Rattle.guest_model.specs.Range.{Range, total_size}
use Rattle.guest_model.specs.Calls.{argument}
use Rattle.syscall_layer.proofs.Used.{uses, skips, leaves, all_used}
use Rattle.syscall_layer.proofs.ranges.used_ranges.Goals as goal
use Rattle.syscall_layer.proofs.ranges.used_ranges.Goals.{then-range-gt0+then-not-is_full, else-range-gt0, else-range-gt0-via-then-range-gt0+else-not-is_full, else-range-gt0-via-else-range-gt0}

not_full : (n : ℕ) (full : Bool) → full ≡ (n == 8) → n ≤ 8 → full ≡ false → n < 8
not_full n full is fits h = let test : (n == 8) ≡ false = sym is ∙ h in grind (arith, nat_tests)

all_full : (n : ℕ) (full : Bool) → full ≡ (n == 8) → full ≡ true → 8 ≤ n
all_full n full is h = let test : (n == 8) ≡ true = sym is ∙ h in grind (arith, nat_tests)

pub loop-k-preserved : goal.loop-k-preserved
loop-k-preserved c =
    let m = c.args.guest.now.machine in
    let among : c.loop-k.k < argument m 2 = omega (arith, c.reg-k-end.ensures) in
    let is = c.range.view_is ∙ c.range_at-range.ensures in
    let p : Range = record { at = c.range.inside.at; size = c.range.inside.size } in
    elim c.if-range-gt0.branch [
      | then-range-gt0+then-not-is_full w ↦
          uses m c.loop-k.k c.loop-k.used.items c.if-range-gt0.used.items c.loop-k.room c.if-range-gt0.room w.min-size.result p c.loop-k.invariant among is w.if-range-gt0.true
          (not_full (length c.loop-k.used.items) w.is_full.result w.is_full.ensures.value w.is_full.ensures.fits w.if-not-is_full.true) w.min-size.ensures (ap (λ v. v.items) w.used-is ∙ w.push.ensures.items) (omega (arith, w.room-is, w.min-size.ensures))
      | else-range-gt0 w ↦
          let same = ap (λ v. v.items) w.used-is in
          elim w.else-range-gt0.branch [
            | else-range-gt0-via-then-range-gt0+else-not-is_full v ↦ let next = leaves m c.loop-k.k c.loop-k.used.items c.loop-k.room p c.loop-k.invariant among is v.if-range-gt0.true (all_full (length c.loop-k.used.items) v.is_full.result v.is_full.ensures.value v.if-not-is_full.false) in record { is_used = same ∙ next.is_used; is_room = omega (arith, w.room-is, next.is_room, ap (λ (ps : List Range). total_size ps) same) }
            | else-range-gt0-via-else-range-gt0 v ↦ let next = skips m c.loop-k.k c.loop-k.used.items c.loop-k.room p c.loop-k.invariant among is v.if-range-gt0.false in record { is_used = same ∙ next.is_used; is_room = omega (arith, w.room-is, next.is_room, ap (λ (ps : List Range). total_size ps) same) }
          ]
    ]

pub returns : goal.returns
returns c =
    all_used c.args.guest.now.machine c.loop-k.k c.loop-k.used.items c.loop-k.room c.loop-k.invariant (omega (arith, c.reg-k-end.ensures))
