use Rattle.std.proofs.Common.{◌≡◌, ℕ, ◌+◌, ◌-◌, [], length, drop, arith, rules, ap, ◌∙◌, subst}
use Rattle.sp_host.specs.Told.{input_taken}
use Rattle.sp_host.proofs.Told.{input_taken_more}
use borrow.Rule.Slice.PartMut.{put_mid}
use Rattle.syscall_layer.proofs.Filled.{IsTaken, next_taken, all_taken, taken_same, left_after, at_end, no_more}
use Rattle.syscall_layer.proofs.input.fill.Goals as goal

pub returns-then-more-eq0-clause-bytes : goal.returns-then-more-eq0-clause-bytes
returns-then-more-eq0-clause-bytes g c left is =
    let n = c.loop-count.count in
    let buffer = c.loop-count.buffer in
    let new = put_mid n (length buffer - n) buffer c.read_input.new.buf in
    let gives = c.in_ok-more.ensures.bytes _ (left_after (g.H.Host.told c.args.host.now) (g.H.Host.told c.loop-count.host) left n c.loop-count.invariant.same_told is) in
    let taken = next_taken left buffer c.read_input.new.buf n (length buffer - n) c.in_ok-more.more c.loop-count.invariant.within c.in_ok-more.ensures.bound (c.loop-count.invariant.taken left is) gives in
    let none : drop n left ≡ [] = gives.end c.if-more-eq0.true in
    all_taken left new n (search rules) (no_more left n none) (subst (λ (k : ℕ). IsTaken left k new) (omega (arith, c.if-more-eq0.true)) taken)

pub returns-then-more-eq0-clause-told : goal.returns-then-more-eq0-clause-told
returns-then-more-eq0-clause-told g c =
    let old = g.H.Host.told c.args.host.now in
    let now = g.H.Host.told c.loop-count.host in
    let n = c.loop-count.count in
    c.in_ok-more.ensures.told ∙ (ap (input_taken c.in_ok-more.more) c.loop-count.invariant.same_told ∙ (input_taken_more n c.in_ok-more.more old
    ∙ taken_same old (n + c.in_ok-more.more) (length c.args.buffer.now)
    (λ left is. at_end left (n + c.in_ok-more.more) (length c.args.buffer.now)
    (ap (λ (k : ℕ). drop (n + k) left) c.if-more-eq0.true ∙ (ap (λ (k : ℕ). drop k left) (omega arith) ∙ (c.in_ok-more.ensures.bytes _ (left_after old now left n c.loop-count.invariant.same_told is)).end c.if-more-eq0.true))
    (omega (arith, c.if-more-eq0.true, c.loop-count.invariant.within, c.loop-count.invariant.same_size)))))

pub loop-count-preserved : goal.loop-count-preserved
loop-count-preserved g c =
    let n = c.loop-count.count in
    let buffer = c.loop-count.buffer in
    record {
      same_size = search rules;
      within = search rules;
      same_told = c.in_ok-more.ensures.told ∙ (ap (input_taken c.in_ok-more.more) c.loop-count.invariant.same_told ∙ input_taken_more n c.in_ok-more.more (g.H.Host.told c.args.host.now));
      same_faults = c.in_ok-more.ensures.faults ∙ c.loop-count.invariant.same_faults;
      taken = λ left is. next_taken left buffer c.read_input.new.buf n (length buffer - n) c.in_ok-more.more c.loop-count.invariant.within c.in_ok-more.ensures.bound
          (c.loop-count.invariant.taken left is) (c.in_ok-more.ensures.bytes _ (left_after (g.H.Host.told c.args.host.now) (g.H.Host.told c.loop-count.host) left n c.loop-count.invariant.same_told is));
    }
