use Rattle.std.proofs.Common.{◌<◌, ◌+◌, ◌*◌, ◌∙◌, suc, List, ℕ, drop, take, ap, subst, arith}
use Rattle.std.specs.List.{flat_map}
use Rattle.std.proofs.lemmas.Result.{err_from_is_err_and}
use Rattle.sp_host.specs.Told.{Told, sent, PartSent}
use Rattle.sp_host.proofs.Told.{sent_more}
use Rattle.guest_model.specs.Areas.{is_range_permitted}
use Rattle.guest_model.specs.Bytes.{bytes_at}
use Rattle.guest_model.specs.Calls.{argument, can_read, range_at, range_bytes, array_of}
use Rattle.guest_model.specs.Range.{Range}
use Rattle.guest_model.specs.declared.Access.TheVariants.{Read}
use Rattle.guest_mem.specs.Memory.{Memory}
use Rattle.syscall_layer.proofs.Arrays.{all_at, bytes_more, bytes_whole, take_ranges}
use Rattle.syscall_layer.proofs.Sending.{part_between}
use Rattle.syscall_layer.proofs.output.send_array.Goals as goal

pub send-requires : goal.send-requires
send-requires g c =
    let m = c.args.guest.now.machine in
    let among : c.loop-k.k < argument m 2 = omega (arith, c.reg-k-end.ensures) in
    record {
      readable =
          ap (λ (s : Memory). is_range_permitted Read s.space.areas c.range.inside.at c.range.inside.size) c.space.ensures
          ∙ (ap (λ (p : Range). can_read m p.at p.size) (c.range.view_is ∙ c.range_at-range.ensures) ∙ all_at m (λ p. can_read m p.at p.size) c.loop-k.k c.requires.readable among);
    }

pub returns-in_err-send-clause-told : goal.returns-in_err-send-clause-told
returns-in_err-send-clause-told g c =
    let m = c.args.guest.now.machine in
    let among : c.loop-k.k < argument m 2 = omega (arith, c.reg-k-end.ensures) in
    let bytes =
    ap (λ (s : Memory). bytes_at s.space.bytes c.range.inside.at c.range.inside.size) c.space.ensures
    ∙ ap (range_bytes m) (c.range.view_is ∙ c.range_at-range.ensures) in
    let old = g.H.Host.told c.args.host.now in
    let new = g.H.Host.told c.send.new.host in
    let first = flat_map (range_bytes m) (take c.loop-k.k (array_of m)) in
    let middle = range_bytes m (range_at m (argument m 1 + 8 * c.loop-k.k)) in
    let last = flat_map (range_bytes m) (drop (suc c.loop-k.k) (array_of m)) in
    let part : PartSent c.args.port middle (sent c.args.port first old) new =
    subst (λ (t : Told). PartSent c.args.port middle t new) {y = sent c.args.port first old} c.loop-k.invariant.same_told
    (subst (λ (xs : List ℕ). PartSent c.args.port xs (g.H.Host.told c.loop-k.host) new) {y = middle} bytes c.in_err-send.ensures.told) in
    let p = err_from_is_err_and c.from_residual.result c.from_residual.ensures.1 in
    rw p.1 (subst (λ (xs : List ℕ). PartSent c.args.port xs old new) (bytes_whole m c.loop-k.k among) (part_between c.args.port first middle last old new part))

pub loop-k-preserved : goal.loop-k-preserved
loop-k-preserved g c =
    let m = c.args.guest.now.machine in
    let among : c.loop-k.k < argument m 2 = omega (arith, c.reg-k-end.ensures) in
    let bytes =
    ap (λ (s : Memory). bytes_at s.space.bytes c.range.inside.at c.range.inside.size) c.space.ensures
    ∙ ap (range_bytes m) (c.range.view_is ∙ c.range_at-range.ensures) in
    let first = flat_map (range_bytes m) (take c.loop-k.k (array_of m)) in
    let middle = range_bytes m (range_at m (argument m 1 + 8 * c.loop-k.k)) in
    record {
      same_told =
          c.in_ok-send.ensures.told
          ∙ ap (λ (xs : List ℕ). sent c.args.port xs (g.H.Host.told c.loop-k.host)) bytes
          ∙ ap (sent c.args.port middle) {y = sent c.args.port first (g.H.Host.told c.args.host.now)} c.loop-k.invariant.same_told
          ∙ sent_more c.args.port first middle (g.H.Host.told c.args.host.now)
          ∙ ap (λ (xs : List ℕ). sent c.args.port xs (g.H.Host.told c.args.host.now)) (bytes_more m c.loop-k.k among);
      same_faults = c.in_ok-send.ensures.faults ∙ c.loop-k.invariant.same_faults;
    }

pub returns-clause-told : goal.returns-clause-told
returns-clause-told g c =
    let m = c.args.guest.now.machine in
    c.loop-k.invariant.same_told
    ∙ ap (λ (ps : List Range). sent c.args.port (flat_map (range_bytes m) ps) (g.H.Host.told c.args.host.now)) (take_ranges m c.loop-k.k (omega (arith, c.reg-k-end.ensures)))
