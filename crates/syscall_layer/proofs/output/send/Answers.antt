use Rattle.std.proofs.Common.{◌≡◌, ◌+◌, ◌∙◌, ap, subst, List, ℕ, length, length-append, length-drop, take, drop, arith}
use Rattle.std.proofs.lemmas.List.{length-take-le}
use Rattle.std.proofs.lemmas.Result.{err_from_is_err_and}
use Rattle.sp_host.specs.Told.{Told, sent, PartSent}
use Rattle.guest_model.specs.Bytes.{bytes_at}
use Rattle.guest_model.specs.declared.Access.TheVariants.{Read}
use Rattle.guest_mem.proofs.Permitted.{range_end}
use Rattle.syscall_layer.proofs.Sending.{sent_bytes, part_behind, length_bytes}
use Rattle.syscall_layer.proofs.output.send.Goals as goal

pub overflow_add-at : goal.overflow_add-at
overflow_add-at g c =
    let end = range_end Read c.args.space.now.space.areas c.args.at c.args.len c.requires.readable in
    omega (arith, end)

pub copy-requires : goal.copy-requires
copy-requires g c =
    let end = range_end Read c.args.space.now.space.areas c.args.at c.args.len c.requires.readable in
    let size : length (take c.min-size.result c.loop-done.buffer) ≡ c.min-size.result = length-take-le c.min-size.result c.loop-done.buffer (omega arith) in
    omega (arith, end, size)

pub returns-in_err-write_whole-clause-told : goal.returns-in_err-write_whole-clause-told
returns-in_err-write_whole-clause-told g c =
    let size : length (take c.min-size.result c.loop-done.buffer) ≡ c.min-size.result = length-take-le c.min-size.result c.loop-done.buffer (omega arith) in
    let m = c.args.space.now.space.bytes in
    let next = c.args.at + c.loop-done.done in
    let chunk : c.copy.new.buffer ≡ bytes_at m next c.min-size.result = c.copy.ensures ∙ ap (bytes_at m next) size in
    let old = g.H.Host.told c.args.host.now in
    let new = g.H.Host.told c.write_whole.new.host in
    let part : PartSent c.args.port (bytes_at m next c.min-size.result) (sent c.args.port (bytes_at m c.args.at c.loop-done.done) old) new =
    subst (λ (t : Told). PartSent c.args.port (bytes_at m next c.min-size.result) t new) {y = sent c.args.port (bytes_at m c.args.at c.loop-done.done) old} c.loop-done.invariant.same_told
    (subst (λ (xs : List ℕ). PartSent c.args.port xs (g.H.Host.told c.loop-done.host) new) chunk c.in_err-write_whole.ensures.told) in
    let p = err_from_is_err_and c.from_residual.result c.from_residual.ensures.1 in
    rw p.1 (part_behind c.args.port m c.args.at c.loop-done.done c.min-size.result c.args.len old new (omega arith) part)

pub loop-done-preserved : goal.loop-done-preserved
loop-done-preserved g c =
    let size : length (take c.min-size.result c.loop-done.buffer) ≡ c.min-size.result = length-take-le c.min-size.result c.loop-done.buffer (omega arith) in
    let m = c.args.space.now.space.bytes in
    let next = c.args.at + c.loop-done.done in
    let chunk : c.copy.new.buffer ≡ bytes_at m next c.min-size.result = c.copy.ensures ∙ ap (bytes_at m next) size in
    record {
      within = omega arith;
      room = omega (arith, size, ap length chunk, length_bytes m next c.min-size.result, length-append c.copy.new.buffer (drop c.min-size.result c.loop-done.buffer), length-drop c.min-size.result c.loop-done.buffer);
      same_told =
          c.in_ok-write_whole.ensures.told
          ∙ ap (λ (xs : List ℕ). sent c.args.port xs (g.H.Host.told c.loop-done.host)) chunk
          ∙ ap (λ (t : Told). sent c.args.port (bytes_at m next c.min-size.result) t) c.loop-done.invariant.same_told
          ∙ sent_bytes c.args.port m c.args.at c.loop-done.done c.min-size.result (g.H.Host.told c.args.host.now);
      same_faults = c.in_ok-write_whole.ensures.faults ∙ c.loop-done.invariant.same_faults;
    }
