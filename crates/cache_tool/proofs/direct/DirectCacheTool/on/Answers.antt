use Rattle.std.proofs.Common.{◌≡◌, ◌∙◌, ◌+◌, ◌/◌, ◌%◌, ◌^◌, ◌<◌, ap, sym, arith, slice_index}
use Rattle.cache_tool.specs.Cache.{access, last_byte}
use Rattle.cache_tool.proofs.Merging.{slice_more, step-one, step-two}
use Rattle.cache_tool.proofs.Powers.{sets_power}
use Rattle.cache_tool.proofs.direct.DirectCacheTool.on.Goals as goal

pub returns-then-first-last-clause-law : goal.returns-then-first-last-clause-law
returns-then-first-last-clause-law c = λ ys room r.
    let sets = c.args.self.now.sets in
    let line = c.args.self.now.line in
    let e = c.args.event.now in
    let power = sets_power sets c.args.self.now.sets_fit in
    let few = r.few_bits in
    let bits : c.args.local.now.line_bits % 32 ≡ c.args.local.now.line_bits = omega arith in
    let shift : 2 ^ (c.args.local.now.line_bits % 32) ≡ line = ap (λ n. 2 ^ n) bits ∙ r.line_is in
    let first : c.wrapping_shr-first.result ≡ slice_index e.args 0 / line = c.wrapping_shr-first.ensures ∙ ap (λ n. slice_index e.args 0 / n) shift in
    let last : c.wrapping_shr-last.result ≡ last_byte (slice_index e.args 0) (slice_index e.args 1) / line =
    c.wrapping_shr-last.ensures ∙ ap (λ n. (slice_index e.args 0 + n) % 2 ^ 32 / 2 ^ (c.args.local.now.line_bits % 32)) c.saturating_sub.ensures
    ∙ ap (λ n. last_byte (slice_index e.args 0) (slice_index e.args 1) / n) shift in
    let bounded = r.bounded in
    let small : c.args.local.now.hits + c.args.local.now.misses < 2 ^ 63 = omega arith in
    let one = c.note.ensures.bounded small in
    let small' : c.note.new.self.hits + c.note.new.self.misses < 2 ^ 63 = omega arith in
    let two = c.note-then-first-last.ensures.bounded small' in
    slice_more sets line ys e _ _ r (c.note-then-first-last.ensures.bits ∙ c.note.ensures.bits) (c.note-then-first-last.ensures.mask ∙ c.note.ensures.mask)
    (c.note-then-first-last.ensures.sized ∙ c.note.ensures.sized) (omega arith)
    (λ cache same.
    c.note-then-first-last.ensures.exact sets power (ap (λ n. n + 1) c.note.ensures.mask ∙ r.mask_is) (c.note.ensures.sized ∙ r.sized) small' cache same
    ∙ ap (λ t. access sets t c.wrapping_shr-last.result) (c.note.ensures.exact sets power r.mask_is r.sized small cache same)
    ∙ sym (step-two sets line _ e _ _ c.if-event-eq0.true first last c.if-first-last.true))

pub returns-else-first-last-clause-law : goal.returns-else-first-last-clause-law
returns-else-first-last-clause-law c = λ ys room r.
    let sets = c.args.self.now.sets in
    let line = c.args.self.now.line in
    let e = c.args.event.now in
    let power = sets_power sets c.args.self.now.sets_fit in
    let few = r.few_bits in
    let bits : c.args.local.now.line_bits % 32 ≡ c.args.local.now.line_bits = omega arith in
    let shift : 2 ^ (c.args.local.now.line_bits % 32) ≡ line = ap (λ n. 2 ^ n) bits ∙ r.line_is in
    let first : c.wrapping_shr-first.result ≡ slice_index e.args 0 / line = c.wrapping_shr-first.ensures ∙ ap (λ n. slice_index e.args 0 / n) shift in
    let last : c.wrapping_shr-last.result ≡ last_byte (slice_index e.args 0) (slice_index e.args 1) / line =
    c.wrapping_shr-last.ensures ∙ ap (λ n. (slice_index e.args 0 + n) % 2 ^ 32 / 2 ^ (c.args.local.now.line_bits % 32)) c.saturating_sub.ensures
    ∙ ap (λ n. last_byte (slice_index e.args 0) (slice_index e.args 1) / n) shift in
    let bounded = r.bounded in
    let small : c.args.local.now.hits + c.args.local.now.misses < 2 ^ 63 = omega arith in
    let one = c.note.ensures.bounded small in
    slice_more sets line ys e _ _ r c.note.ensures.bits c.note.ensures.mask c.note.ensures.sized (omega arith)
    (λ cache same. c.note.ensures.exact sets power r.mask_is r.sized small cache same ∙ sym (step-one sets line _ e _ _ c.if-event-eq0.true first last c.if-first-last.false))
