use Rattle.std.proofs.Common.{◌∙◌, List, ap, sym, subst}
use Rattle.std.specs.Prelude.{Option, Err}
use Rattle.guest_model.specs.Calls.{Deed, call_numbered}
use Rattle.guest_model.specs.Range.{Range}
use Rattle.guest_mem.specs.Frames.{HasAllFrames}
use Rattle.syscall_layer.specs.Serve.{AnswersCall, TellsDeed}
use Rattle.syscall_layer.specs.declared.fault.CallFault.TheVariants as faults
use Rattle.syscall_layer.proofs.Deeds.{unsupported}
use Rattle.syscall_layer.proofs.Leaving.{leaves_playable}
use Rattle.syscall_layer.proofs.Rows.{deed_is, no_deed, written_is}
use Rattle.syscall_layer.proofs.server.serve.Goals as goal

pub serve_row-requires : goal.serve_row-requires
serve_row-requires g c =
    let old = c.args.guest.now in
    let is = ap call_numbered (sym c.reg-number.ensures) ∙ (sym c.numbered.ensures ∙ c.in-Some.is) in
    subst (λ (rs : List Range). HasAllFrames old.frames rs) (written_is old.machine c.in-Some.call c.requires.call is) c.requires.frames

pub returns-in-Some-clause-answer : goal.returns-in-Some-clause-answer
returns-in-Some-clause-answer g c =
    let old = c.args.guest.now in
    let is = ap call_numbered (sym c.reg-number.ensures) ∙ (sym c.numbered.ensures ∙ c.in-Some.is) in
    subst (λ (d : Option Deed). AnswersCall d c.serve_row.result old c.serve_row.new.guest) (sym (deed_is old.machine c.in-Some.call is)) c.serve_row.ensures.answer

pub returns-in-Some-clause-told : goal.returns-in-Some-clause-told
returns-in-Some-clause-told g c =
    let old = c.args.guest.now in
    let is = ap call_numbered (sym c.reg-number.ensures) ∙ (sym c.numbered.ensures ∙ c.in-Some.is) in
    subst (λ (d : Option Deed). TellsDeed d (g.H.Host.told c.args.host.now) c.serve_row.result old c.serve_row.new.guest (g.H.Host.told c.serve_row.new.host)) (sym (deed_is old.machine c.in-Some.call is)) c.serve_row.ensures.told

pub returns-in-Some-clause-playable : goal.returns-in-Some-clause-playable
returns-in-Some-clause-playable g c =
    let old = c.args.guest.now in
    let is = ap call_numbered (sym c.reg-number.ensures) ∙ (sym c.numbered.ensures ∙ c.in-Some.is) in
    leaves_playable c.in-Some.call c.serve_row.result old c.serve_row.new.guest is c.serve_row.ensures.answer

pub returns-in-None-clause-answer : goal.returns-in-None-clause-answer
returns-in-None-clause-answer g c =
    let old = c.args.guest.now in
    let is = ap call_numbered (sym c.reg-number.ensures) ∙ (sym c.numbered.ensures ∙ c.in-None.is) in
    subst (λ (d : Option Deed). AnswersCall d (Err (faults.Unsupported c.reg-number.result)) old old) (sym (no_deed old.machine is))
    (unsupported c.reg-number.result (g.H.Host.told c.args.host.now) (g.H.Host.faults c.args.host.now) old c.reg-number.ensures).answer

pub returns-in-None-clause-told : goal.returns-in-None-clause-told
returns-in-None-clause-told g c =
    let old = c.args.guest.now in
    let t = g.H.Host.told c.args.host.now in
    let is = ap call_numbered (sym c.reg-number.ensures) ∙ (sym c.numbered.ensures ∙ c.in-None.is) in
    subst (λ (d : Option Deed). TellsDeed d t (Err (faults.Unsupported c.reg-number.result)) old old t) (sym (no_deed old.machine is))
    (unsupported c.reg-number.result t (g.H.Host.faults c.args.host.now) old c.reg-number.ensures).told
