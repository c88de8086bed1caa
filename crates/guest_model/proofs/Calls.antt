-- What calls that went on leave.
use Rattle.std.proofs.Common.{◌≡◌, List, refl, ap, sym, ◌∙◌}
use Rattle.std.specs.Prelude.{Option, None, Some}
use Rattle.call_record.specs.Record.{CallRecord}
use Rattle.guest_model.specs.Call.{World, Sent, Went, call_by, call_with, call_of, machine_after}
use Rattle.guest_model.specs.Calls.{Deed, Answers, Takes, Sends, Tells, Maps, Ends, deed_of}
use Rattle.guest_model.specs.Machine.{Machine}
use Rattle.guest_model.specs.Play.{played, played_by}

-- a call is its deed, carried out
pub call_is : (m : Machine) (w : World) (deed : Option Deed) → deed_of m ≡ deed → call_of m w ≡ call_with deed m w
unfolding call_of
call_is m w deed is = ap (λ (d : Option Deed). call_with d m w) is

next_by : (deed : Deed) (m next : Machine) (w later : World) (entry : CallRecord) (sent : List Sent) → call_by deed m w ≡ Went next later entry sent → next ≡ machine_after m deed entry
next_by (Answers answer) m next w later entry sent h = cc
next_by (Takes into) m next w later entry sent h = cc
next_by (Sends port bytes answer) m next w later entry sent h = cc
next_by (Tells at) m next w later entry sent h = cc
next_by (Maps changed) m next w later entry sent h = cc
next_by (Ends status) m next w later entry sent h = cc

pub next_is : (m next : Machine) (w later : World) (deed : Deed) (entry : CallRecord) (sent : List Sent)
    → deed_of m ≡ Some deed → call_of m w ≡ Went next later entry sent → next ≡ machine_after m deed entry
next_is m next w later deed entry sent is goes = next_by deed m next w later entry sent (sym (call_is m w (Some deed) is) ∙ goes)

-- the machine that a record gives is the one behind the call
played_with : (m next : Machine) (w later : World) (deed : Option Deed) (entry : CallRecord) (sent : List Sent)
    → deed_of m ≡ deed → call_of m w ≡ Went next later entry sent → next ≡ played_by deed m entry
played_with m next w later None entry sent is goes =
    let other : call_with None m w ≡ Went next later entry sent = sym (call_is m w None is) ∙ goes in absurd (cc)
played_with m next w later (Some deed) entry sent is goes = next_is m next w later deed entry sent is goes

pub played_is : (m next : Machine) (w later : World) (entry : CallRecord) (sent : List Sent) → call_of m w ≡ Went next later entry sent → next ≡ played m entry
unfolding played
played_is m next w later entry sent goes = played_with m next w later (deed_of m) entry sent refl goes
