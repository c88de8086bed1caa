use Rattle.std.proofs.Common.{◌≡◌, Bool, List, length, map, ap, sym, subst, ◌∙◌}
use Rattle.std.specs.List.{list_all}
use Rattle.call_record.specs.Record.{CallRecord, Stored}
use Rattle.guest_model.specs.Areas.{is_range_permitted}
use Rattle.guest_model.specs.Call.{finished, store_all, with_space}
use Rattle.guest_model.specs.Calls.{call_numbered}
use Rattle.guest_model.specs.Fits.{changes_areas}
use Rattle.guest_model.specs.Machine.{Machine}
use Rattle.guest_model.specs.Space.{Space, with_bytes}
use Rattle.guest_model.specs.declared.Access.TheVariants.{Write}
use Rattle.guest_mem.specs.Frames.{HasAllFrames, TakesFrames, marked_for_all}
use Rattle.call_playback.specs.Areas.{areas_by}
use Rattle.call_playback.specs.Stores.{range_of}
use Rattle.call_playback.proofs.Playing.{frames_so, played_so, still_has, still_writable}
use Rattle.call_playback.proofs.Records.{does_fit}
use Rattle.call_playback.proofs.playback.play.Goals as goal

pub finish_storing-requires-clause-writable : goal.finish_storing-requires-clause-writable
finish_storing-requires-clause-writable c =
    let old = c.args.guest.now in
    let entry = c.args.entry.now in
    let call = c.numbered.result in
    let does = does_fit old.machine entry c.requires.fits in
    let stored : c.deref.result.now ≡ entry.stored = c.deref.ensures.value ∙ ap (λ (e : CallRecord). e.stored) c.entry.view_is in
    let number : call ≡ call_numbered entry.number = c.numbered.ensures ∙ ap (λ (e : CallRecord). call_numbered e.number) c.entry.view_is in
    let test = λ (s : Space) (ws : List Stored). list_all (λ w. is_range_permitted Write s.areas w.at (length w.bytes)) ws in
    ap (λ (m : Machine). test m.space c.deref.result.now) c.change_areas.ensures.machine_is
    ∙ ap (test (areas_by call old.machine)) stored
    ∙ still_writable old.machine call entry.stored does.store (λ h. does.none (ap changes_areas (sym number) ∙ h))

pub finish_storing-requires-clause-frames : goal.finish_storing-requires-clause-frames
finish_storing-requires-clause-frames c =
    let old = c.args.guest.now in
    let entry = c.args.entry.now in
    let call = c.numbered.result in
    let does = does_fit old.machine entry c.requires.fits in
    let stored : c.deref.result.now ≡ entry.stored = c.deref.ensures.value ∙ ap (λ (e : CallRecord). e.stored) c.entry.view_is in
    let number : call ≡ call_numbered entry.number = c.numbered.ensures ∙ ap (λ (e : CallRecord). call_numbered e.number) c.entry.view_is in
    subst (λ (ws : List Stored). HasAllFrames c.change_areas.new.guest.frames (map range_of ws)) (sym stored)
    (still_has call entry.stored old c.change_areas.new.guest (λ h. does.none (ap changes_areas (sym number) ∙ h)) c.change_areas.ensures c.requires.frames)

pub returns-clause-machine : goal.returns-clause-machine
returns-clause-machine c =
    let old = c.args.guest.now in
    let entry = c.args.entry.now in
    let call = c.numbered.result in
    let does = does_fit old.machine entry c.requires.fits in
    let stored : c.deref.result.now ≡ entry.stored = c.deref.ensures.value ∙ ap (λ (e : CallRecord). e.stored) c.entry.view_is in
    let number : call ≡ call_numbered entry.number = c.numbered.ensures ∙ ap (λ (e : CallRecord). call_numbered e.number) c.entry.view_is in
    let next = λ (m : Machine) (ws : List Stored). finished (with_space m (with_bytes m.space (store_all m.space.bytes ws))) in
    c.finish_storing.ensures.machine
    ∙ ap (λ (m : Machine). next m c.deref.result.now c.entry.inside.result) c.change_areas.ensures.machine_is
    ∙ ap (λ (ws : List Stored). next (with_space old.machine (areas_by call old.machine)) ws c.entry.inside.result) stored
    ∙ ap (λ (e : CallRecord). next (with_space old.machine (areas_by call old.machine)) entry.stored e.answer) c.entry.view_is
    ∙ sym (played_so old.machine call entry (ap call_numbered (sym does.number) ∙ sym number))

pub returns-clause-frames : goal.returns-clause-frames
returns-clause-frames c =
    let old = c.args.guest.now in
    let entry = c.args.entry.now in
    let call = c.numbered.result in
    let does = does_fit old.machine entry c.requires.fits in
    let stored : c.deref.result.now ≡ entry.stored = c.deref.ensures.value ∙ ap (λ (e : CallRecord). e.stored) c.entry.view_is in
    let number : call ≡ call_numbered entry.number = c.numbered.ensures ∙ ap (λ (e : CallRecord). call_numbered e.number) c.entry.view_is in
    frames_so old.machine call entry.stored old c.change_areas.new.guest c.finish_storing.new.guest.frames (ap call_numbered (sym does.number) ∙ sym number) (λ h. does.none (ap changes_areas (sym number) ∙ h)) c.change_areas.ensures
    (subst (λ (ws : List Stored). TakesFrames c.change_areas.new.guest.frames c.finish_storing.new.guest.frames (map range_of ws)) stored c.finish_storing.ensures.frames)

pub returns-clause-marks : goal.returns-clause-marks
returns-clause-marks c =
    let entry = c.args.entry.now in
    let stored : c.deref.result.now ≡ entry.stored = c.deref.ensures.value ∙ ap (λ (e : CallRecord). e.stored) c.entry.view_is in
    let takes = c.finish_storing.ensures.frames in
    record {
      written = takes.written
          ∙ ap (λ (ws : List Stored). marked_for_all c.change_areas.new.guest.frames.written (map range_of ws)) stored
          ∙ ap (λ (marks : List Bool). marked_for_all marks (map range_of entry.stored)) c.change_areas.ensures.written;
      count = takes.count ∙ c.change_areas.ensures.count;
    }
