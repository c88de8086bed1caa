-- A record that is played: the areas as its call leaves them, and then what it stored.
use Rattle.std.proofs.Common.{◌≡◌, ℕ, Bool, true, false, cond, List, [], length, map, refl, sym, ap, subst, ◌∙◌}
use Rattle.std.specs.Prelude.{Option, None, Some}
use Rattle.std.specs.List.{list_all}
use Rattle.std.specs.Option.{option_map}
use Rattle.std.proofs.lemmas.Bool.{true≢false}
use Rattle.call_record.specs.Record.{CallRecord, Stored}
use Rattle.guest_model.specs.Areas.{is_range_permitted}
use Rattle.guest_model.specs.Call.{finished, space_by, store_all, with_space}
use Rattle.guest_model.specs.Calls.{Deed, Answers, Takes, Sends, Tells, call_number, call_numbered, deed_of, row_of}
use Rattle.guest_model.specs.Fits.{can_store, changes_areas}
use Rattle.guest_model.specs.Machine.{Machine}
use Rattle.guest_model.specs.Play.{played, played_by}
use Rattle.guest_model.specs.Range.{Range}
use Rattle.guest_model.specs.Space.{Space, with_bytes}
use Rattle.guest_model.specs.declared.Access.TheVariants.{Write as for_writing}
use Rattle.guest_model.specs.declared.system_call.SystemCall.{SystemCall}
use Rattle.guest_model.specs.declared.system_call.SystemCall.TheVariants.{Read, Write, Readv, Writev, Brk, Munmap, Mmap2, ClockGettime64}
use Rattle.guest_mem.specs.Frames.{Frames, HasAllFrames, TakesFrames, marked_for_all}
use Rattle.guest_mem.proofs.Ranges.{has_none, marked_for_all-none}
use Rattle.rv_machine.specs.Guest.{GuestState}
use Rattle.call_playback.specs.Areas.{HasAreas, areas_by}
use Rattle.call_playback.specs.Stores.{FramesAfter, FramesAfterCall, range_of}
use Rattle.call_playback.proofs.Records.{writable_if}

-- a deed that leaves the areas as they are
record Keeps (deed : Deed) : Type 0 where
  space : (s : Space) → space_by deed s ≡ s
  frames : (stored : List Stored) (old new : Frames) → TakesFrames old new (map range_of stored) → FramesAfter deed stored old new

keeps_if : (b : Bool) (d e : Deed) → Keeps d → Keeps e → Keeps (cond b d e)
keeps_if true d e h k = h
keeps_if false d e h k = k

keeps_answer : (answer : ℕ) → Keeps (Answers answer)
keeps_answer answer = record { space = λ s. refl; frames = λ stored old new takes. takes }

keeps_taken : (into : List Range) → Keeps (Takes into)
keeps_taken into = record { space = λ s. refl; frames = λ stored old new takes. takes }

keeps_sent : (port : ℕ) (bytes : List ℕ) (answer : ℕ) → Keeps (Sends port bytes answer)
keeps_sent port bytes answer = record { space = λ s. refl; frames = λ stored old new takes. takes }

keeps_told : (at : ℕ) → Keeps (Tells at)
keeps_told at = record { space = λ s. refl; frames = λ stored old new takes. takes }

keeps_by_row : (m : Machine) (call : SystemCall) → changes_areas (Some call) ≡ false → Keeps (row_of call m)
keeps_by_row m Read h = search (keeps_if, keeps_answer, keeps_taken) depth 9
keeps_by_row m Readv h = search (keeps_if, keeps_answer, keeps_taken) depth 9
keeps_by_row m Write h = search (keeps_if, keeps_answer, keeps_sent) depth 9
keeps_by_row m Writev h = search (keeps_if, keeps_answer, keeps_sent) depth 12
keeps_by_row m ClockGettime64 h = search (keeps_if, keeps_answer, keeps_told) depth 9
keeps_by_row m Brk h = absurd (true≢false h)
keeps_by_row m Munmap h = absurd (true≢false h)
keeps_by_row m Mmap2 h = absurd (true≢false h)
keeps_by_row m _ h = record { space = λ s. refl; frames = λ stored old new takes. takes }

pub areas_kept : (m : Machine) (call : Option SystemCall) → changes_areas call ≡ false → areas_by call m ≡ m.space
areas_kept m None h = refl
areas_kept m (Some call) h = (keeps_by_row m call h).space m.space

-- the machine that a record gives, with the areas as its call leaves them
played_with : (m : Machine) (call : Option SystemCall) (entry : CallRecord)
    → played_by (option_map (λ c. row_of c m) call) m entry ≡ finished (with_space m (with_bytes (areas_by call m) (store_all (areas_by call m).bytes entry.stored))) entry.answer
played_with m None entry = refl
played_with m (Some call) entry = refl

pub played_so : (m : Machine) (call : Option SystemCall) (entry : CallRecord) → call_numbered (call_number m) ≡ call
    → played m entry ≡ finished (with_space m (with_bytes (areas_by call m) (store_all (areas_by call m).bytes entry.stored))) entry.answer
unfolding played deed_of
played_so m call entry is = ap (λ (o : Option SystemCall). played_by (option_map (λ c. row_of c m) o) m entry) is ∙ played_with m call entry

-- what it stores may be written still, and lacks no frame: nothing is stored where the areas were changed
writable_by : (m : Machine) (call : Option SystemCall) (stored : List Stored) (b : Bool) → changes_areas call ≡ b → list_all (can_store m) stored ≡ true → (changes_areas call ≡ true → stored ≡ [])
    → list_all (λ s. is_range_permitted for_writing (areas_by call m).areas s.at (length s.bytes)) stored ≡ true
writable_by m call stored true is can none = ap (λ (ss : List Stored). list_all (λ s. is_range_permitted for_writing (areas_by call m).areas s.at (length s.bytes)) ss) (none is)
writable_by m call stored false is can none =
    ap (λ (space : Space). list_all (λ s. is_range_permitted for_writing space.areas s.at (length s.bytes)) stored) (areas_kept m call is) ∙ writable_if m stored can

pub still_writable : (m : Machine) (call : Option SystemCall) (stored : List Stored) → list_all (can_store m) stored ≡ true → (changes_areas call ≡ true → stored ≡ [])
    → list_all (λ s. is_range_permitted for_writing (areas_by call m).areas s.at (length s.bytes)) stored ≡ true
still_writable m call stored can none = writable_by m call stored (changes_areas call) refl can none

has_by : (call : Option SystemCall) (stored : List Stored) (old new : GuestState) (b : Bool) → changes_areas call ≡ b → (changes_areas call ≡ true → stored ≡ []) → HasAreas call old new
    → HasAllFrames old.frames (map range_of stored) → HasAllFrames new.frames (map range_of stored)
has_by call stored old new true is none areas has = subst (λ (ss : List Stored). HasAllFrames new.frames (map range_of ss)) (sym (none is)) (has_none new.frames)
has_by call stored old new false is none areas has = subst (λ (f : Frames). HasAllFrames f (map range_of stored)) (sym (areas.unchanged is)) has

pub still_has : (call : Option SystemCall) (stored : List Stored) (old new : GuestState) → (changes_areas call ≡ true → stored ≡ []) → HasAreas call old new → HasAllFrames old.frames (map range_of stored)
    → HasAllFrames new.frames (map range_of stored)
still_has call stored old new none areas has = has_by call stored old new (changes_areas call) refl none areas has

-- the frames, where nothing was stored
unwritten : (stored : List Stored) (old mid new : Frames) → stored ≡ [] → mid.written ≡ old.written → mid.count ≡ old.count → TakesFrames mid new (map range_of stored) → (new.written ≡ old.written) × (new.count ≡ old.count)
unwritten stored old mid new none written count takes = (
  takes.written ∙ ap (λ (ss : List Stored). marked_for_all mid.written (map range_of ss)) none ∙ marked_for_all-none mid.written ∙ written,
  takes.count ∙ count,
)

pub frames_by : (m : Machine) (call : Option SystemCall) (stored : List Stored) (old mid : GuestState) (new : Frames) → (changes_areas call ≡ true → stored ≡ []) → HasAreas call old mid → TakesFrames mid.frames new (map range_of stored)
    → FramesAfterCall (option_map (λ c. row_of c m) call) stored old.frames new
frames_by m None stored old mid new none areas takes = subst (λ (f : Frames). TakesFrames f new (map range_of stored)) (areas.unchanged refl) takes
frames_by m (Some Brk) stored old mid new none areas takes = unwritten stored old.frames mid.frames new (none refl) areas.written areas.count takes
frames_by m (Some Munmap) stored old mid new none areas takes = unwritten stored old.frames mid.frames new (none refl) areas.written areas.count takes
frames_by m (Some Mmap2) stored old mid new none areas takes = unwritten stored old.frames mid.frames new (none refl) areas.written areas.count takes
frames_by m (Some call) stored old mid new none areas takes =
    (keeps_by_row m call refl).frames stored old.frames new (subst (λ (f : Frames). TakesFrames f new (map range_of stored)) (areas.unchanged refl) takes)

pub frames_so : (m : Machine) (call : Option SystemCall) (stored : List Stored) (old mid : GuestState) (new : Frames) → call_numbered (call_number m) ≡ call → (changes_areas call ≡ true → stored ≡ []) → HasAreas call old mid
    → TakesFrames mid.frames new (map range_of stored) → FramesAfterCall (deed_of m) stored old.frames new
unfolding deed_of
frames_so m call stored old mid new is none areas takes =
    subst (λ (o : Option SystemCall). FramesAfterCall (option_map (λ c. row_of c m) o) stored old.frames new) (sym is) (frames_by m call stored old mid new none areas takes)
