-- What a step of a play, and the tests behind it, answer.
use Rattle.std.specs.Prelude.{◌≡◌, ℕ, ◌+◌, ◌^◌, ◌<◌, ◌⊎◌, ◌≤◌, Bool, true, false, List, [], length, Option, None, Some}
use Rattle.guest_model.specs.Machine.{Machine}
use Rattle.guest_model.specs.Play.{Halt, Script, Spot, play_step, spot, written_at}
use Rattle.guest_model.specs.Runs.{RunState, Running, Ended}
use Rattle.guest_model.specs.Tests.{HitCounts, PassesQuick, PassesRegisters, PassesStack, PassesWhole, SignatureFields, signature_of}
use Rattle.guest_model.specs.Valid.{IsSpace}
use Rattle.cow_pages.specs.Marks.{count_marked}
use Rattle.guest_mem.specs.Frames.{Frames, marked_for_all}
use Rattle.guest_mem.specs.Memory.{HasFramesWhereWritten}
use Rattle.insert_points.specs.Plan.{PlanFields}
use Rattle.insert_points.specs.declared.call.Event.{Event}
use Rattle.rv_machine.specs.Guest.{GuestState, memory_of}
use Rattle.tool_step.specs.Steps.{events_behind, operands_of_machine}
use Rattle.boundary_verify.specs.declared.job.Boundary.{Boundary}
use Rattle.boundary_verify.specs.declared.job.Boundary.TheVariants.{At, End}

-- a play ended at this spot
abbrev pub HaltsAt : Spot → RunState Spot Halt → Type 0
HaltsAt s (Running other) = ⊥
HaltsAt s (Ended last halt) = last ≡ s

-- a step of a play went on to a new spot, or ended the play where it was
abbrev pub Plays : Script → Spot → Bool → Spot → Type 0
Plays script old true new = play_step script old ≡ Running new
Plays script old false new = HaltsAt old (play_step script old) × (new ≡ old)

-- the pages that the step wrote are marked, and the number of frames is as before
pub record MarksWritten (script : Script) (s : Spot) (old new : Frames) : Type 0 where
  pub written : new.written ≡ marked_for_all old.written (written_at script s)
  pub count : new.count ≡ old.count

-- a step of the play of a guest at a record position
pub record IsTurn (script : Script) (old : GuestState) (calls : ℕ) (on : Bool) (new : GuestState) (later : ℕ) : Type 0 where
  pub plays : Plays script (spot old.machine calls) on (spot new.machine later)
  pub marks : MarksWritten script (spot old.machine calls) old.frames new.frames
  pub origin : new.origin ≡ old.origin
  pub not_less : calls ≤ later
  pub one_more : later ≤ calls + 1

-- the events that are left once a call was tried: those behind it, where a record was left
abbrev pub events_left : PlanFields → Machine → Bool → Machine → List Event
events_left plan before true after = events_behind plan (operands_of_machine before) after
events_left plan before false after = []

-- one more is counted where it passes
abbrev pub CountsOne : Type 0 → ℕ → ℕ → Type 0
CountsOne P old new = (P × (new ≡ old + 1)) ⊎ ((P → ⊥) × (new ≡ old))

-- the position was counted at each test that it passes
pub record CountsAt (target s : Spot) (old new : HitCounts) : Type 0 where
  pub quick : CountsOne (PassesQuick target s) old.quick new.quick
  pub registers : CountsOne (PassesRegisters target s) old.registers new.registers
  pub stack : CountsOne (PassesStack target s) old.stack new.stack
  pub whole : CountsOne (PassesWhole target s) old.whole new.whole

-- the signature is that of the boundary
abbrev pub IsSignatureOf : Boundary → SignatureFields → Type 0
IsSignatureOf (At state position) s = s ≡ signature_of (spot state.machine position)
IsSignatureOf End s = ⊥

-- there is one where the slice does not end with the run
abbrev pub HasSignature : Boundary → Option SignatureFields → Type 0
HasSignature (At state position) (Some s) = s ≡ signature_of (spot state.machine position)
HasSignature (At state position) None = ⊥
HasSignature End s = s ≡ None

-- the position was counted; of a slice that ends with the run none is
abbrev pub CountsBy : Boundary → Spot → HitCounts → HitCounts → Type 0
CountsBy (At state position) s old new = CountsAt (spot state.machine position) s old new
CountsBy End s old new = new ≡ old

-- the counts are far from the end of their type
abbrev pub HasRoom : HitCounts → Type 0
HasRoom hits = (hits.quick < 2 ^ 63) × ((hits.registers < 2 ^ 63) × ((hits.stack < 2 ^ 63) × (hits.whole < 2 ^ 63)))

-- what is so of the frames and the areas of every guest
pub record KnowsFrames (g : GuestState) : Type 0 where
  pub framed : HasFramesWhereWritten (memory_of g)
  pub framed_pages : length g.frames.framed ≡ 2 ^ 20
  pub written_pages : length g.frames.written ≡ 2 ^ 20
  pub enough : g.frames.count ≤ g.frames.free + count_marked g.frames.written
  pub valid : IsSpace g.machine.space
