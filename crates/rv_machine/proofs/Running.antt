-- Several steps of a guest, one after the other.
use Rattle.std.proofs.Common.{◌≡◌, ℕ, ◌+◌, ◌<◌, ◌≤◌, ◌⊎◌, refl, sym, ap, subst, ◌∙◌, inl, inr, arith}
use Rattle.std.proofs.lemmas.Bool.{cases_eq}
use Rattle.guest_model.specs.Effect.{effect_of, stored_by}
use Rattle.guest_model.specs.Machine.{Machine}
use Rattle.guest_model.specs.Runs.{Running}
use Rattle.guest_model.specs.declared.platform.TheConstants.{MOST_PAGES}
use Rattle.guest_model.proofs.Runs.{after-zero, along-zero, after-next, along-next}
use Rattle.cow_pages.specs.Marks.{count_marked}
use Rattle.guest_mem.specs.Frames.{Frames, HasAllFrames, TakesFrames}
use Rattle.guest_mem.proofs.Few.{few_for_effect}
use Rattle.guest_mem.proofs.Ranges.{takes_none, takes_more}
use Rattle.rv_machine.specs.Guest.{GuestState}
use Rattle.rv_machine.specs.Ran.{HasFramesFor, machine_after, state_by, state_of, stored_along, written_after}
use Rattle.rv_machine.specs.Step.{Gives}
use Rattle.rv_machine.specs.declared.step.Stepped.TheVariants as answers

-- a step lacks no frame: there is one for each page, or two are free, and two more than the limit stand
abbrev pub HasRoom : ℕ → Frames → Type 0
HasRoom pages f = (MOST_PAGES ≤ f.count) ⊎ ((2 ≤ f.free) × (pages + 2 ≤ f.count))

-- so many steps completed, and no more than the limit of pages was written on the way
pub record SoFar (pages : ℕ) (old now : GuestState) (n : ℕ) : Type 0 where
  pub machine : machine_after n old.machine ≡ Running now.machine
  pub frames : TakesFrames old.frames now.frames (stored_along n old.machine)
  pub origin : now.origin ≡ old.origin
  pub few : (k : ℕ) → 0 < k → k ≤ n → written_after k old ≤ pages
  pub room : HasRoom pages now.frames

room_of : (pages : ℕ) (f : Frames) → HasFramesFor pages f → f.count ≤ f.free + count_marked f.written → HasRoom pages f
room_of pages f (inl all) enough = inl all
room_of pages f (inr two) enough = inr (omega (arith, two.0, two.1, enough), two.1)

pub begins : (pages : ℕ) (g : GuestState) → HasFramesFor pages g.frames → g.frames.count ≤ g.frames.free + count_marked g.frames.written → SoFar pages g g 0
begins pages g has enough = record {
  machine = after-zero state_of (Running g.machine);
  frames = subst (TakesFrames g.frames g.frames) (sym (along-zero state_of (λ (here : Machine). stored_by (effect_of here)) (Running g.machine))) (takes_none g.frames g.frames refl);
  origin = refl;
  few = λ k some none. absurd (omega (arith, some, none));
  room = room_of pages g.frames has enough;
}

pub has_for_step : (pages : ℕ) (f : Frames) (m : Machine) → HasRoom pages f → HasAllFrames f (stored_by (effect_of m))
has_for_step pages f m (inl all) = inl all
has_for_step pages f m (inr two) = inr (omega (arith, two.0, few_for_effect f m (effect_of m) refl))

-- a step more, whatever is written then
pub record OneMore (old new : GuestState) (n : ℕ) : Type 0 where
  pub machine : machine_after (n + 1) old.machine ≡ Running new.machine
  pub frames : TakesFrames old.frames new.frames (stored_along (n + 1) old.machine)
  pub origin : new.origin ≡ old.origin
  pub written : written_after (n + 1) old ≡ count_marked new.frames.written

leads : (old new : GuestState) → Gives (effect_of old.machine) answers.Next old new → state_of old.machine ≡ Running new.machine
leads old new gives = ap (state_by old.machine) gives.0

pub one_more : (pages : ℕ) (old now new : GuestState) (n : ℕ) → SoFar pages old now n → Gives (effect_of now.machine) answers.Next now new → OneMore old new n
one_more pages old now new n before gives =
    let takes : TakesFrames old.frames new.frames (stored_along (n + 1) old.machine) =
    subst (TakesFrames old.frames new.frames)
    (sym (along-next state_of (λ (here : Machine). stored_by (effect_of here)) n (Running old.machine) now.machine before.machine))
    (takes_more old.frames now.frames new.frames (stored_along n old.machine) (stored_by (effect_of now.machine)) before.frames gives.1.0) in
    record {
      machine = after-next state_of n (Running old.machine) now.machine before.machine ∙ leads now new gives;
      frames = takes;
      origin = gives.1.1 ∙ before.origin;
      written = ap count_marked (sym takes.written);
    }

room_still : (pages : ℕ) (old new : Frames) → HasRoom pages old → new.count ≡ old.count → new.count ≤ new.free + count_marked new.written → count_marked new.written ≤ pages → HasRoom pages new
room_still pages old new (inl all) same enough few = inl (omega (arith, all, same))
room_still pages old new (inr two) same enough few = inr (omega (arith, two.1, same, enough, few), omega (arith, two.1, same))

pub goes_on : (pages : ℕ) (old now new : GuestState) (n : ℕ) → SoFar pages old now n → OneMore old new n → new.frames.count ≡ now.frames.count
    → new.frames.count ≤ new.frames.free + count_marked new.frames.written → count_marked new.frames.written ≤ pages → SoFar pages old new (n + 1)
goes_on pages old now new n before more count enough few = record {
  machine = more.machine;
  frames = more.frames;
  origin = more.origin;
  few = λ k some le. elim (cases_eq k (n + 1)) [
    | inl e ↦ omega (arith, few, more.written ∙ refl, ap (λ j. written_after j old) e)
    | inr ne ↦ before.few k some (omega (arith, le, ne))
  ];
  room = room_still pages now.frames new.frames before.room count enough few;
}
