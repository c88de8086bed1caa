-- The cuts of a run: the positions at which one slice ends and the next one starts.
use Rattle.std.specs.Prelude.{◌≡◌, ℕ, zero, suc, ◌+◌, ◌-◌, ◌/◌, ◌%◌, ◌<◌, ◌≤◌, ◌==◌, nat_lt, nat_le, if◌then◌else◌}
use Rattle.std.specs.Prelude.{Bool, true, false, ◌&&◌, ◌||◌, List, [], ◌∷◌, map}
use Rattle.std.specs.List.{flat_map}
use Rattle.call_record.specs.Record.{CallRecord, size_of_records}
use Rattle.guest_model.specs.Effect.{Effect, Next, Call, Fault, effect_of}
use Rattle.guest_model.specs.Play.{range_of}
use Rattle.guest_model.specs.Range.{Range, pages_among}
use Rattle.guest_model.specs.Runs.{Running, along}
use Rattle.guest_model.specs.Serial.{Position, entries_of, entry_at, position_at, step_of}

-- what makes a cut due (docs/ARCHITECTURE.md, "Cuts")
pub record CutLimits : Type 0 where
  -- the pacer is asked at each multiple of so many steps; at least 1
  pub poll : ℕ
  -- so many calls since the last cut make one
  pub records : ℕ
  -- so many bytes that calls stored make one
  pub bytes : ℕ
  -- more written pages than these make one
  pub pages : ℕ

-- those of a run whose guest has so many frames: one step writes fewer than 32 pages, so frames are left for the step before a cut
abbrev pub cut_limits : ℕ → ℕ → ℕ → CutLimits
cut_limits poll records frames = record { poll = poll; records = records; bytes = 4194304; pages = frames - 32 }

-- where records of calls stored
abbrev pub stored_ranges : List CallRecord → List Range
stored_ranges entries = flat_map (λ e. map range_of e.stored) entries

-- the ranges that the step from p writes: those in which its instruction stored, or which the record of its call holds
abbrev pub writes_by : Position → Effect → List Range
writes_by p (Next next stored) = stored
writes_by p Call = stored_ranges (entry_at p)
writes_by p (Fault kind) = []

unfoldable pub writes_at : Position → List Range
writes_at p = writes_by p (effect_of p.machine)

-- the ranges that the first n steps of the run from p write
abbrev pub writes_of : ℕ → Position → List Range
writes_of n p = along step_of writes_at n (Running p)

-- the pacer's answers by their numbers, the first with number 1: it is asked once at each multiple of the period above 0, and
-- where it answers true is a cut
unfoldable pub is_paced : CutLimits → (ℕ → Bool) → ℕ → Bool
is_paced limits answers t = nat_lt 0 t && (t % limits.poll == 0 && answers (t / limits.poll))

-- n steps behind the last cut, at which the run stood at `last`: so many calls went on since, or their records hold so many
-- bytes, or the steps wrote more than so many different pages
unfoldable pub is_full : CutLimits → Position → ℕ → Bool
is_full limits last n =
    nat_le limits.records ((position_at n last).calls - last.calls)
    || (nat_le limits.bytes (size_of_records (entries_of n last)) || nat_lt limits.pages (pages_among (writes_of n last)))

-- position t of the run from p is a cut, where b is the last cut before it, or 0
abbrev pub is_cut : CutLimits → (ℕ → Bool) → Position → ℕ → ℕ → Bool
is_cut limits answers p b t = is_paced limits answers t || is_full limits (position_at b p) (t - b)

-- no position between b and c is one
abbrev pub HasNoCut : CutLimits → (ℕ → Bool) → Position → ℕ → ℕ → Type 0
HasNoCut limits answers p b c = (s : ℕ) → b < s → s < c → is_cut limits answers p b s ≡ false

-- c is the first one behind b
pub record IsNextCut (limits : CutLimits) (answers : ℕ → Bool) (p : Position) (b c : ℕ) : Type 0 where
  pub later : b < c
  pub none_before : HasNoCut limits answers p b c
  pub is : is_cut limits answers p b c ≡ true

-- these are all cuts behind b, which is one or 0, in order, of the run from p whose last position is t
abbrev pub AreCutsAfter : CutLimits → (ℕ → Bool) → Position → ℕ → ℕ → List ℕ → Type 0
AreCutsAfter limits answers p t b [] = (b ≤ t) × HasNoCut limits answers p b (t + 1)
AreCutsAfter limits answers p t b (c ∷ cuts) = IsNextCut limits answers p b c × AreCutsAfter limits answers p t c cuts

abbrev pub AreCuts : CutLimits → (ℕ → Bool) → Position → ℕ → List ℕ → Type 0
AreCuts limits answers p t cuts = AreCutsAfter limits answers p t 0 cuts

-- these are the first cuts of the run behind b, the last of them e, or none and e is b
abbrev pub AreFirstCuts : CutLimits → (ℕ → Bool) → Position → ℕ → ℕ → List ℕ → Type 0
AreFirstCuts limits answers p e b [] = e ≡ b
AreFirstCuts limits answers p e b (c ∷ cuts) = IsNextCut limits answers p b c × AreFirstCuts limits answers p e c cuts

-- these are some positions behind b, in order, none behind t
abbrev pub AreBetween : ℕ → ℕ → List ℕ → Type 0
AreBetween t b [] = b ≤ t
AreBetween t b (c ∷ cuts) = (b < c) × AreBetween t c cuts

-- the last of these cuts before s, or b
abbrev pub last_before : ℕ → List ℕ → ℕ → ℕ
last_before b [] s = b
last_before b (c ∷ cuts) s = if nat_lt c s then last_before c cuts s else b

-- how many of the pacer's first n answers are true
unfoldable pub granted_among : (ℕ → Bool) → ℕ → ℕ
granted_among answers zero = 0
granted_among answers (suc n) = granted_among answers n + (if answers (n + 1) then 1 else 0)

-- how many of these cuts behind b have no cause but the pacer
unfoldable pub paced_alone : CutLimits → Position → ℕ → List ℕ → ℕ
paced_alone limits p b [] = 0
paced_alone limits p b (c ∷ cuts) = (if is_full limits (position_at b p) (c - b) then 0 else 1) + paced_alone limits p c cuts
