-- What the loop of a slice wants.
use Rattle.std.proofs.Common.{◌≡◌, ℕ, ◌+◌, ◌-◌, ◌≤◌, ◌<◌, ◌^◌, ◌⊎◌, inl, inr, Bool, true, false, cond, List, [], ◌∷◌, ◌++◌, length, refl, sym, ap, subst, ◌∙◌, arith, length-append}
use Rattle.std.specs.Prelude.{Option, None, Some, is_some, option_and_then}
use Rattle.std.proofs.lemmas.Bool.{cases_lt}
use Rattle.std.proofs.lemmas.Grind.{flat_map-append}
use Rattle.rv_isa.specs.Decoded.{decoded}
use Rattle.rv_isa.specs.Table.{Fields}
use Rattle.cow_pages.specs.Marks.{count_marked, unmarked}
use Rattle.guest_model.specs.Effect.{Effect, Next, Call, Fault, effect_of, effect_of_instruction, effect_of_word}
use Rattle.guest_model.specs.Machine.{Machine, instruction_at}
use Rattle.guest_model.specs.Play.{Halt, Script, Spot, machine_of, play_by, play_step, played_item, spot, written_at, written_of}
use Rattle.guest_model.specs.Range.{Range, pages_among}
use Rattle.guest_model.specs.Runs.{RunState, Running, Ended, landed, reached, state_of}
use Rattle.guest_model.specs.Serial.{TraceItem, item_of, item_with}
use Rattle.guest_model.specs.Space.{read_number}
use Rattle.guest_model.specs.Tests.{AreHits, HitCounts, IsCount, PassesQuick, PassesRegisters, PassesStack, PassesWhole, no_hits}
use Rattle.guest_model.specs.declared.Access.TheVariants.{Execute}
use Rattle.guest_model.proofs.Counts.{count_no, count_none, count_yes}
use Rattle.guest_model.proofs.Runs.{after-next, after-zero, along-next, along-zero, over_later, running_same}
use Rattle.guest_mem.specs.Frames.{HasAllFrames, marked_for_all}
use Rattle.guest_mem.proofs.Ranges.{marked_for_all-append, marked_for_all-none}
use Rattle.insert_points.specs.Plan.{PlanFields}
use Rattle.insert_points.specs.declared.call.Event.{Event}
use Rattle.rv_machine.specs.Guest.{GuestState}
use Rattle.rv_machine.specs.Snapshot.{guest_from}
use Rattle.tool_law.specs.declared.piece.Hits.{Hits}
use Rattle.tool_law.specs.declared.piece.Piece.{Piece}
use Rattle.tool_step.specs.Steps.{TakesEvents, item_events, trace_events}
use Rattle.boundary_verify.specs.Job.{FitsAt, IsJob, JobFields, Lasts, boundary_of, path_of, script_of_job}
use Rattle.boundary_verify.specs.Path.{AreHitsOf, Boundary, IsMatch, Meets, Path, path_after, path_trace}
use Rattle.boundary_verify.specs.Path as paths
use Rattle.boundary_verify.specs.declared.job.Boundary as ends
use Rattle.boundary_verify.specs.declared.job.Boundary.TheVariants.{At, End}
use Rattle.slice_runner.specs.Piece.{IsPieceOf, IsPieceWith, counts_of}
use Rattle.slice_runner.specs.Turn.{CountsAt, CountsBy, CountsOne, HaltsAt, HasRoom, IsTurn, KnowsFrames}
use Rattle.slice_runner.proofs.Frames.{has_next, pages_marked, pages_so_far, written_split}
use Rattle.slice_runner.proofs.SoFar.{AreFew, Heard, IsUnmatched, Played, Tested}

-- an effect without an instruction is a fault
abbrev IsFault : Effect → Type 0
IsFault (Next next stored) = ⊥
IsFault Call = ⊥
IsFault (Fault kind) = Unit {0}

fault_by : (m : Machine) (word : Option ℕ) → option_and_then decoded word ≡ None → IsFault (effect_of_word m word)
fault_by m None none = tt
fault_by m (Some word) none = subst IsFault (sym (ap (effect_of_instruction m) none)) tt

fault_without : (m : Machine) → instruction_at m ≡ None → IsFault (effect_of m)
unfolding effect_of
fault_without m none = fault_by m (read_number Execute m.space m.pc 4) none

ends_by : (script : Script) (s next : Spot) (effect : Effect) → IsFault effect → play_by script s effect ≡ Running next → ⊥
ends_by script s next (Next m stored) fault h = fault
ends_by script s next Call fault h = fault
ends_by script s next (Fault kind) fault h = cc (h)

-- a step that goes on is of an instruction
has_instruction : (script : Script) (s next : Spot) → play_step script s ≡ Running next → is_some (instruction_at s.machine) ≡ true
unfolding play_step
has_instruction script s next h = go (instruction_at s.machine) refl
  where
    go : (o : Option Fields) → instruction_at s.machine ≡ o → is_some (instruction_at s.machine) ≡ true
    go None e = absurd (ends_by script s next (effect_of s.machine) (fault_without s.machine e) h)
    go (Some i) e = ap is_some e

item_count : (m : Machine) (c : Option Machine) (has : Bool) → is_some (instruction_at m) ≡ has → length (item_of m c) ≡ cond {A = ℕ} has 1 0
unfolding item_of
item_count m c has is = go (instruction_at m) is
  where
    go : (i : Option Fields) → is_some i ≡ has → length (item_with m c i) ≡ cond {A = ℕ} has 1 0
    go None e = ap (λ (b : Bool). cond {A = ℕ} b 1 0) e
    go (Some i) e = ap (λ (b : Bool). cond {A = ℕ} b 1 0) e

-- one step more of a path
pub after_more : (path : Path) (k : ℕ) (old : Spot) (next : RunState Spot Halt) → path_after path k ≡ Running old → play_step path.script old ≡ next → path_after path (k + 1) ≡ next
after_more path k old next here step = after-next (play_step path.script) k (Running path.start) old here ∙ step

trace_more : (path : Path) (k : ℕ) (old : Spot) → path_after path k ≡ Running old → path_trace path (k + 1) ≡ path_trace path k ++ played_item path.script old
trace_more path k old here = along-next (play_step path.script) (played_item path.script) k (Running path.start) old here

written_more : (path : Path) (k : ℕ) (old : Spot) → path_after path k ≡ Running old → written_of path.script (k + 1) path.start ≡ written_of path.script k path.start ++ written_at path.script old
written_more path k old here = along-next (play_step path.script) (written_at path.script) k (Running path.start) old here

reached_more : (path : Path) (k : ℕ) (old new : Spot) → path_after path k ≡ Running old → play_step path.script old ≡ Running new
    → reached (play_step path.script) (k + 1) (Running path.start) ≡ reached (play_step path.script) k (Running path.start) ++ new ∷ []
reached_more path k old new here step =
    along-next (play_step path.script) (λ s. landed (play_step path.script s)) k (Running path.start) old here
    ∙ ap (λ (x : RunState Spot Halt). reached (play_step path.script) k (Running path.start) ++ landed x) step

count_of_trace : (path : Path) (k : ℕ) (old : Spot) (has : Bool) → path_after path k ≡ Running old → length (path_trace path k) ≡ k → is_some (instruction_at old.machine) ≡ has
    → length (path_trace path (k + 1)) ≡ k + cond {A = ℕ} has 1 0
count_of_trace path k old has here all is =
    let size : length (path_trace path k ++ played_item path.script old) ≡ length (path_trace path k) + length (played_item path.script old) = simp length-append in
    omega (arith, ap length (trace_more path k old here), size, all, item_count old.machine (machine_of (play_step path.script old)) has is)

-- the start of a slice
pub played_none : (job : JobFields) (frames : ℕ) (guest : GuestState) → guest ≡ guest_from job.start frames → Played job frames 0 guest job.position
played_none job frames guest is =
    let path = path_of job in record {
      there = after-zero (play_step path.script) (Running path.start) ∙ ap (λ (g : GuestState). Running (spot g.machine job.position)) (sym is);
      items = ap length (along-zero (play_step path.script) (played_item path.script) (Running path.start));
      unmatched = λ j begun within met. omega (arith, begun, within);
      after = omega arith;
      within = omega arith;
      written =
          ap (λ (g : GuestState). g.frames.written) is
          ∙ sym (ap (marked_for_all (unmarked (2 ^ 20))) (along-zero (play_step path.script) (written_at path.script) (Running path.start)) ∙ marked_for_all-none (unmarked (2 ^ 20)));
      count = ap (λ (g : GuestState). g.frames.count) is;
      origin = ap (λ (g : GuestState). g.origin) is;
    }

none_reached : (path : Path) → reached (play_step path.script) 0 (Running path.start) ≡ []
none_reached path = along-zero (play_step path.script) (λ s. landed (play_step path.script s)) (Running path.start)

no_count : {A : Type 0} (P : A → Type 0) (xs : List A) → xs ≡ [] → IsCount P xs 0
no_count P xs none = subst (λ ys. IsCount P ys 0) (sym none) (count_none P)

pub tested_none : (job : JobFields) → Tested job 0 no_hits
tested_none job = record {
  counted = go job.end;
  few = record { quick = omega arith; registers = omega arith; stack = omega arith; whole = omega arith };
}
  where
    start : Spot
    start = (path_of job).start

    go : (end : ends.Boundary) → paths.AreHitsBy (boundary_of end) (path_of job) 0 no_hits
    go (At state position) =
        let target = spot state.machine position in
        let spots = reached (play_step (path_of job).script) 0 (Running (path_of job).start) in
        let none = none_reached (path_of job) in
        record {
          quick = no_count (PassesQuick target) spots none;
          registers = no_count (PassesRegisters target) spots none;
          stack = no_count (PassesStack target) spots none;
          whole = no_count (PassesWhole target) spots none;
        }
    go End = refl

-- a job's end is not met yet, so its play goes on
pub sooner : (job : JobFields) (k s : ℕ) → Lasts (path_of job) job.peak s → IsUnmatched (path_of job) k → k < s
sooner job k s lasts unmatched = go (cases_lt k s)
  where
    go : (k < s) ⊎ (s ≤ k) → k < s
    go (inl lt) = lt
    go (inr le) = absurd (unmatched s lasts.begun le lasts.met)

-- the next record fits, and the next step lacks no frame
pub next_fits : {frames : ℕ} (job : JobFields) (k : ℕ) (guest : GuestState) (calls : ℕ) → IsJob job → Played job frames k guest calls → FitsAt (script_of_job job) (Running (spot guest.machine calls))
next_fits job k guest calls is played = go is.lasts
  where
    go : (s : ℕ) × Lasts (path_of job) job.peak s → FitsAt (script_of_job job) (Running (spot guest.machine calls))
    go (s, lasts) = subst (FitsAt (script_of_job job)) played.there (lasts.fits k (sooner job k s lasts played.unmatched))

-- the pages of some steps are at most those of more steps
few_among : (first rest all same : List Range) (peak size : ℕ) → all ≡ first ++ rest → first ≡ same → count_marked (marked_for_all (unmarked size) all) ≡ pages_among all → pages_among all ≤ peak
    → count_marked (marked_for_all (unmarked size) same) ≤ peak
few_among first rest all same peak size split is whole few =
    omega (
      arith,
      pages_so_far first rest size,
      ap (λ (rs : List Range). count_marked (marked_for_all (unmarked size) rs)) split,
      ap (λ (rs : List Range). count_marked (marked_for_all (unmarked size) rs)) is,
      whole,
      few,
    )

few_by : (path : Path) (k s peak size : ℕ) (old : Spot) → size ≡ 2 ^ 20 → Lasts path peak s → k < s → path_after path k ≡ Running old
    → count_marked (marked_for_all (unmarked size) (written_of path.script k path.start ++ written_at path.script old)) ≤ peak
few_by path k s peak size old all lasts lt here =
    let split = written_split path.script (k + 1) s path.start (omega (arith, lt)) in
    few_among (written_of path.script (k + 1) path.start) split.0 (written_of path.script s path.start) (written_of path.script k path.start ++ written_at path.script old) peak size
    split.1 (written_more path k old here) (pages_marked (written_of path.script s path.start) size all) lasts.few

pub next_has : (job : JobFields) (k : ℕ) (guest : GuestState) (calls : ℕ) → IsJob job → Played job job.peak k guest calls → KnowsFrames guest → HasAllFrames guest.frames (written_at (script_of_job job) (spot guest.machine calls))
next_has job k guest calls is played knows = go is.lasts
  where
    go : (s : ℕ) × Lasts (path_of job) job.peak s → HasAllFrames guest.frames (written_at (script_of_job job) (spot guest.machine calls))
    go (s, lasts) =
        let few = few_by (path_of job) k s job.peak (2 ^ 20) (spot guest.machine calls) refl lasts (sooner job k s lasts played.unmatched) played.there in
        has_next (script_of_job job) guest calls (2 ^ 20) (written_of (script_of_job job) k (path_of job).start) refl knows (next_fits job k guest calls is played) played.written (omega (arith, few, played.count))

-- the step after k steps at which the boundary is not met
least_so_far : (path : Path) (k : ℕ) → IsUnmatched path k → (j : ℕ) → 1 ≤ j → Meets path.boundary (path_after path j) → k + 1 ≤ j
least_so_far path k unmatched j begun met = go (cases_lt k j)
  where
    go : (k < j) ⊎ (j ≤ k) → k + 1 ≤ j
    go (inl lt) = omega (arith, lt)
    go (inr le) = absurd (unmatched j begun le met)

unmatched_more : (path : Path) (k : ℕ) (new : Spot) → IsUnmatched path k → path_after path (k + 1) ≡ Running new → (path.boundary ≡ paths.At new → ⊥) → IsUnmatched path (k + 1)
unmatched_more path k new unmatched here differs j begun within met = go (cases_lt k j)
  where
    at_next : (b : Boundary) → path.boundary ≡ b → Meets b (path_after path (k + 1)) → ⊥
    at_next (paths.At target) e m = differs (e ∙ ap paths.At (running_same (path_after path (k + 1)) target new m here))
    at_next paths.AtEnd e m = cc (here, m.2)

    go : (k < j) ⊎ (j ≤ k) → ⊥
    go (inr le) = unmatched j begun le met
    go (inl lt) =
        let same : j ≡ k + 1 = omega (arith, lt, within) in
        at_next path.boundary refl (subst (λ (n : ℕ). Meets path.boundary (path_after path n)) same met)

-- the pages that are marked behind one step more
pub marks_more : {frames : ℕ} (job : JobFields) (k : ℕ) (old new : GuestState) (calls later : ℕ) (on : Bool) → Played job frames k old calls → IsTurn (script_of_job job) old calls on new later
    → new.frames.written ≡ marked_for_all (unmarked (2 ^ 20)) (written_of (path_of job).script (k + 1) (path_of job).start)
marks_more job k old new calls later on played turn =
    let path = path_of job in
    let s = spot old.machine calls in
    turn.marks.written ∙ ap (λ (marks : List Bool). marked_for_all marks (written_at path.script s)) played.written
    ∙ sym (marked_for_all-append (unmarked (2 ^ 20)) (written_of path.script k path.start) (written_at path.script s))
    ∙ ap (marked_for_all (unmarked (2 ^ 20))) (sym (written_more path k s played.there))

-- one step more, at which the boundary is not met
pub played_more : {frames : ℕ} (job : JobFields) (k : ℕ) (old new : GuestState) (calls later : ℕ) → Played job frames k old calls → IsTurn (script_of_job job) old calls true new later
    → (boundary_of job.end ≡ paths.At (spot new.machine later) → ⊥) → Played job frames (k + 1) new later
played_more job k old new calls later played turn differs =
    let path = path_of job in
    let s = spot old.machine calls in
    let there = after_more path k s (Running (spot new.machine later)) played.there turn.plays in
    record {
      there = there;
      items = count_of_trace path k s true played.there played.items (has_instruction path.script s (spot new.machine later) turn.plays);
      unmatched = unmatched_more path k (spot new.machine later) played.unmatched there differs;
      after = omega (arith, played.after, turn.not_less);
      within = omega (arith, played.within, turn.one_more);
      written = marks_more job k old new calls later true played turn;
      count = turn.marks.count ∙ played.count;
      origin = turn.origin ∙ played.origin;
    }

one_counted : {A : Type 0} (P : A → Type 0) (xs : List A) (x : A) (old new : ℕ) → CountsOne (P x) old new → IsCount P xs old → IsCount P (xs ++ x ∷ []) new
one_counted P xs x old new (inl (passes, more)) counted = subst (IsCount P (xs ++ x ∷ [])) (sym more) (count_yes P xs x old passes counted)
one_counted P xs x old new (inr (fails, same)) counted = subst (IsCount P (xs ++ x ∷ [])) (sym same) (count_no P xs x old fails counted)

at_most : (P : Type 0) (old new k : ℕ) → CountsOne P old new → old ≤ k → new ≤ k + 1
at_most P old new k (inl (passes, more)) few = omega (arith, more, few)
at_most P old new k (inr (fails, same)) few = omega (arith, same, few)

hits_more : (target : Spot) (spots : List Spot) (s : Spot) (old new : HitCounts) → AreHits target spots old → CountsAt target s old new → AreHits target (spots ++ s ∷ []) new
hits_more target spots s old new hits counts = record {
  quick = one_counted (PassesQuick target) spots s old.quick new.quick counts.quick hits.quick;
  registers = one_counted (PassesRegisters target) spots s old.registers new.registers counts.registers hits.registers;
  stack = one_counted (PassesStack target) spots s old.stack new.stack counts.stack hits.stack;
  whole = one_counted (PassesWhole target) spots s old.whole new.whole counts.whole hits.whole;
}

-- the position behind one step more, tested
pub tested_more : {frames : ℕ} (job : JobFields) (k : ℕ) (old new : GuestState) (calls later : ℕ) (before after : HitCounts) → Played job frames k old calls → IsTurn (script_of_job job) old calls true new later → Tested job k before
    → CountsBy job.end (spot new.machine later) before after → Tested job (k + 1) after
tested_more job k old new calls later before after played turn tested counts = record {
  counted = go job.end tested.counted counts;
  few = little job.end counts;
}
  where
    path : Path
    path = path_of job

    more : reached (play_step path.script) (k + 1) (Running path.start) ≡ reached (play_step path.script) k (Running path.start) ++ spot new.machine later ∷ []
    more = reached_more path k (spot old.machine calls) (spot new.machine later) played.there turn.plays

    go : (end : ends.Boundary) → paths.AreHitsBy (boundary_of end) path k before → CountsBy end (spot new.machine later) before after → paths.AreHitsBy (boundary_of end) path (k + 1) after
    go (At state position) hits by =
        subst (λ (spots : List Spot). AreHits (spot state.machine position) spots after) (sym more)
        (hits_more (spot state.machine position) (reached (play_step path.script) k (Running path.start)) (spot new.machine later) before after hits by)
    go End hits by = by ∙ hits

    little : (end : ends.Boundary) → CountsBy end (spot new.machine later) before after → AreFew after (k + 1)
    little (At state position) by = record {
      quick = at_most _ before.quick after.quick k by.quick tested.few.quick;
      registers = at_most _ before.registers after.registers k by.registers tested.few.registers;
      stack = at_most _ before.stack after.stack k by.stack tested.few.stack;
      whole = at_most _ before.whole after.whole k by.whole tested.few.whole;
    }
    little End by = record {
      quick = omega (arith, tested.few.quick, ap (λ (h : HitCounts). h.quick) by);
      registers = omega (arith, tested.few.registers, ap (λ (h : HitCounts). h.registers) by);
      stack = omega (arith, tested.few.stack, ap (λ (h : HitCounts). h.stack) by);
      whole = omega (arith, tested.few.whole, ap (λ (h : HitCounts). h.whole) by);
    }

pub has_room : (job : JobFields) (k : ℕ) (hits : HitCounts) → k < 2 ^ 40 → Tested job k hits → HasRoom hits
has_room job k hits lt tested = (omega (arith, tested.few.quick, lt), (omega (arith, tested.few.registers, lt), (omega (arith, tested.few.stack, lt), omega (arith, tested.few.whole, lt))))

-- a slice ends at last
pub never_past : (job : JobFields) (k : ℕ) → 2 ^ 40 ≤ k → IsJob job → IsUnmatched (path_of job) k → ⊥
never_past job k all is unmatched = go is.lasts
  where
    go : (s : ℕ) × Lasts (path_of job) job.peak s → ⊥
    go (s, lasts) = unmatched s lasts.begun (omega (arith, lasts.short, all)) lasts.met

module _ {L : Type 0} (stands : List Event → L → Type 0) (plan : PlanFields) where
  pub heard_none : (path : Path) (local : L) → stands [] local → Heard stands plan path 0 local
  heard_none path local is =
      let none : path_trace path 0 ≡ [] = along-zero (play_step path.script) (played_item path.script) (Running path.start) in record {
        local_is = subst (λ (items : List TraceItem). stands (trace_events plan items) local) (sym none) is;
        few = omega (arith, ap (λ (items : List TraceItem). length (trace_events plan items)) none);
      }

  pub heard_more : (path : Path) (k : ℕ) (s : Spot) (old new : L) → k < 2 ^ 40 → path_after path k ≡ Running s → Heard stands plan path k old → length (trace_events plan (played_item path.script s)) ≤ 24
      → TakesEvents stands (trace_events plan (played_item path.script s)) old new → Heard stands plan path (k + 1) new
  heard_more path k s old new room here heard few takes =
      let joined : trace_events plan (path_trace path (k + 1)) ≡ trace_events plan (path_trace path k) ++ trace_events plan (played_item path.script s) =
      ap (trace_events plan) (trace_more path k s here) ∙ flat_map-append (item_events plan) (path_trace path k) (played_item path.script s) in
      let size : length (trace_events plan (path_trace path (k + 1))) ≡ length (trace_events plan (path_trace path k)) + length (trace_events plan (played_item path.script s)) = ap length joined ∙ simp length-append in
      record {
        local_is = subst (λ (es : List Event). stands es new) (sym joined) (takes (trace_events plan (path_trace path k)) (omega (arith, heard.few, few, room)) heard.local_is);
        few = omega (arith, size, heard.few, few);
      }

module _ {T L S : Type 0} (stands : List Event → L → Type 0) (plan : PlanFields) where
  -- a slice that came to its boundary
  pub piece_at_end : {frames : ℕ} (job : JobFields) (k : ℕ) (old new : GuestState) (calls later : ℕ) (local : L) (hits : Hits) (piece : Piece T L S) → Played job frames k old calls → IsTurn (script_of_job job) old calls true new later
      → boundary_of job.end ≡ paths.At (spot new.machine later) → Heard stands plan (path_of job) (k + 1) local → Tested job (k + 1) (counts_of hits)
      → IsPieceWith stands job local (k + 1) later hits piece → IsPieceOf stands plan job piece
  piece_at_end job k old new calls later local hits piece played turn end heard tested is =
      let path = path_of job in
      let s = spot old.machine calls in
      let there = after_more path k s (Running (spot new.machine later)) played.there turn.plays in
      record {
        distance = k + 1;
        exact = record { begun = omega arith; met = subst (λ (b : Boundary). Meets b (path_after path (k + 1))) (sym end) there; least = least_so_far path k played.unmatched };
        index = is.index;
        local = is.local_is (trace_events plan (path_trace path (k + 1))) heard.local_is;
        few = heard.few;
        steps = is.steps_are ∙ sym (count_of_trace path k s true played.there played.items (has_instruction path.script s (spot new.machine later) turn.plays));
        calls = is.calls_are ∙ ap (λ (x : RunState Spot Halt). (state_of x).calls - job.position) (sym there);
        hits = subst (λ (h : Hits). AreHitsOf path (k + 1) (counts_of h)) (sym is.hits_are) tested.counted;
      }

  -- a slice whose play ended, as one does that ends with the run
  pub piece_at_halt : {frames : ℕ} (job : JobFields) (k : ℕ) (old new : GuestState) (calls later : ℕ) (has : Bool) (local : L) (hits : Hits) (piece : Piece T L S) → IsJob job → Played job frames k old calls
      → IsTurn (script_of_job job) old calls false new later → is_some (instruction_at new.machine) ≡ has → Heard stands plan (path_of job) (k + 1) local → Tested job k (counts_of hits)
      → IsPieceWith stands job local (k + cond {A = ℕ} has 1 0) later hits piece → IsPieceOf stands plan job piece
  piece_at_halt job k old new calls later has local hits piece is_job played turn there heard tested is = go is_job.lasts (play_step path.script s) refl turn.plays.0
    where
      path : Path
      path = path_of job

      s : Spot
      s = spot old.machine calls

      -- a play that ended meets no position
      at_end : (n : ℕ) (last : Spot) (halt : Halt) → path_after path (k + 1) ≡ Ended last halt → k + 1 ≤ n → (end : ends.Boundary) → Meets (boundary_of end) (path_after path n)
          → Meets (boundary_of end) (path_after path (k + 1)) × (paths.AreHitsBy (boundary_of end) path k (counts_of hits) → paths.AreHitsBy (boundary_of end) path (k + 1) (counts_of hits))
      at_end n last halt over later_step (At state position) met = cc (met, over_later (play_step path.script) (k + 1) n (Running path.start) last halt later_step over)
      at_end n last halt over later_step End met = ((last, halt, over), λ h. h)

      go : (n : ℕ) × Lasts path job.peak n → (x : RunState Spot Halt) → play_step path.script s ≡ x → HaltsAt s x → IsPieceOf stands plan job piece
      go (n, lasts) (Running other) e h = absurd h
      go (n, lasts) (Ended last halt) e h =
          let over = after_more path k s (Ended last halt) played.there e in
          let end = at_end n last halt over (least_so_far path k played.unmatched n lasts.begun lasts.met) job.end lasts.met in
          let same : spot new.machine later ≡ s = turn.plays.1 in
          record {
            distance = k + 1;
            exact = record { begun = omega arith; met = end.0; least = least_so_far path k played.unmatched };
            index = is.index;
            local = is.local_is (trace_events plan (path_trace path (k + 1))) heard.local_is;
            few = heard.few;
            steps = is.steps_are ∙ sym (count_of_trace path k s has played.there played.items (ap (λ (q : Spot). is_some (instruction_at q.machine)) (sym same) ∙ there));
            calls = is.calls_are ∙ ap (λ (q : Spot). q.calls - job.position) (same ∙ sym h) ∙ ap (λ (x : RunState Spot Halt). (state_of x).calls - job.position) (sym over);
            hits = subst (λ (h : Hits). AreHitsOf path (k + 1) (counts_of h)) (sym is.hits_are) (end.1 tested.counted);
          }
