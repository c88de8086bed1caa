-- The course of a live run: how far it came, and what was merged.
use Rattle.std.proofs.Common.{◌≡◌, ℕ, suc, ◌+◌, ◌^◌, ◌<◌, ◌≤◌, Bool, List, [], ◌∷◌, ◌++◌, length, take, refl, sym, ap, subst, ◌∙◌, ◌⊎◌, inl, inr, arith, length-append, Result, Ok, Err}
use Rattle.std.specs.Prelude.{IfOk, OnOk, Option, None, Some}
use Rattle.std.proofs.lemmas.Bool.{cases_lt}
use mathlib.Core.Option.{some}
use lib.ListN.{get_elem?}
use Rattle.sp_host.specs.Told.{Told}
use Rattle.guest_model.specs.Machine.{Machine}
use Rattle.guest_model.specs.Runs.{Running}
use Rattle.guest_model.specs.Serial.{EndsAt, Position, position_at, run_of, step_of}
use Rattle.guest_model.specs.Serial as serial
use Rattle.guest_model.proofs.Runs.{over_later}
use Rattle.insert_points.specs.Plan.{PlanFields}
use Rattle.insert_points.specs.declared.call.Event.{Event}
use Rattle.boundary_verify.specs.Cuts.{AreBetween, AreFirstCuts, CutLimits}
use Rattle.boundary_verify.proofs.Cuts.{cuts_rise}
use Rattle.boundary_verify.proofs.Ends.{ends_once}
use Rattle.master_run.specs.Answers.{PacerState}
use Rattle.master_run.specs.Master.{HasRunTo, MasterState, limits_of, start_at}
use Rattle.master_run.specs.Turn.{RunIsOver}
use Rattle.master_run.specs.declared.limits.Limits.{Limits}
use Rattle.ordered_merge.specs.Merged.{line_of}
use Rattle.ordered_merge.specs.declared.merger.SliceLine.{SliceLine}
use Rattle.rv_machine.specs.declared.step.End.{End}
use Rattle.serial_run.specs.Start.{start_of}
use Rattle.slice_ring.specs.Ticket.{Tag, Ticket}
use Rattle.sliced_run.specs.Sliced.{SlicedFail}
use Rattle.sliced_run.proofs.Faults.{ends_within}
use Rattle.sp_report.specs.Lines.{end_by}
use Rattle.guest_model.specs.Call.{World}
use Rattle.syscall_layer.specs.Serve.{told_after}
use Rattle.syscall_layer.specs.declared.fault.RunFault.{RunFault}
use Rattle.syscall_layer.specs.declared.fault.RunFault.TheVariants as faults
use Rattle.tool_law.specs.Law.{Merges}
use Rattle.tool_law.specs.declared.piece.Piece.{Piece}
use Rattle.live_run.specs.Live.{IsPieceBetween, IsPieceOfRun, RunStart, WhereStarted}
use Rattle.live_run.specs.Merged.{DriveGives, HasMerged, HasMergedIf, IsCutSoFar, IsRun, MergesMore, MergesNext, and_one, last_cut}
use Rattle.live_run.specs.Tags.{tags_from}
use Rattle.live_run.proofs.Pieces.{merged_more, merged_none}
use Rattle.live_run.proofs.Tags.{tags_chain, take_all, take_before, take_more}

pub on_ok_both : {T E : Type 0} (r : Result T E) {P Q R : Type 0} → (P → Q → R) → OnOk r P → OnOk r Q → OnOk r R
on_ok_both (Ok x) f p q = f p q
on_ok_both (Err e) f p q = tt

pub on_ok : {T E : Type 0} (r : Result T E) {P Q : Type 0} → (P → Q) → OnOk r P → OnOk r Q
on_ok (Ok x) f p = f p
on_ok (Err e) f p = tt

-- a run that goes on is not past its end
before_end : (p : Position) (n t : ℕ) (q : Position) (end : serial.End) → run_of n p ≡ Running q → EndsAt p t end → n ≤ t
before_end p n t q end goes ends = go (cases_lt t n)
  where
    go : (t < n) ⊎ (n ≤ t) → n ≤ t
    go (inr le) = le
    go (inl lt) = let over = over_later step_of (t + 1) n (Running p) (position_at t p) end (omega (arith, lt)) ends.over in cc (goes, over)

first_rise : (limits : CutLimits) (answers : ℕ → Bool) (p : Position) (e t b : ℕ) (cuts : List ℕ) → e ≤ t → AreFirstCuts limits answers p e b cuts → AreBetween t b cuts
first_rise limits answers p e t b [] within h = subst (λ (n : ℕ). n ≤ t) h within
first_rise limits answers p e t b (c ∷ cuts) within h = (h.0.later, first_rise limits answers p e t c cuts within h.1)

-- the cuts of a run that ends
pub cuts_before_end : (t : Told) (p : Position) (first : PacerState) (ended : Option End) (m : MasterState) (told : Told) (now : PacerState) (last : ℕ) (end : serial.End) → IsRun t p first ended m told now → EndsAt p last end → AreBetween last 0 m.cuts
cuts_before_end t p first None m told now last end run ends =
    let h : HasRunTo t p first m told now = run in
    first_rise (limits_of m.limits) h.answers p m.position last 0 m.cuts (before_end p m.position last h.position end h.stands ends) h.cuts
cuts_before_end t p first (Some over) m told now last end run ends =
    let h : RunIsOver t p first (end_by over) m told now = run in
    let order : AreBetween m.position 0 m.cuts = cuts_rise (limits_of m.limits) h.all.answers p m.position 0 m.cuts h.all.cuts in
    subst (λ (n : ℕ). AreBetween n 0 m.cuts) (ends_once p m.position last (end_by over) end h.ends ends).0 order

-- want of memory where the master stands
pub lacks_here : (t : Told) (p : Position) (first : PacerState) (ended : Option End) (m : MasterState) (told : Told) (now : PacerState) (budget : ℕ) → IsRun t p first ended m told now → and_one ended m.position ≤ budget
    → SlicedFail t (record { start = p; budget = budget }) faults.NoMemory told
lacks_here t p first None m told now budget run within =
    let h : HasRunTo t p first m told now = run in
    inl (record { steps = m.position; within = within; position = h.position; stands = h.stands; told_is = h.told_is })
lacks_here t p first (Some end) m told now budget run within =
    inr (position_at m.position p, end, ends_within t p first (end_by end) m told now budget run (omega (arith, within)))

-- what a piece that was collected is
pub collected : {T L S X : Type 0} (is_local : X → List Event → L → Type 0) (tool : X) (number first second : ℕ) (run : RunStart X) (ticket : Ticket (RunStart X)) (piece : Piece T L S) → record { number = number; tag = (first, second); topic = run } ≡ ticket
    → ticket.topic.tool ≡ tool → IsPieceOfRun (is_local run.tool) run.plan run.told run.machine number (first, second) piece → WhereStarted ticket.topic.told ticket.topic.machine (λ t p. IsPieceBetween (is_local tool) ticket.topic.plan ticket.tag piece p)
collected {T} {L} {S} {X} is_local tool number first second run ticket piece seen same h =
    let of = subst (λ (k : Ticket (RunStart X)). IsPieceOfRun (is_local k.topic.tool) k.topic.plan k.topic.told k.topic.machine k.number k.tag piece) seen h in
    (subst (λ (x : X). IsPieceOfRun (is_local x) ticket.topic.plan ticket.topic.told ticket.topic.machine ticket.number ticket.tag piece) same of).told

-- the run at its launch
pub begins : (launch told : Told) (m machine : Machine) (first now : PacerState) (master : MasterState) → launch ≡ told → m ≡ machine → now ≡ first
    → ((t : Told) (w : World) (f : PacerState) → HasRunTo t (record { machine = machine; world = w; calls = 0 }) f master (told_after t w []) f) → WhereStarted launch m (λ t p. IsRun t p first None master told now)
begins launch told m machine first now master tells machines shown h = λ t w same.
    let p : Position = start_of m w in
    let start : HasRunTo t p first master (told_after t w []) first = subst (λ (k : Machine). HasRunTo t (start_of k w) first master (told_after t w []) first) (sym machines) (h t w first) in
    subst (λ (k : PacerState). HasRunTo t p first master told k) (sym shown) (subst (λ (k : Told). HasRunTo t p first master k first) (sym same ∙ tells) start)

-- the limits of the master are those of its launch
pub launched : (m machine : Machine) (limits : Limits) (master : MasterState) → m ≡ machine → master ≡ start_at machine limits → master ≡ start_at m master.limits
launched m machine limits master same start =
    let kept : master.limits ≡ limits = ap (λ (k : MasterState). k.limits) start in
    start ∙ (ap (λ (k : Machine). start_at k limits) (sym same) ∙ ap (start_at m) (sym kept))

-- before the first step
pub cut_none : (m : MasterState) (machine : Machine) → m ≡ start_at machine m.limits → IsCutSoFar m.limits None m
cut_none m machine start =
    let cuts : m.cuts ≡ [] = ap (λ (k : MasterState). k.cuts) start in
    let position : m.position ≡ 0 = ap (λ (k : MasterState). k.position) start in
    record {
      ready = (ap (λ (k : MasterState). k.standing) start, position ∙ sym (ap (last_cut 0) cuts));
      few = omega (arith, ap length cuts);
      within = omega (arith, position);
      limits_are = refl;
    }

pub longer_by_one : (tags later : List Tag) (tag : Tag) (m n : ℕ) → later ≡ tags ++ tag ∷ [] → m ≤ length tags → n ≡ m → n ≤ length later
longer_by_one tags later tag m n more within same =
    let longer : length (tags ++ tag ∷ []) ≡ length tags + 1 = simp length-append in omega (arith, ap length more, longer, within, same)

module _ {T L S U : Type 0} (stands : List Event → L → Type 0) (is_value : List Event → U → Type 0) (plan : PlanFields) where
  -- a piece that was put
  pub merges_next : (launch : Told) (m : Machine) (tag : Tag) (old new : U) (before lines : List SliceLine) (piece : Piece T L S) → WhereStarted launch m (λ t p. IsPieceBetween stands plan tag piece p) → Merges stands is_value old piece.local new
      → lines ≡ before ++ line_of piece ∷ [] → WhereStarted launch m (λ t p. MergesNext stands is_value plan p tag old before new lines)
  merges_next launch m tag old new before lines piece between merges more = λ t w same last end tags ends room behind within h.
      merged_more stands is_value plan (start_of m w) last end tags tag old new before lines piece ends room behind within (between t w same) merges more h

-- of the run that this one is
pub about_run : {L U X : Type 0} (stands : List Event → L → Type 0) (is_value : List Event → U → Type 0) (topic run : RunStart X) (plan : PlanFields) (tag : Tag) (old new : U) (before lines : List SliceLine) → topic ≡ run → run.plan ≡ plan
    → WhereStarted topic.told topic.machine (λ t p. MergesNext stands is_value topic.plan p tag old before new lines) → WhereStarted run.told run.machine (λ t p. MergesNext stands is_value plan p tag old before new lines)
about_run {L} {U} {X} stands is_value topic run plan tag old new before lines same plans h =
    subst (λ (k : PlanFields). WhereStarted run.told run.machine (λ t p. MergesNext stands is_value k p tag old before new lines)) plans
    (subst (λ (k : RunStart X). WhereStarted k.told k.machine (λ t p. MergesNext stands is_value k.plan p tag old before new lines)) same h)

module _ {L U : Type 0} (stands : List Event → L → Type 0) (is_value : List Event → U → Type 0) (plan : PlanFields) where
  -- it is the piece of the next of these jobs
  pub merges_more : (p : Position) (tags : List Tag) (m n : ℕ) (tag next : Tag) (old new : U) (before lines : List SliceLine) → get_elem? tags m ≡ some tag → next ≡ tag → n ≡ m + 1 → MergesNext stands is_value plan p next old before new lines
      → MergesMore stands is_value plan p tags m old before n new lines
  merges_more p tags m n tag next old new before lines at same one merges = λ last end ends room chain h.
      let step = subst (λ (k : Tag). MergesNext stands is_value plan p k old before new lines) same merges in
      let place = chain m tag at in
      let longer : n ≡ suc m = omega (arith, one) in
      let more = step last end (take m tags) ends room place.0 place.1 h in
      subst (λ (k : ℕ). HasMerged stands is_value plan p last (take k tags) new lines) (sym longer) (subst (λ (ts : List Tag). HasMerged stands is_value plan p last ts new lines) (sym (take_more tags m tag at)) more)

  -- nothing was merged yet
  pub none_merged : (budget : ℕ) (p : Position) (tags : List Tag) (m : ℕ) (shared : U) (lines : List SliceLine) → m ≡ 0 → is_value [] shared → lines ≡ [] → HasMergedIf stands is_value plan budget p (take m tags) shared lines
  none_merged budget p tags m shared lines none value empty = λ last end ends within.
      subst (λ (k : ℕ). HasMerged stands is_value plan p last (take k tags) shared lines) (sym none) (merged_none stands is_value plan p last shared lines value empty)

  -- one more job was published
  pub still_merged : (budget : ℕ) (p : Position) (tags later : List Tag) (tag : Tag) (m n : ℕ) (shared : U) (lines : List SliceLine) → later ≡ tags ++ tag ∷ [] → m ≤ length tags → n ≡ m → HasMergedIf stands is_value plan budget p (take m tags) shared lines
      → HasMergedIf stands is_value plan budget p (take n later) shared lines
  still_merged budget p tags later tag m n shared lines more within same h =
      subst (λ (ts : List Tag). HasMergedIf stands is_value plan budget p ts shared lines) (sym (ap (λ (k : ℕ). take k later) same ∙ (ap (take m) more ∙ take_before tags m tag within))) h

  -- one more piece was merged, or none
  pub merged_on : (launch : Told) (machine : Machine) (first : PacerState) (ended : Option End) (master : MasterState) (told : Told) (now : PacerState) (budget : ℕ) (tags later : List Tag) (m n : ℕ) (old new : U) (before lines : List SliceLine) → budget ≤ 2 ^ 40
      → tags ≡ tags_from 0 master.cuts ended → later ≡ tags → WhereStarted launch machine (λ t p. IsRun t p first ended master told now) → WhereStarted launch machine (λ t p. HasMergedIf stands is_value plan budget p (take m tags) old before)
      → WhereStarted launch machine (λ t p. MergesMore stands is_value plan p tags m old before n new lines) → WhereStarted launch machine (λ t p. HasMergedIf stands is_value plan budget p (take n later) new lines)
  merged_on launch machine first ended master told now budget tags later m n old new before lines few are same_tags run merged merges = λ t w same last end ends within.
      let p : Position = start_of machine w in
      let chain = tags_chain last master.cuts ended tags are (cuts_before_end t p first ended master told now last end (run t w same) ends) in
      subst (λ (ts : List Tag). HasMerged stands is_value plan p last (take n ts) new lines) (sym same_tags)
      (merges t w same last end ends (omega (arith, few, within)) chain (merged t w same last end ends within))

  -- all jobs that were published were merged
  pub all_merged : (t : Told) (p : Position) (first : PacerState) (budget : ℕ) (r : Result End RunFault) (m : MasterState) (tags later : List Tag) (n : ℕ) (shared : U) (lines : List SliceLine) (told : Told) (now : PacerState) → IfOk r (λ (end : End). n ≡ length tags) → later ≡ tags
      → DriveGives stands is_value plan t p first budget r m (take n tags) shared lines told now → DriveGives stands is_value plan t p first budget r m later shared lines told now
  all_merged t p first budget (Ok end) m tags later n shared lines told now all same h = (h.0, subst (λ (ts : List Tag). HasMergedIf stands is_value plan budget p ts shared lines) (take_all tags n all ∙ sym same) h.1)
  all_merged t p first budget (Err fault) m tags later n shared lines told now all same h = h
