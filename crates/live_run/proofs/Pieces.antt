-- The pieces of a run's jobs.
use Rattle.std.proofs.Common.{◌≡◌, ℕ, zero, suc, ◌+◌, ◌-◌, ◌^◌, ◌<◌, ◌≤◌, List, [], ◌∷◌, ◌++◌, length, map, refl, sym, ap, subst, ◌∙◌, arith, length-append, Result}
use Rattle.std.specs.Prelude.{IfOk}
use Rattle.std.proofs.lemmas.Result.{IfOk-weaker}
use Rattle.std.specs.List.{AllZip}
use Rattle.std.proofs.lemmas.Grind.{flat_map-append}
use Rattle.sp_host.specs.Told.{Told}
use Rattle.guest_model.specs.Machine.{Machine}
use Rattle.guest_model.specs.Runs.{Running}
use Rattle.guest_model.specs.Serial.{End, EndsAt, Position, TraceItem, step_of}
use Rattle.guest_model.proofs.Runs.{running_earlier}
use Rattle.insert_points.specs.Plan.{PlanFields}
use Rattle.insert_points.specs.declared.call.Event.{Event}
use Rattle.boundary_verify.specs.Job.{JobFields, path_of}
use Rattle.boundary_verify.specs.Lines.{IsLineOf, Line}
use Rattle.boundary_verify.specs.Path.{IsMatch, Path, last_path, path_trace}
use Rattle.boundary_verify.specs.Pieces.{IsPiece}
use Rattle.boundary_verify.proofs.Ends.{ends_once}
use Rattle.boundary_verify.proofs.Joins.{match_once}
use Rattle.boundary_verify.proofs.Matches.{match_between, match_last}
use Rattle.ordered_merge.specs.Merged.{line_of}
use Rattle.ordered_merge.specs.declared.merger.SliceLine.{SliceLine}
use Rattle.slice_ring.specs.Ticket.{Tag}
use Rattle.slice_runner.specs.Piece.{IsPieceOf}
use Rattle.sliced_run.specs.Sliced.{joined_items, line_by}
use Rattle.sliced_run.proofs.Lists.{joined_push, map_push, zip_push}
use Rattle.tool_law.specs.Law.{Merges}
use Rattle.tool_law.specs.declared.piece.Piece.{Piece}
use Rattle.tool_step.specs.Steps.{item_events, trace_events}
use Rattle.live_run.specs.Live.{HasFewEvents, IsJobOfRun, IsPathBetween, IsPieceBetween, IsPieceOfPath, IsPieceOfRun, IsPieceUpTo, IsWithin, LastsBetween}
use Rattle.live_run.specs.Merged.{HasMerged}
use Rattle.live_run.specs.Tags.{end_at, path_of_tag, path_to, reached_by}

-- the last of some jobs ends where it does
pub reached_more : (t b : ℕ) (tags : List Tag) (tag : Tag) → reached_by t b (tags ++ tag ∷ []) ≡ end_at t tag.1
reached_more t b [] tag = refl
reached_more t b (first ∷ tags) tag = reached_more t (end_at t first.1) tags tag

-- a job that lies within the run has a step, and ends with the run at the latest
within_end : (t b c : ℕ) → IsWithin t b c → (b < end_at t c) × (end_at t c ≤ t + 1)
within_end t b zero h = (omega (arith, h), omega arith)
within_end t b (suc c) h = (h.0, omega (arith, h.1))

-- the match of a job's path is its end, in a run that ends
match_within : (p : Position) (t : ℕ) (end : End) (b c : ℕ) → EndsAt p t end → IsWithin t b c → IsMatch (path_to p t b c) (end_at t c - b)
match_within p t end b zero ends within = match_last p b t end ends within
match_within p t end b (suc c) ends within = match_between p b (suc c) _ _ end ends.over (running_earlier step_of (suc c) t (Running p) within.1 ends.position) within.0

path_is : (p : Position) (t : ℕ) (end : End) (b c : ℕ) (path : Path) → EndsAt p t end → IsPathBetween p b c path → path ≡ path_to p t b c
path_is p t end b zero path ends h = h.4 ∙ ap (last_path p b) (ends_once p h.0 t h.1 end h.2 ends).0
path_is p t end b (suc c) path ends h = h

module _ {T L S : Type 0} (stands : List Event → L → Type 0) (plan : PlanFields) where
  few_of : (b c : ℕ) (job : JobFields) (piece : Piece T L S) → LastsBetween b c job → IsPieceOf stands plan job piece → HasFewEvents stands (b, c) piece
  few_of b zero job piece lasts is =
      let short : is.distance ≤ lasts.0 = is.exact.least lasts.0 lasts.2.begun lasts.2.met in
      record { events = trace_events plan (path_trace (path_of job) is.distance); local = is.local; few = omega (arith, is.few, short, lasts.1) }
  few_of b (suc c) job piece lasts is =
      let short : is.distance ≤ suc c - b = is.exact.least (suc c - b) lasts.1.begun lasts.1.met in
      record { events = trace_events plan (path_trace (path_of job) is.distance); local = is.local; few = omega (arith, is.few, short) }

  of_path : (job : JobFields) (piece : Piece T L S) → IsPieceOf stands plan job piece → IsPieceOfPath stands plan (path_of job) piece
  of_path job piece is = record {
    distance = is.distance;
    exact = is.exact;
    is = record { local = is.local; few = is.few; steps = is.steps; calls = is.calls; hits = is.hits };
  }

  -- the piece of a job is the one that the run has there
  pub piece_of_run : (launch : Told) (m : Machine) (b c : ℕ) (job : JobFields) (piece : Piece T L S) → IsJobOfRun launch m b c job → IsPieceOf stands plan job piece → IsPieceOfRun stands plan launch m job.index (b, c) piece
  piece_of_run launch m b c job piece h is = record {
    index = is.index;
    few = few_of b c job piece h.lasts is;
    told = λ t w same. record { path = path_of job; between = h.told t w same; of_path = of_path job piece is };
  }

  piece_up_to : (p : Position) (t : ℕ) (end : End) (tag : Tag) (piece : Piece T L S) → EndsAt p t end → IsWithin t tag.0 tag.1 → IsPieceBetween stands plan tag piece p
      → IsMatch (path_of_tag p t tag) (end_at t tag.1 - tag.0) × IsPieceUpTo stands plan (path_of_tag p t tag) (end_at t tag.1 - tag.0) piece
  piece_up_to p t end tag piece ends within h =
      let exact = match_within p t end tag.0 tag.1 ends within in
      let same = path_is p t end tag.0 tag.1 h.path ends h.between in
      let of : IsPieceOfPath stands plan (path_of_tag p t tag) piece = subst (λ (path : Path). IsPieceOfPath stands plan path piece) same h.of_path in
      let here : of.distance ≡ end_at t tag.1 - tag.0 = match_once (path_of_tag p t tag) of.distance (end_at t tag.1 - tag.0) of.exact exact in
      (exact, subst (λ (d : ℕ). IsPieceUpTo stands plan (path_of_tag p t tag) d piece) here of.is)

-- the piece of a job that was run, where there is one
pub answered : {T L S X E : Type 0} (is_local : X → List Event → L → Type 0) (x y : X) (plan later : PlanFields) (launch : Told) (m : Machine) (b c n : ℕ) (job run : JobFields) (r : Result (Piece T L S) E) → x ≡ y → plan ≡ later → job ≡ run → job.index ≡ n
    → IsJobOfRun launch m b c job → IfOk r (IsPieceOf (is_local y) later run) → IfOk r (IsPieceOfRun (is_local x) plan launch m n (b, c))
answered is_local x y plan later launch m b c n job run r tools plans jobs index h is =
    let of : IfOk r (IsPieceOf (is_local x) plan job) =
    subst (λ z. IfOk r (IsPieceOf (is_local z) plan job)) (sym tools) (subst (λ (k : PlanFields). IfOk r (IsPieceOf (is_local y) k job)) (sym plans) (subst (λ (j : JobFields). IfOk r (IsPieceOf (is_local y) later j)) (sym jobs) is)) in
    IfOk-weaker r (IsPieceOf (is_local x) plan job) (IsPieceOfRun (is_local x) plan launch m n (b, c))
    (λ piece k. subst (λ (i : ℕ). IsPieceOfRun (is_local x) plan launch m i (b, c) piece) index (piece_of_run (is_local x) plan launch m b c job piece h k)) of

module _ {L U : Type 0} (stands : List Event → L → Type 0) (is_value : List Event → U → Type 0) (plan : PlanFields) where
  -- no piece yet
  pub merged_none : (p : Position) (t : ℕ) (shared : U) (lines : List SliceLine) → is_value [] shared → lines ≡ [] → HasMerged stands is_value plan p t [] shared lines
  merged_none p t shared lines value none = record {
    pieces = [];
    are_pieces = tt;
    are_lines = subst (λ (ls : List SliceLine). AllZip (λ line tag. IsLineOf (path_of_tag p t tag) line) (map line_by ls) []) (sym none) tt;
    value = value;
    few = omega arith;
  }

module _ {T L S U : Type 0} (stands : List Event → L → Type 0) (is_value : List Event → U → Type 0) (plan : PlanFields) where
  -- one piece more
  pub merged_more : (p : Position) (t : ℕ) (end : End) (tags : List Tag) (tag : Tag) (shared new : U) (lines now : List SliceLine) (piece : Piece T L S) → EndsAt p t end → t < 2 ^ 40 → tag.0 ≡ reached_by t 0 tags → IsWithin t tag.0 tag.1
      → IsPieceBetween stands plan tag piece p → Merges stands is_value shared piece.local new → now ≡ lines ++ line_of piece ∷ [] → HasMerged stands is_value plan p t tags shared lines → HasMerged stands is_value plan p t (tags ++ tag ∷ []) new now
  merged_more p t end tags tag shared new lines now piece ends room behind within between merges more h =
      let path : Path = path_of_tag p t tag in
      let d : ℕ = end_at t tag.1 - tag.0 in
      let up_to = piece_up_to stands plan p t end tag piece ends within between in
      let items : List TraceItem = path_trace path d in
      let before : List Event = trace_events plan (joined_items h.pieces) in
      let all : trace_events plan (joined_items (h.pieces ++ items ∷ [])) ≡ before ++ trace_events plan items =
      ap (trace_events plan) (joined_push h.pieces items) ∙ flat_map-append (item_events plan) (joined_items h.pieces) items in
      let size : length (trace_events plan (joined_items (h.pieces ++ items ∷ []))) ≡ length before + length (trace_events plan items) = ap length all ∙ simp length-append in
      let bounds = within_end t tag.0 tag.1 within in
      let joinable : length before + length (trace_events plan items) < 2 ^ 50 = omega (arith, h.few, up_to.1.few, behind, bounds.0, bounds.1, room) in
      record {
        pieces = h.pieces ++ items ∷ [];
        are_pieces = zip_push (λ items tag. IsPiece (path_of_tag p t tag) items) h.pieces tags items tag h.are_pieces (record { distance = d; exact = up_to.0; items_are = refl });
        are_lines = subst (λ (ls : List Line). AllZip (λ line tag. IsLineOf (path_of_tag p t tag) line) ls (tags ++ tag ∷ [])) (sym (ap (map line_by) more ∙ map_push line_by lines (line_of piece)))
            (zip_push (λ line tag. IsLineOf (path_of_tag p t tag) line) (map line_by lines) tags (line_by (line_of piece)) tag h.are_lines (record { distance = d; exact = up_to.0; steps = up_to.1.steps; calls = up_to.1.calls; hits = up_to.1.hits }));
        value = subst (λ (es : List Event). is_value es new) (sym all) (merges before (trace_events plan items) joinable h.value up_to.1.local);
        few = omega (arith, size, h.few, up_to.1.few, behind, bounds.0, reached_more t 0 tags tag);
      }
