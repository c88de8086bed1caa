-- Pieces that are merged in the order of their jobs.
use Rattle.std.proofs.Common.{◌≡◌, ℕ, ◌+◌, ◌-◌, ◌^◌, ◌<◌, ◌≤◌, List, [], ◌∷◌, ◌++◌, length, map, refl, sym, ap, subst, ◌∙◌, append_assoc, arith, length-append, Result, Ok}
use Rattle.std.specs.List.{AllZip}
use Rattle.std.specs.declared.alloc.AllocError.{AllocError}
use Rattle.std.proofs.lemmas.Grind.{flat_map-append}
use Rattle.std.proofs.lemmas.List.{append-nil}
use Rattle.guest_model.specs.Serial.{TraceItem}
use Rattle.insert_points.specs.Plan.{PlanFields}
use Rattle.insert_points.specs.declared.call.Event.{Event}
use Rattle.boundary_verify.specs.Job.{JobFields, Lasts, path_of}
use Rattle.boundary_verify.specs.Lines.{IsLineOf, Line}
use Rattle.boundary_verify.specs.Path.{path_trace}
use Rattle.boundary_verify.specs.Pieces.{IsPiece}
use Rattle.ordered_merge.specs.Merged.{line_of}
use Rattle.ordered_merge.specs.declared.merger.SliceLine.{SliceLine}
use Rattle.slice_runner.specs.Piece.{IsPieceOf}
use Rattle.tool_law.specs.Law.{Merges}
use Rattle.tool_law.specs.declared.piece.Piece.{Piece}
use Rattle.tool_step.specs.Steps.{item_events, trace_events}
use Rattle.sliced_run.specs.Sliced.{joined_items, line_by}
use Rattle.sliced_run.proofs.Lists.{joined_push, map_push, zip_push}
use Rattle.window_run.specs.Jobs.{AreJobs, HasMerged, IsResultOf}

-- jobs end no sooner than they begin
jobs_within : (n b e : ℕ) (jobs : List JobFields) → AreJobs n b jobs e → b ≤ e
jobs_within n b e [] same = omega (arith, same)
jobs_within n b e (job ∷ jobs) h = let rest = jobs_within (n + 1) h.0 e jobs h.4 in omega (arith, rest, h.2)

module _ {L U : Type 0} (stands : List Event → L → Type 0) (is_value : List Event → U → Type 0) (plan : PlanFields) where
  pub merged_none : (shared : U) (lines : List SliceLine) → is_value [] shared → lines ≡ [] → HasMerged stands is_value plan [] 0 shared lines
  merged_none shared lines value none = record {
    pieces = [];
    are_pieces = tt;
    are_lines = subst (λ (ls : List SliceLine). AllZip (λ line job. IsLineOf (path_of job) line) (map line_by ls) []) (sym none) tt;
    value = value;
    few = omega arith;
  }

module _ {T L S U : Type 0} (stands : List Event → L → Type 0) (is_value : List Event → U → Type 0) (plan : PlanFields) where
  -- the line of a piece is that of its job
  line_is : (job : JobFields) (piece : Piece T L S) → IsPieceOf stands plan job piece → IsLineOf (path_of job) (line_by (line_of piece))
  line_is job piece is = record { distance = is.distance; exact = is.exact; steps = is.steps; calls = is.calls; hits = is.hits }

  -- one piece more
  pub merged_more : (jobs : List JobFields) (e c : ℕ) (shared new : U) (lines now : List SliceLine) (job : JobFields) (piece : Piece T L S) → HasMerged stands is_value plan jobs e shared lines → e < c → c ≤ 2 ^ 40
      → Lasts (path_of job) job.peak (c - e) → IsPieceOf stands plan job piece → Merges stands is_value shared piece.local new → now ≡ lines ++ line_of piece ∷ [] → HasMerged stands is_value plan (jobs ++ job ∷ []) c new now
  merged_more jobs e c shared new lines now job piece h rises room lasts is merges more =
      let items : List TraceItem = path_trace (path_of job) is.distance in
      let within : is.distance ≤ c - e = is.exact.least (c - e) lasts.begun lasts.met in
      let before : List Event = trace_events plan (joined_items h.pieces) in
      let all : trace_events plan (joined_items (h.pieces ++ items ∷ [])) ≡ before ++ trace_events plan items =
      ap (trace_events plan) (joined_push h.pieces items) ∙ flat_map-append (item_events plan) (joined_items h.pieces) items in
      let size : length (trace_events plan (joined_items (h.pieces ++ items ∷ []))) ≡ length before + length (trace_events plan items) = ap length all ∙ simp length-append in
      let joinable : length before + length (trace_events plan items) < 2 ^ 50 = omega (arith, h.few, is.few, within, room, rises) in
      record {
        pieces = h.pieces ++ items ∷ [];
        are_pieces = zip_push (λ items job. IsPiece (path_of job) items) h.pieces jobs items job h.are_pieces (record { distance = is.distance; exact = is.exact; items_are = refl });
        are_lines = subst (λ (ls : List Line). AllZip (λ line job. IsLineOf (path_of job) line) ls (jobs ++ job ∷ [])) (sym (ap (map line_by) more ∙ map_push line_by lines (line_of piece)))
            (zip_push (λ line job. IsLineOf (path_of job) line) (map line_by lines) jobs (line_by (line_of piece)) job h.are_lines (line_is job piece is));
        value = subst (λ (es : List Event). is_value es new) (sym all) (merges before (trace_events plan items) joinable h.value is.local);
        few = omega (arith, size, h.few, is.few, within, rises);
      }

  -- part of the way: some jobs were merged, and these results are those of the others
  pub record IsHalfway (all : List JobFields) (f : ℕ) (shared : U) (lines : List SliceLine) (rest : List (Result (Piece T L S) AllocError)) : Type 0 where
    pub done : List JobFields
    pub e : ℕ
    pub todo : List JobFields
    pub merged : HasMerged stands is_value plan done e shared lines
    pub jobs : AreJobs (length lines) e todo f
    pub results : AllZip (IsResultOf stands plan) todo rest
    pub all_are : done ++ todo ≡ all

  pub halfway_start : (done jobs : List JobFields) (e f : ℕ) (shared : U) (lines : List SliceLine) (results : List (Result (Piece T L S) AllocError)) → HasMerged stands is_value plan done e shared lines
      → AreJobs (length lines) e jobs f → AllZip (IsResultOf stands plan) jobs results → IsHalfway (done ++ jobs) f shared lines results
  halfway_start done jobs e f shared lines results merged are z = record { done = done; e = e; todo = jobs; merged = merged; jobs = are; results = z; all_are = refl }

  module _ (all : List JobFields) (f : ℕ) (shared new : U) (lines now : List SliceLine) (piece : Piece T L S) (rest : List (Result (Piece T L S) AllocError)) (room : f ≤ 2 ^ 40) (merges : Merges stands is_value shared piece.local new)
      (more : now ≡ lines ++ line_of piece ∷ []) where
    one_more : length now ≡ length lines + 1
    one_more = ap length more ∙ simp length-append

    step : (done todo : List JobFields) (e : ℕ) → HasMerged stands is_value plan done e shared lines → AreJobs (length lines) e todo f → AllZip (IsResultOf stands plan) todo (Ok piece ∷ rest) → done ++ todo ≡ all → IsHalfway all f new now rest
    step done [] e merged jobs z are = absurd z
    step done (job ∷ todo) e merged jobs z are = record {
      done = done ++ job ∷ [];
      e = jobs.0;
      todo = todo;
      merged = merged_more done e jobs.0 shared new lines now job piece merged jobs.2 (let within = jobs_within (length lines + 1) jobs.0 f todo jobs.4 in omega (arith, within, room)) jobs.3 z.0 merges more;
      jobs = subst (λ (n : ℕ). AreJobs n jobs.0 todo f) (sym one_more) jobs.4;
      results = z.1;
      all_are = append_assoc done (job ∷ []) todo ∙ are;
    }

    pub halfway_step : IsHalfway all f shared lines (Ok piece ∷ rest) → IsHalfway all f new now rest
    halfway_step h = step h.done h.todo h.e h.merged h.jobs h.results h.all_are

  last : (all done todo : List JobFields) (rest : List (Result (Piece T L S) AllocError)) (e f : ℕ) (shared : U) (lines : List SliceLine) → HasMerged stands is_value plan done e shared lines → AreJobs (length lines) e todo f
      → AllZip (IsResultOf stands plan) todo rest → rest ≡ [] → done ++ todo ≡ all → HasMerged stands is_value plan all f shared lines
  last all done [] rest e f shared lines merged same z none are =
      let jobs : done ≡ all = sym (append-nil done) ∙ are in
      subst (λ (js : List JobFields). HasMerged stands is_value plan js f shared lines) jobs (subst (λ (k : ℕ). HasMerged stands is_value plan done k shared lines) same merged)
  last all done (job ∷ todo) [] e f shared lines merged same z none are = absurd z
  last all done (job ∷ todo) (r ∷ rest) e f shared lines merged same z none are = cc

  pub halfway_end : (all : List JobFields) (f : ℕ) (shared : U) (lines : List SliceLine) (rest : List (Result (Piece T L S) AllocError)) → rest ≡ [] → IsHalfway all f shared lines rest → HasMerged stands is_value plan all f shared lines
  halfway_end all f shared lines rest none h = last all h.done h.todo rest h.e f shared lines h.merged h.jobs h.results none h.all_are
