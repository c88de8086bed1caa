-- The run that jobs and pieces are of, and what they keep of it.
use Rattle.std.specs.Prelude.{◌≡◌, ℕ, zero, suc, ◌-◌, ◌*◌, ◌^◌, ◌<◌, ◌≤◌, List, [], length}
use Rattle.std.specs.Prelude.{Option, refl}
use Rattle.std.specs.Coded.{Coded, code_by, coded×, coded_list, coded_option, coded_ℕ}
use Rattle.std.specs.FinMap as map
use Rattle.sp_host.specs.Told.{Files, Told}
use Rattle.guest_model.specs.Call.{World}
use Rattle.guest_model.specs.Machine.{Machine}
use Rattle.guest_model.specs.Runs.{state_of}
use Rattle.guest_model.specs.Serial.{End, EndsAt, Position}
use Rattle.insert_points.specs.Plan.{PlanFields}
use Rattle.insert_points.specs.declared.call.Event.{Event}
use Rattle.boundary_verify.specs.Job.{JobFields, Lasts, path_of}
use Rattle.boundary_verify.specs.Path.{AreHitsOf, IsMatch, Path, last_path, path_after, path_between, path_trace}
use Rattle.serial_run.specs.Start.{start_of}
use Rattle.slice_ring.specs.Ticket.{Tag}
use Rattle.slice_runner.specs.Piece.{counts_of}
use Rattle.syscall_layer.specs.Serve.{told_after}
use Rattle.tool_law.specs.declared.piece.Piece.{Piece}
use Rattle.tool_step.specs.Steps.{trace_events}

-- the run that jobs and pieces are of: the tool and its plan, the machine at position 0, and what was told then
pub record RunStart (T : Type 0) : Type 0 where
  pub tool : T
  pub plan : PlanFields
  pub machine : Machine
  pub told : Told

abbrev bytes_code : Coded (Option (List ℕ))
bytes_code = coded_option (coded_list coded_ℕ)

-- how what is told is stored as plain data
abbrev pub told_code : Coded Told
told_code = code_by (Option Files × (Option (List ℕ) × (Option (List ℕ) × (Option (List ℕ) × (Option (List ℕ) × Option (List ℕ))))))
    (coded× (coded_option (map.code (coded_list coded_ℕ) (coded_list coded_ℕ))) (coded× bytes_code (coded× bytes_code (coded× bytes_code (coded× bytes_code bytes_code)))))
    (λ t. (t.files, (t.input, (t.moments, (t.out, (t.err, t.report))))))
    (λ p. record { files = p.0; input = p.1.0; moments = p.1.1.0; out = p.1.1.1.0; err = p.1.1.1.1.0; report = p.1.1.1.1.1 }) (λ _. refl)

-- holds of what is told at the launch of a machine's run, and of the position at which the run starts, where the input and the
-- moments are told
abbrev pub WhereStarted : Told → Machine → (Told → Position → Type 0) → Type 0
WhereStarted launch m P = (t : Told) (w : World) → launch ≡ told_after t w [] → P t (start_of m w)

-- the job with this second number lies within the run, whose last position is t
abbrev pub IsWithin : ℕ → ℕ → ℕ → Type 0
IsWithin t b zero = b ≤ t
IsWithin t b (suc c) = (b < suc c) × (suc c ≤ t)

-- the path is that of the run from p between the cuts of the tag, or from the first of them to the end of the run
abbrev pub IsPathBetween : Position → ℕ → ℕ → Path → Type 0
IsPathBetween p b zero path = (t : ℕ) × (end : End) × EndsAt p t end × (b ≤ t) × (path ≡ last_path p b t)
IsPathBetween p b (suc c) path = path ≡ path_between p b (suc c)

-- the job lasts as many steps as lie between its cuts, and the last one no more than a run can have
abbrev pub LastsBetween : ℕ → ℕ → JobFields → Type 0
LastsBetween b zero job = (s : ℕ) × (s ≤ 2 ^ 40 - b) × Lasts (path_of job) job.peak s
LastsBetween b (suc c) job = (b < suc c) × Lasts (path_of job) job.peak (suc c - b)

-- what a job keeps of its run: whatever the outside is, how long it lasts; and where that is told, that it is the run's job
-- between these cuts
pub record IsJobOfRun (launch : Told) (m : Machine) (b c : ℕ) (job : JobFields) : Type 0 where
  pub lasts : LastsBetween b c job
  pub told : WhereStarted launch m (λ t p. IsPathBetween p b c (path_of job))

-- the most steps of a job, whatever its run
abbrev pub most_steps : ℕ → ℕ → ℕ
most_steps b zero = 2 ^ 40 - b
most_steps b (suc c) = suc c - b

module _ {T L S : Type 0} (stands : List Event → L → Type 0) where
  -- the local of the piece stands for some events, of which each step has at most 24
  pub record HasFewEvents (tag : Tag) (piece : Piece T L S) : Type 0 where
    pub events : List Event
    pub local : stands events piece.local
    pub few : length events ≤ 24 * most_steps tag.0 tag.1

  module _ (plan : PlanFields) where
    -- the piece is that of the path up to its match, which is at this distance
    pub record IsPieceUpTo (path : Path) (distance : ℕ) (piece : Piece T L S) : Type 0 where
      pub local : stands (trace_events plan (path_trace path distance)) piece.local
      pub few : length (trace_events plan (path_trace path distance)) ≤ 24 * distance
      pub steps : piece.steps ≡ length (path_trace path distance)
      pub calls : piece.calls ≡ (state_of (path_after path distance)).calls - path.start.calls
      pub hits : AreHitsOf path distance (counts_of piece.hits)

    pub record IsPieceOfPath (path : Path) (piece : Piece T L S) : Type 0 where
      pub distance : ℕ
      pub exact : IsMatch path distance
      pub is : IsPieceUpTo path distance piece

    -- the piece is that of the path of the run from p between the cuts of the tag
    pub record IsPieceBetween (tag : Tag) (piece : Piece T L S) (p : Position) : Type 0 where
      pub path : Path
      pub between : IsPathBetween p tag.0 tag.1 path
      pub of_path : IsPieceOfPath path piece

    -- what a piece keeps of its run
    pub record IsPieceOfRun (launch : Told) (m : Machine) (number : ℕ) (tag : Tag) (piece : Piece T L S) : Type 0 where
      pub index : piece.index ≡ number
      pub few : HasFewEvents tag piece
      pub told : WhereStarted launch m (λ t p. IsPieceBetween tag piece p)
