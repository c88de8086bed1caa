-- What a run has sent is a beginning of what a longer one sends.
use Rattle.std.proofs.Common.{inl, inr, ◌≡◌, ◌<◌, ◌≤◌, ◌+◌, ◌-◌, ◌++◌, ℕ, List, [], ◌∷◌, take, drop, refl, ap, sym, ◌∙◌, arith, append_assoc}
use Rattle.std.specs.Prelude.{Option, None, Some, Bool, true, ◌==◌, if◌then◌else◌}
use Rattle.std.proofs.lemmas.Bool.Decides.{nat_tests}
use Rattle.std.proofs.lemmas.List.{append-nil, take-append-drop}
use Rattle.std.proofs.lemmas.Grind.{flat_map-append}
use Rattle.sp_host.specs.Told.{Told, appended}
use Rattle.sp_host.specs.declared.host.Port.{Port}
use Rattle.sp_host.specs.declared.host.Port.TheVariants.{Out, Err, Report}
use Rattle.sp_host.proofs.Told.{appended-more}
use Rattle.guest_model.specs.Call.{World, Sent, input_after}
use Rattle.guest_model.specs.Calls.{Deed, Answers, Takes, Sends, Tells, Maps, Ends, deed_of}
use Rattle.guest_model.specs.Runs.{RunState, Running, Ended, after, along}
use Rattle.guest_model.specs.Serial.{Position, End, Exit, Signal, Unsupported, TraceItem, bytes_to, to_port, step_of, sent_at, run_of, sent_of, trace_of}
use Rattle.guest_model.proofs.Runs.{along-add, along-next}
use Rattle.syscall_layer.specs.Serve.{InputPart, PartWritten, told_after}
use Rattle.syscall_layer.specs.Step.{StopsInput, world_of}
use Rattle.serial_run.specs.Run.{StepBefore}
use Rattle.serial_run.specs.Steps.{WantsMemory}
use Rattle.sp_words.specs.Due.{Due, due_ended, due_run, due_state}
use Rattle.sp_words.specs.Run.{Run, Slicing, steps_of}
use Rattle.sp_words.specs.declared.asked.By.{By}
use Rattle.sp_words.specs.declared.asked.By.TheVariants.{Serial, Windows}
use Rattle.superpin_top.specs.Engine.{WantsWithin}
use Rattle.superpin_top.specs.Outcome.{AddsFront}

bytes_more : (k : ℕ) (before more : List Sent) → bytes_to k (before ++ more) ≡ bytes_to k before ++ bytes_to k more
bytes_more k before more = flat_map-append (to_port k) before more

-- these bytes are a beginning of what the run sends to port k
pub record IsSentFront (k budget : ℕ) (p : Position) (bytes : List ℕ) : Type 0 where
  pub rest : List ℕ
  pub whole : bytes ++ rest ≡ bytes_to k (sent_of budget p)

-- those of the first steps
pub steps_front : (k n budget : ℕ) (p : Position) → n ≤ budget → IsSentFront k budget p (bytes_to k (sent_of n p))
steps_front k n budget p le =
    let size : n + (budget - n) ≡ budget = omega arith in
    let more = along step_of sent_at (budget - n) (after step_of n (Running p)) in
    record {
      rest = bytes_to k more;
      whole = sym (ap (bytes_to k) (ap (λ (m : ℕ). sent_of m p) (sym size) ∙ along-add step_of sent_at n (budget - n) (Running p)) ∙ bytes_more k (sent_of n p) more);
    }

-- and with a beginning of what the next one sends
pub part_front : (k n budget count : ℕ) (p q : Position) (bytes : List ℕ) → n < budget → run_of n p ≡ Running q → sent_at q ≡ record { port = k; bytes = bytes } ∷ []
    → IsSentFront k budget p (bytes_to k (sent_of n p) ++ take count bytes)
part_front k n budget count p q bytes lt stands sends =
    let all = steps_front k (n + 1) budget p (omega arith) in
    let before = bytes_to k (sent_of n p) in
    let message : bytes_to k (record { port = k; bytes = bytes } ∷ []) ≡ bytes = to_itself k bytes in
    let step : bytes_to k (sent_of (n + 1) p) ≡ before ++ bytes =
    ap (bytes_to k) (along-next step_of sent_at n (Running p) q stands ∙ ap (λ (xs : List Sent). sent_of n p ++ xs) sends)
    ∙ (bytes_more k (sent_of n p) (record { port = k; bytes = bytes } ∷ []) ∙ ap (λ (xs : List ℕ). before ++ xs) message) in
    record {
      rest = drop count bytes ++ all.rest;
      whole =
          sym (append_assoc (before ++ take count bytes) (drop count bytes) all.rest)
          ∙ (ap (λ (xs : List ℕ). xs ++ all.rest) (append_assoc before (take count bytes) (drop count bytes) ∙ ap (λ (xs : List ℕ). before ++ xs) (take-append-drop count bytes))
          ∙ (ap (λ (xs : List ℕ). xs ++ all.rest) (sym step) ∙ all.whole));
    }
  where
    same_eqb : (k : ℕ) → (k == k) ≡ true
    same_eqb k = grind (arith, nat_tests)

    to_itself : (k : ℕ) (bytes : List ℕ) → bytes_to k (record { port = k; bytes = bytes } ∷ []) ≡ bytes
    to_itself k bytes = ap (λ (b : Bool). (if b then bytes else []) ++ []) (same_eqb k) ∙ append-nil bytes

-- the due bytes are those of the whole run
due_ended_out : (end : End) (q : Slicing) (report : List ℕ) (sent : List Sent) (w : World) → (due_ended end q report sent w).out ≡ bytes_to 1 sent
due_ended_out (Exit status) q report sent w = refl
due_ended_out (Signal kind pc) q report sent w = refl
due_ended_out (Unsupported number pc) q report sent w = refl

due_state_out : (r : Run) (s : Slicing) (state : RunState Position End) (items : List TraceItem) (sent : List Sent) → (due_state r s state items sent).out ≡ bytes_to 1 sent
due_state_out r s (Running p) items sent = refl
due_state_out r s (Ended p end) items sent = due_ended_out end _ _ sent p.world

due_ended_err : (end : End) (q : Slicing) (report : List ℕ) (sent : List Sent) (w : World) → (due_ended end q report sent w).err ≡ bytes_to 2 sent
due_ended_err (Exit status) q report sent w = refl
due_ended_err (Signal kind pc) q report sent w = refl
due_ended_err (Unsupported number pc) q report sent w = refl

due_state_err : (r : Run) (s : Slicing) (state : RunState Position End) (items : List TraceItem) (sent : List Sent) → (due_state r s state items sent).err ≡ bytes_to 2 sent
due_state_err r s (Running p) items sent = refl
due_state_err r s (Ended p end) items sent = due_ended_err end _ _ sent p.world

pub due_out : (r : Run) (s : Slicing) → (due_run r s).out ≡ bytes_to 1 (sent_of r.budget r.start)
due_out r s = due_state_out r s (run_of r.budget r.start) (trace_of r.budget r.start) (sent_of r.budget r.start)

pub due_err : (r : Run) (s : Slicing) → (due_run r s).err ≡ bytes_to 2 (sent_of r.budget r.start)
due_err r s = due_state_err r s (run_of r.budget r.start) (trace_of r.budget r.start) (sent_of r.budget r.start)

-- what was added is such a beginning
adds : (k : ℕ) (r : Run) (old new : Option (List ℕ)) (due bytes : List ℕ) → due ≡ bytes_to k (sent_of r.budget r.start) → IsSentFront k r.budget r.start bytes → new ≡ appended old bytes → AddsFront old due new
adds k r old new due bytes is front told = record { written = bytes; rest = front.rest; is_front = front.whole ∙ sym is; told_is = told }

-- both outputs
pub record AddsFronts (t : Told) (d : Due) (new : Told) : Type 0 where
  pub out : AddsFront t.out d.out new.out
  pub err : AddsFront t.err d.err new.err

-- after the first steps of the run
pub steps_fronts : (t new : Told) (n : ℕ) (r : Run) (s : Slicing) (w : World) → n ≤ r.budget → new ≡ told_after t w (sent_of n r.start) → AddsFronts t (due_run r s) new
steps_fronts t new n r s w le told = record {
  out = adds 1 r t.out new.out _ (bytes_to 1 (sent_of n r.start)) (due_out r s) (steps_front 1 n r.budget r.start le) (ap (λ (q : Told). q.out) told);
  err = adds 2 r t.err new.err _ (bytes_to 2 (sent_of n r.start)) (due_err r s) (steps_front 2 n r.budget r.start le) (ap (λ (q : Told). q.err) told);
}

-- after the steps before a call that reads
record LeavesWorld (t : Told) (before : List Sent) (new : Told) : Type 0 where
  world : World
  told_is : new ≡ told_after t world before

input_leaves : (deed : Option Deed) (t : Told) (w : World) (before : List Sent) (new : Told) → InputPart deed t w before new → LeavesWorld t before new
input_leaves None t w before new part = absurd part
input_leaves (Some (Answers answer)) t w before new part = absurd part
input_leaves (Some (Takes into)) t w before new part = record { world = input_after w part.count; told_is = part.told_is }
input_leaves (Some (Sends port bytes answer)) t w before new part = absurd part
input_leaves (Some (Tells at)) t w before new part = absurd part
input_leaves (Some (Maps changed)) t w before new part = absurd part
input_leaves (Some (Ends status)) t w before new part = absurd part

pub input_fronts : (t new : Told) (r : Run) (s : Slicing) → StepBefore (steps_of r) (λ q before. StopsInput t q before new) → AddsFronts t (due_run r s) new
input_fronts t new r s stopped =
    let q = stopped.position in
    let left = input_leaves (deed_of q.machine) t q.world (sent_of stopped.steps r.start) new stopped.holds.part in
    steps_fronts t new stopped.steps r s left.world (omega (arith, stopped.within)) left.told_is

-- before a step that found no memory, or behind it
serial_fronts : (t new : Told) (grows : Bool) (r : Run) (s : Slicing) → StepBefore (steps_of r) (λ q before. WantsMemory grows t q before new) → AddsFronts t (due_run r s) new
serial_fronts t new grows r s stopped =
    let q = stopped.position in
    let before = λ (told : new ≡ told_after t q.world (sent_of stopped.steps r.start)). steps_fronts t new stopped.steps r s q.world (omega (arith, stopped.within)) told in
    elim stopped.holds [
      | inl lacks ↦ before lacks.told_is
      | inr (_, inl told) ↦ before told
      | inr (_, inr told) ↦ steps_fronts t new (stopped.steps + 1) r s (world_of (step_of q)) (omega (arith, stopped.within))
          (told ∙ ap (told_after t (world_of (step_of q))) (sym (along-next step_of sent_at stopped.steps (Running r.start) q stopped.stands)))
    ]

pub memory_fronts : (t new : Told) (r : Run) (s : Slicing) (by : By) → WantsWithin by r t new → AddsFronts t (due_run r s) new
memory_fronts t new r s Serial stopped = serial_fronts t new r.tool.grows r s stopped
memory_fronts t new r s Windows stands = steps_fronts t new stands.steps r s stands.position.world stands.within stands.told_is

-- after the steps before a call that writes, and a beginning of what it sends
pub output_fronts : (t new : Told) (r : Run) (s : Slicing) (port : Port) → StepBefore (steps_of r) (λ q before. PartWritten t q.world before port (sent_at q) new) → AddsFronts t (due_run r s) new
output_fronts t new r s Out stopped =
    let n = stopped.steps in
    let done = stopped.holds in
    let before = bytes_to 1 (sent_of n r.start) in
    record {
      out = adds 1 r t.out new.out _ (before ++ take done.part.count done.bytes) (due_out r s) (part_front 1 n r.budget done.part.count r.start stopped.position done.bytes stopped.within stopped.stands done.sends) (ap (λ (q : Told). q.out) done.part.sends ∙ appended-more t.out before (take done.part.count done.bytes));
      err = adds 2 r t.err new.err _ (bytes_to 2 (sent_of n r.start)) (due_err r s) (steps_front 2 n r.budget r.start (omega (arith, stopped.within))) (ap (λ (q : Told). q.err) done.part.sends);
    }
output_fronts t new r s Err stopped =
    let n = stopped.steps in
    let done = stopped.holds in
    let before = bytes_to 2 (sent_of n r.start) in
    record {
      out = adds 1 r t.out new.out _ (bytes_to 1 (sent_of n r.start)) (due_out r s) (steps_front 1 n r.budget r.start (omega (arith, stopped.within))) (ap (λ (q : Told). q.out) done.part.sends);
      err = adds 2 r t.err new.err _ (before ++ take done.part.count done.bytes) (due_err r s) (part_front 2 n r.budget done.part.count r.start stopped.position done.bytes stopped.within stopped.stands done.sends) (ap (λ (q : Told). q.err) done.part.sends ∙ appended-more t.err before (take done.part.count done.bytes));
    }
output_fronts t new r s Report stopped =
    let n = stopped.steps in
    let done = stopped.holds in
    record {
      out = adds 1 r t.out new.out _ (bytes_to 1 (sent_of n r.start)) (due_out r s) (steps_front 1 n r.budget r.start (omega (arith, stopped.within))) (ap (λ (q : Told). q.out) done.part.sends);
      err = adds 2 r t.err new.err _ (bytes_to 2 (sent_of n r.start)) (due_err r s) (steps_front 2 n r.budget r.start (omega (arith, stopped.within))) (ap (λ (q : Told). q.err) done.part.sends);
    }
