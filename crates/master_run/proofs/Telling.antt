-- A part of a run that is told.
use Rattle.std.proofs.Common.{◌≡◌, ℕ, ◌+◌, ◌-◌, ◌^◌, ◌≤◌, Bool, List, [], ◌∷◌, ◌++◌, map, refl, sym, ap, subst, ◌∙◌, arith}
use Rattle.std.specs.Prelude.{Ok, Err}
use Rattle.std.proofs.lemmas.List.{append-nil}
use Rattle.sp_host.specs.Told.{Told}
use Rattle.call_record.specs.Record.{CallRecord}
use Rattle.cow_pages.specs.Marks.{unmarked}
use Rattle.guest_model.specs.Call.{Sent, World}
use Rattle.guest_model.specs.Effect.{Call, effect_of, stored_by}
use Rattle.guest_model.specs.Machine.{Machine}
use Rattle.guest_model.specs.Play.{range_of}
use Rattle.guest_model.specs.Range.{Range}
use Rattle.guest_model.specs.Runs.{RunState, Running, Ended, state_of}
use Rattle.guest_model.specs.Serial.{End, EndsAt, Position, Unsupported, entries_of, entry_at, position_at, run_of, sent_at, sent_of, step_of}
use Rattle.guest_model.proofs.Onward.{stops}
use Rattle.guest_model.proofs.Runs.{after-next, along-next, running_earlier}
use Rattle.guest_mem.specs.Frames.{marked_for_all}
use Rattle.guest_mem.proofs.Ranges.{marked_for_all-append}
use Rattle.rv_machine.specs.Ran.{machine_after, stored_along}
use Rattle.syscall_layer.specs.Serve.{PartWritten, told_after}
use Rattle.syscall_layer.specs.Step.{CallGives, GoesByRecord, IsAt, StopsInput, StopsRun, world_of}
use Rattle.syscall_layer.specs.declared.fault.RunFault.{RunFault}
use Rattle.syscall_layer.specs.declared.fault.RunFault.TheVariants as faults
use Rattle.syscall_layer.specs.declared.server.Served.TheVariants as served
use Rattle.boundary_verify.specs.Cuts.{stored_ranges, writes_at, writes_by, writes_of}
use Rattle.boundary_verify.proofs.Matches.{run_from}
use Rattle.master_run.specs.Progress.{Leads, RunsOut, RunsShort, RunsTo}
use Rattle.master_run.specs.declared.progress.Progress.{Progress}
use Rattle.master_run.proofs.Stretch.{Carries, at_machine, carries, nothing_along, run_goes, run_records, run_sends, run_writes}

module _ (t : Told) (p : Position) (b : ℕ) where
  -- seen from the last cut
  pub since_cut : (l : Progress) (told : Told) (runs : RunsTo t p b l told) → b ≤ l.position → run_of (l.position - b) (position_at b p) ≡ Running runs.position
  since_cut l told runs behind =
      let sum : b + (l.position - b) ≡ l.position = omega arith in
      run_from p b (l.position - b) (running_earlier step_of b l.position (Running p) behind (runs.position, runs.stands)) ∙ ap (λ (n : ℕ). run_of n p) sum ∙ runs.stands

  -- the position to which a step leads
  pub record LeadsOn (x : RunState Position End) (m : Machine) (calls : ℕ) : Type 0 where
    pub next : Position
    pub leads : x ≡ Running next
    pub machine : next.machine ≡ m
    pub count : next.calls ≡ calls
    pub world : world_of x ≡ next.world

  leads_on : (x : RunState Position End) (m : Machine) (calls : ℕ) → IsAt x m calls → LeadsOn x m calls
  leads_on (Running q) m calls at = record { next = q; leads = refl; machine = at.0; count = at.1; world = refl }
  leads_on (Ended q end) m calls at = absurd at

  written_by_call : (q : Position) (entry : CallRecord) → effect_of q.machine ≡ Call → entry_at q ≡ entry ∷ [] → writes_at q ≡ map range_of entry.stored
  unfolding writes_at
  written_by_call q entry call one = ap (writes_by q) call ∙ ap stored_ranges one ∙ append-nil (map range_of entry.stored)

  -- behind a call
  pub runs_call : (old new : Progress) (told now : Told) (entry : CallRecord) (runs : RunsTo t p b old told) → b ≤ old.position → effect_of old.guest.machine ≡ Call
      → GoesByRecord entry old.guest new.guest → CallGives t runs.position (sent_of old.position p) (Ok (served.Went entry)) new.guest.machine now
      → new.position ≡ old.position + 1 → new.calls ≡ old.calls + 1 → new.log ≡ old.log ++ entry ∷ [] → RunsTo t p b new now
  runs_call old new told now entry runs behind call goes gives more counted logged =
      let q = runs.position in
      let on : LeadsOn (step_of q) new.guest.machine (q.calls + 1) = leads_on (step_of q) new.guest.machine (q.calls + 1) gives.0.0 in
      let since = since_cut old told runs behind in
      let steps : new.position - b ≡ old.position - b + 1 = omega (arith, more, behind) in
      let here : effect_of q.machine ≡ Call = ap effect_of runs.machine ∙ call in
      record {
        position = on.next;
        stands = ap (λ (n : ℕ). run_of n p) more ∙ after-next step_of old.position (Running p) q runs.stands ∙ on.leads;
        machine = on.machine;
        calls = on.count ∙ ap (λ (n : ℕ). n + 1) runs.calls ∙ sym counted;
        told_is = gives.0.1
            ∙ ap (λ (w : World). told_after t w (sent_of old.position p ++ sent_at q)) on.world
            ∙ ap (told_after t on.next.world) (sym (along-next step_of sent_at old.position (Running p) q runs.stands) ∙ ap (λ (n : ℕ). sent_of n p) (sym more));
        entries = logged
            ∙ ap (λ (es : List CallRecord). es ++ entry ∷ []) runs.entries
            ∙ ap (λ (es : List CallRecord). entries_of (old.position - b) (position_at b p) ++ es) (sym gives.1)
            ∙ sym (along-next step_of entry_at (old.position - b) (Running (position_at b p)) q since)
            ∙ ap (λ (n : ℕ). entries_of n (position_at b p)) (sym steps);
        marks = goes.marks.written
            ∙ ap (λ (marks : List Bool). marked_for_all marks (map range_of entry.stored)) runs.marks
            ∙ sym (marked_for_all-append (unmarked (2 ^ 20)) (writes_of (old.position - b) (position_at b p)) (map range_of entry.stored))
            ∙ ap (λ (rs : List Range). marked_for_all (unmarked (2 ^ 20)) (writes_of (old.position - b) (position_at b p) ++ rs)) (sym (written_by_call q entry here gives.1))
            ∙ ap (marked_for_all (unmarked (2 ^ 20))) (sym (along-next step_of writes_at (old.position - b) (Running (position_at b p)) q since) ∙ ap (λ (n : ℕ). writes_of n (position_at b p)) (sym steps));
      }

  -- where the run ends
  pub runs_out : (l new : Progress) (told now : Told) (end : End) (runs : RunsTo t p b l told) → b ≤ l.position → StopsRun t runs.position (sent_of l.position p) end now
      → new.position ≡ l.position → new.log ≡ l.log → RunsOut t p b end new now
  runs_out l new told now end runs behind ends same logged =
      let q = runs.position in
      let there : position_at l.position p ≡ q = ap (λ (x : RunState Position End). state_of x) runs.stands in
      let none : entry_at q ≡ [] = (stops q q end ends.0).no_entry in
      let steps : l.position + 1 - b ≡ l.position - b + 1 = omega (arith, behind) in
      let out : RunsOut t p b end (record l { log = new.log }) now = record {
        ends = record {
          position = (q, runs.stands);
          over = after-next step_of l.position (Running p) q runs.stands ∙ ends.0 ∙ ap (λ (x : Position). Ended x end) (sym there);
        };
        told_is = ends.1
            ∙ ap (told_after t q.world) (sym (along-next step_of sent_at l.position (Running p) q runs.stands))
            ∙ ap (λ (x : Position). told_after t x.world (sent_of (l.position + 1) p)) (sym there);
        entries = logged ∙ runs.entries
            ∙ sym (append-nil (entries_of (l.position - b) (position_at b p)))
            ∙ ap (λ (es : List CallRecord). entries_of (l.position - b) (position_at b p) ++ es) (sym none)
            ∙ sym (along-next step_of entry_at (l.position - b) (Running (position_at b p)) q (since_cut l told runs behind))
            ∙ ap (λ (n : ℕ). entries_of n (position_at b p)) (sym steps);
      } in
      at_position (record l { log = new.log }) new now end out (sym same) refl
    where
      at_position : (x y : Progress) (now : Told) (end : End) → RunsOut t p b end x now → x.position ≡ y.position → x.log ≡ y.log → RunsOut t p b end y now
      at_position x y now end out place log = record {
        ends = subst (λ (n : ℕ). EndsAt p n end) place out.ends;
        told_is = subst (λ (n : ℕ). now ≡ told_after t (position_at n p).world (sent_of (n + 1) p)) place out.told_is;
        entries = sym log ∙ subst (λ (n : ℕ). x.log ≡ entries_of (n + 1 - b) (position_at b p)) place out.entries;
      }

  -- behind instructions
  pub runs_run : (n : ℕ) (old new : Progress) (told : Told) (runs : RunsTo t p b old told) → b ≤ old.position → machine_after n old.guest.machine ≡ Running new.guest.machine
      → new.guest.frames.written ≡ marked_for_all old.guest.frames.written (stored_along n old.guest.machine)
      → new.position ≡ old.position + n → new.calls ≡ old.calls → new.log ≡ old.log → RunsTo t p b new told
  runs_run n old new told runs behind leads marks more counted logged =
      let q = runs.position in
      let m = old.guest.machine in
      let next = new.guest.machine in
      let q_is : q ≡ at_machine q m = ap (at_machine q) runs.machine in
      let last = position_at b p in
      let sends : Carries step_of at_machine sent_at (λ (h : Machine). []) run_goes run_sends (Running p) old.position n q m next =
      carries step_of at_machine sent_at (λ (h : Machine). []) run_goes run_sends (Running p) old.position n q m next (runs.stands ∙ ap Running q_is) leads in
      let since = since_cut old told runs behind ∙ ap Running q_is in
      let records : Carries step_of at_machine entry_at (λ (h : Machine). []) run_goes run_records (Running last) (old.position - b) n q m next =
      carries step_of at_machine entry_at (λ (h : Machine). []) run_goes run_records (Running last) (old.position - b) n q m next since leads in
      let writes : Carries step_of at_machine writes_at (λ (h : Machine). stored_by (effect_of h)) run_goes run_writes (Running last) (old.position - b) n q m next =
      carries step_of at_machine writes_at (λ (h : Machine). stored_by (effect_of h)) run_goes run_writes (Running last) (old.position - b) n q m next since leads in
      let steps : old.position - b + n ≡ new.position - b = omega (arith, more, behind) in
      record {
        position = at_machine q next;
        stands = ap (λ (i : ℕ). run_of i p) more ∙ sends.there;
        machine = refl;
        calls = runs.calls ∙ sym counted;
        told_is = runs.told_is ∙ ap (told_after t q.world)
            (sym (append-nil (sent_of old.position p))
            ∙ ap (λ (xs : List Sent). sent_of old.position p ++ xs) (sym (nothing_along (λ (h : Machine). []) (λ h. refl) n (Running m)))
            ∙ sym sends.said ∙ ap (λ (i : ℕ). sent_of i p) (sym more));
        entries = logged ∙ runs.entries
            ∙ (sym (append-nil (entries_of (old.position - b) last))
            ∙ ap (λ (es : List CallRecord). entries_of (old.position - b) last ++ es) (sym (nothing_along (λ (h : Machine). []) (λ h. refl) n (Running m)))
            ∙ sym records.said ∙ ap (λ (i : ℕ). entries_of i last) steps);
        marks = marks
            ∙ ap (λ (ms : List Bool). marked_for_all ms (stored_along n m)) runs.marks
            ∙ sym (marked_for_all-append (unmarked (2 ^ 20)) (writes_of (old.position - b) last) (stored_along n m))
            ∙ ap (marked_for_all (unmarked (2 ^ 20))) (sym writes.said ∙ ap (λ (i : ℕ). writes_of i last) steps);
      }

  -- behind a call whose record was not kept
  pub stops_behind : (old new : Progress) (told now : Told) (entry : CallRecord) (runs : RunsTo t p b old told) → CallGives t runs.position (sent_of old.position p) (Ok (served.Went entry)) new.guest.machine now
      → new.position ≡ old.position + 1 → RunsShort t p new now
  stops_behind old new told now entry runs gives more =
      let q = runs.position in
      let on : LeadsOn (step_of q) new.guest.machine (q.calls + 1) = leads_on (step_of q) new.guest.machine (q.calls + 1) gives.0.0 in
      record {
        position = on.next;
        stands = ap (λ (n : ℕ). run_of n p) more ∙ after-next step_of old.position (Running p) q runs.stands ∙ on.leads;
        told_is = gives.0.1
            ∙ ap (λ (w : World). told_after t w (sent_of old.position p ++ sent_at q)) on.world
            ∙ ap (told_after t on.next.world) (sym (along-next step_of sent_at old.position (Running p) q runs.stands) ∙ ap (λ (n : ℕ). sent_of n p) (sym more));
      }

  -- a call that was not served
  pub fails_here : (old new : Progress) (told now : Told) (fault : RunFault) (m : Machine) (runs : RunsTo t p b old told) → b ≤ old.position → new.position ≡ old.position → new.log ≡ old.log
      → CallGives t runs.position (sent_of old.position p) (Err fault) m now → Leads t p b (Err fault) new now
  fails_here old new told now (faults.Unsupported number pc) m runs behind same logged gives = runs_out old new told now (Unsupported number pc) runs behind gives same logged
  fails_here old new told now (faults.BudgetSpent n) m runs behind same logged gives = absurd gives
  fails_here old new told now faults.InputFault m runs behind same logged gives = record {
    position = runs.position;
    stands = ap (λ (n : ℕ). run_of n p) same ∙ runs.stands;
    holds = subst (λ (n : ℕ). StopsInput t runs.position (sent_of n p) now) (sym same) gives;
  }
  fails_here old new told now (faults.OutputFault port) m runs behind same logged gives = record {
    position = runs.position;
    stands = ap (λ (n : ℕ). run_of n p) same ∙ runs.stands;
    holds = subst (λ (n : ℕ). PartWritten t runs.position.world (sent_of n p) port (sent_at runs.position) now) (sym same) gives;
  }
  fails_here old new told now faults.NoMemory m runs behind same logged gives = record {
    position = runs.position;
    stands = ap (λ (n : ℕ). run_of n p) same ∙ runs.stands;
    told_is = gives.told_is ∙ ap (λ (n : ℕ). told_after t runs.position.world (sent_of n p)) (sym same);
  }
