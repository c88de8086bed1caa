-- Where the rules that look at the run make no cut due.
use Rattle.std.proofs.Common.{◌≡◌, ℕ, ◌+◌, ◌-◌, ◌^◌, ◌<◌, ◌≤◌, Bool, false, List, ◌++◌, length, refl, sym, ap, subst, ◌∙◌, arith, []}
use Rattle.std.proofs.lemmas.Bool.Decides.{nat_tests}
use Rattle.std.proofs.lemmas.List.{append-nil}
use Rattle.sp_host.specs.Told.{Told}
use Rattle.call_record.specs.Record.{CallRecord, size_of_records}
use Rattle.cow_pages.specs.Marks.{count_marked, unmarked}
use Rattle.guest_model.specs.Effect.{effect_of, stored_by}
use Rattle.guest_model.specs.Machine.{Machine}
use Rattle.guest_model.specs.Range.{Range, pages_among}
use Rattle.guest_model.specs.Runs.{RunState, Running, IsRunning, state_of}
use Rattle.guest_model.specs.Serial.{End, Position, entries_of, entry_at, position_at, step_of}
use Rattle.guest_model.proofs.Follows.{calls_along}
use Rattle.guest_mem.specs.Frames.{marked_for_all}
use Rattle.guest_mem.proofs.Ranges.{marked_for_all-append}
use Rattle.rv_machine.specs.Ran.{machine_after, stored_along, written_after}
use Rattle.boundary_verify.specs.Cuts.{CutLimits, is_full, writes_at, writes_of}
use Rattle.slice_runner.proofs.Frames.{pages_marked}
use Rattle.master_run.specs.Master.{limits_of}
use Rattle.master_run.specs.Progress.{IsBelow, RunsTo}
use Rattle.master_run.specs.declared.limits.Limits.{Limits}
use Rattle.master_run.specs.declared.progress.Progress.{Progress}
use Rattle.master_run.proofs.Stretch.{Carries, at_machine, carries, nothing_along, run_goes, run_records, run_writes}
use Rattle.master_run.proofs.Telling.{since_cut}

-- none of the three holds
pub record IsNotFull (limits : CutLimits) (last : Position) (n : ℕ) : Type 0 where
  pub records : (position_at n last).calls - last.calls < limits.records
  pub bytes : size_of_records (entries_of n last) < limits.bytes
  pub pages : pages_among (writes_of n last) ≤ limits.pages

pub not_full : (limits : CutLimits) (last : Position) (n : ℕ) → IsNotFull limits last n → is_full limits last n ≡ false
unfolding is_full
not_full limits last n h = let records = h.records in let bytes = h.bytes in let pages = h.pages in grind (arith, nat_tests)

pub if_not_full : (limits : CutLimits) (last : Position) (n : ℕ) → is_full limits last n ≡ false → IsNotFull limits last n
unfolding is_full
if_not_full limits last n h = record {
  records = grind (arith, nat_tests);
  bytes = grind (arith, nat_tests);
  pages = grind (arith, nat_tests);
}

module _ (t : Told) (p : Position) (b : ℕ) where
  -- here the master's counts are those of the run
  pub record Counted (l : Progress) : Type 0 where
    pub records : (position_at (l.position - b) (position_at b p)).calls - (position_at b p).calls ≡ length l.log
    pub bytes : size_of_records (entries_of (l.position - b) (position_at b p)) ≡ size_of_records l.log
    pub pages : pages_among (writes_of (l.position - b) (position_at b p)) ≡ count_marked l.guest.frames.written

  pub counted : (l : Progress) (told : Told) → RunsTo t p b l told → b ≤ l.position → Counted l
  counted l told runs behind =
      let since = since_cut t p b l told runs behind in
      let calls = calls_along (position_at b p) runs.position (l.position - b) since in
      let there : position_at (l.position - b) (position_at b p) ≡ runs.position = ap (λ (x : RunState Position End). state_of x) since in
      record {
        records = omega (arith, calls, ap (λ (q : Position). q.calls) there, ap length runs.entries);
        bytes = ap size_of_records (sym runs.entries);
        pages = sym (ap count_marked runs.marks ∙ pages_marked (writes_of (l.position - b) (position_at b p)) (2 ^ 20) refl);
      }

  pub is_below : (limits : Limits) (l : Progress) (told : Told) → RunsTo t p b l told → b ≤ l.position → is_full (limits_of limits) (position_at b p) (l.position - b) ≡ false → IsBelow limits l
  is_below limits l told runs behind h =
      let same = counted l told runs behind in
      let none = if_not_full (limits_of limits) (position_at b p) (l.position - b) h in
      record {
        records = omega (arith, none.records, same.records);
        bytes = omega (arith, none.bytes, same.bytes);
        pages = omega (arith, none.pages, same.pages);
      }

  pub none_full : (limits : Limits) (l : Progress) (told : Told) → RunsTo t p b l told → b ≤ l.position → IsBelow limits l → is_full (limits_of limits) (position_at b p) (l.position - b) ≡ false
  none_full limits l told runs behind below =
      let same = counted l told runs behind in
      not_full (limits_of limits) (position_at b p) (l.position - b) (record {
        records = omega (arith, below.records, same.records);
        bytes = omega (arith, below.bytes, same.bytes);
        pages = omega (arith, below.pages, same.pages);
      })

  -- k instructions later
  pub none_later : (limits : Limits) (l : Progress) (told : Told) (k : ℕ) → RunsTo t p b l told → b ≤ l.position → IsBelow limits l → IsRunning (machine_after k l.guest.machine)
      → written_after k l.guest ≤ limits.frames - 32 → is_full (limits_of limits) (position_at b p) (l.position + k - b) ≡ false
  none_later limits l told k runs behind below (next, leads) few =
      let q = runs.position in
      let m = l.guest.machine in
      let last = position_at b p in
      let n = l.position - b in
      let since : _ = since_cut t p b l told runs behind ∙ ap Running (ap (at_machine q) runs.machine) in
      let records : Carries step_of at_machine entry_at (λ (h : Machine). []) run_goes run_records (Running last) n k q m next =
      carries step_of at_machine entry_at (λ (h : Machine). []) run_goes run_records (Running last) n k q m next since leads in
      let writes : Carries step_of at_machine writes_at (λ (h : Machine). stored_by (effect_of h)) run_goes run_writes (Running last) n k q m next =
      carries step_of at_machine writes_at (λ (h : Machine). stored_by (effect_of h)) run_goes run_writes (Running last) n k q m next since leads in
      let same = counted l told runs behind in
      let there : (position_at (n + k) last).calls ≡ q.calls = ap (λ (x : RunState Position End). (state_of x).calls) records.there in
      let here : (position_at n last).calls ≡ q.calls = ap (λ (x : RunState Position End). (state_of x).calls) since in
      let entries : entries_of (n + k) last ≡ l.log =
      records.said ∙ ap (λ (es : List CallRecord). entries_of n last ++ es) (nothing_along (λ (h : Machine). []) (λ h. refl) k (Running m)) ∙ append-nil (entries_of n last) ∙ sym runs.entries in
      let marks : count_marked (marked_for_all (unmarked (2 ^ 20)) (writes_of (n + k) last)) ≡ written_after k l.guest =
      ap (λ (rs : List Range). count_marked (marked_for_all (unmarked (2 ^ 20)) rs)) writes.said
      ∙ ap count_marked (marked_for_all-append (unmarked (2 ^ 20)) (writes_of n last) (stored_along k m))
      ∙ ap (λ (ms : List Bool). count_marked (marked_for_all ms (stored_along k m))) (sym runs.marks) in
      let sum : n + k ≡ l.position + k - b = omega (arith, behind) in
      subst (λ (i : ℕ). is_full (limits_of limits) last i ≡ false) sum
      (not_full (limits_of limits) last (n + k) (record {
        records = omega (arith, there, here, same.records, below.records);
        bytes = omega (arith, ap size_of_records entries, below.bytes);
        pages = omega (arith, marks, pages_marked (writes_of (n + k) last) (2 ^ 20) refl, few);
      }))
