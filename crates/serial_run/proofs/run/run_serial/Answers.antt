use Rattle.std.proofs.Common.{ap, arith, sym, subst, ◌∙◌, ◌≤◌, ◌^◌, inr}
use Rattle.std.specs.Prelude.{Vec}
use Rattle.guest_model.specs.Serial.{trace_of}
use Rattle.ordered_merge.specs.declared.merger.SliceLine.{SliceLine}
use Rattle.ordered_merge.specs.Merged.{line_of}
use Rattle.tool_law.specs.Law.{Merges}
use Rattle.tool_law.specs.Events as tools
use Rattle.serial_run.specs.Start.{Run, start_of}
use Rattle.serial_run.proofs.Whole.{lines_are, value_is}
use Rattle.serial_run.proofs.run.run_serial.Goals as goal

pub returns-clause-told : goal.returns-clause-told
returns-clause-told g c t w is =
    let r : Run = record { start = start_of c.args.guest.machine w; budget = c.args.budget } in
    let stands = g.T.Tool.is_local c.args.tool.now in
    let is_value = g.T.Tool.is_value c.args.tool.now in
    let calls = g.T.Tool.calls_of c.args.tool.now in
    let views = c.args.views.now in
    let finish = c.in-Ok-run_steps.finish in
    let counted = c.in-Ok-run_steps.ensures.told t w is c.in-Ok-begin.ensures in
    let few : c.args.budget ≤ 2 ^ 40 = omega (arith, c.requires.budget) in
    let merges = subst (λ (l : _). Merges stands is_value c.in-Ok.merger.shared l c.put.new.self.shared) c.whole_piece.ensures.local c.in-Ok-put.ensures.value in
    let value = value_is c.args.plan.now calls views stands is_value c.requires.plan t (g.H.Host.told c.run_steps.new.host) r finish c.run_steps.new.local c.end.new.local c.in-Ok.merger.shared c.put.new.self.shared
    few counted c.end.ensures c.in-Ok.ensures.value merges in
    record {
      last = counted.last;
      ends = counted.ends;
      value = subst (λ (s : _). is_value (tools.trace_events calls views (trace_of r.budget r.start)) s) (sym c.finish-shared.ensures.value) value;
      lines = ap (λ (v : Vec SliceLine _). v.items) c.finish-shared.ensures.lines
          ∙ lines_are finish (trace_of r.budget r.start) counted.last c.in-Ok.merger.lines.items c.put.new.self.lines.items (line_of c.whole_piece.result)
          counted.steps_are counted.calls_are c.in-Ok.ensures.lines c.in-Ok-put.ensures.lines c.whole_piece.ensures.line;
    }

pub returns-in_default-put-clause-told : goal.returns-in_default-put-clause-told
returns-in_default-put-clause-told g c t w is =
    let counted = c.in-Ok-run_steps.ensures.told t w is c.in-Ok-begin.ensures in
    inr (inr (counted.last, c.in-Ok-run_steps.finish.end, counted.ends))
