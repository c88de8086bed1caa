use Rattle.std.proofs.Common.{◌≡◌, ◌+◌, ◌≤◌, take}
use Rattle.std.specs.Prelude.{fold, None, IfSome}
use Rattle.sp_report.specs.View.{known_code, lower}
use Rattle.sp_report.proofs.view.lowest_known.Given as goal

abbrev pub invariant-loop-function : goal.invariant-loop-function
invariant-loop-function l = record {
  value : l.lowest ≡ fold lower None (known_code l.entry (take l.function-index l.functions) l.segment);
  from : IfSome l.lowest (λ a. l.segment.start ≤ a);
  to : IfSome l.lowest (λ a. a ≤ l.segment.start + l.segment.size);
}
