use Rattle.std.proofs.Common.{◌≡◌, take}
use Rattle.ins_views.proofs.views.shared_functions.Given as goal

abbrev pub invariant-loop-function : goal.invariant-loop-function
invariant-loop-function l = l.shared.items ≡ take l.function-index l.functions
