use Rattle.std.proofs.Common.{◌≡◌, false, ap, sym, ◌∙◌, is_some}
use Rattle.std.specs.Option.{unwrap_or}
use Rattle.std.specs.Ordering.{nat_cmp}
use Rattle.std.specs.Cmp.Lexicographic.{slice_cmp}
use Rattle.std.specs.FinMap.{get-empty}
use Rattle.sp_host.specs.Told.{Files, has_file}
use Rattle.sp_host.specs.Steady.{no_files}
use Rattle.sp_host.proofs.steady.SteadyHostHost.has_file.Goals as goal

pub returns-clause-value : goal.returns-clause-value
returns-clause-value c = λ files is.
    let name = c.args._name.now in
    let same : no_files ≡ files = ap (λ known. unwrap_or known no_files) is in
    let none : has_file no_files name ≡ false = ap (λ known. is_some known) (get-empty (slice_cmp nat_cmp) name) in
    sym none ∙ ap (λ (known : Files). has_file known name) same
