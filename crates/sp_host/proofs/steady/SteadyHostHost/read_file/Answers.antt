use Rattle.std.proofs.Common.{◌≡◌, [], drop, ap, sym, ◌∙◌, refl, arith}
use Rattle.std.proofs.Math.Seq.{drop-nil}
use Rattle.std.specs.Option.{unwrap_or}
use Rattle.std.specs.Ordering.{nat_cmp}
use Rattle.std.specs.Cmp.Lexicographic.{slice_cmp}
use Rattle.std.specs.FinMap.{get-empty}
use Rattle.sp_host.specs.Told.{file_of, Files}
use Rattle.sp_host.specs.Steady.{no_files}
use Rattle.sp_host.proofs.steady.SteadyHostHost.read_file.Goals as goal

pub returns-clause-bytes : goal.returns-clause-bytes
returns-clause-bytes c = λ files is.
    let same : no_files ≡ files = ap (λ known. unwrap_or known no_files) is in
    let name = c.args._name.now in
    let none : file_of files name ≡ [] = ap (λ (known : Files). file_of known name) (sym same) ∙ ap (λ known. unwrap_or known []) (get-empty (slice_cmp nat_cmp) name) in
    let left : drop c.args._at (file_of files name) ≡ [] = ap (drop c.args._at) none ∙ drop-nil c.args._at in
    record { first = refl; within = omega arith; end = λ _. left }
