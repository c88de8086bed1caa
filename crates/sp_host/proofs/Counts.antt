-- The count of one source.
use Rattle.std.proofs.Common.{◌≡◌, ℕ, ap}
use Rattle.std.specs.Prelude.{Result, MatchResult}
use Rattle.std.proofs.lemmas.Result.{MatchResult-weaker}
use Rattle.sp_host.specs.declared.host.Port.TheVariants.{Out, Err, Report}
use Rattle.sp_host.specs.Count.{one_more}
use Rattle.sp_host.specs.Faults.{Faults, Source, File, Input, To, count_of, with_count, Faulted, Counts}

with_same : (s : Source) (f : Faults) (n : ℕ) → n ≡ count_of s f → with_count s n f ≡ f
with_same File f n e = ap (λ (k : ℕ). with_count File k f) e
with_same Input f n e = ap (λ (k : ℕ). with_count Input k f) e
with_same (To Out) f n e = ap (λ (k : ℕ). with_count (To Out) k f) e
with_same (To Err) f n e = ap (λ (k : ℕ). with_count (To Err) k f) e
with_same (To Report) f n e = ap (λ (k : ℕ). with_count (To Report) k f) e

-- the count of one source after one more fault
pub faulted_once : (s : Source) (f : Faults) (n : ℕ) → n ≡ one_more (count_of s f) → Faulted s f (with_count s n f)
faulted_once s f n is = ap (λ (k : ℕ). with_count s k f) is

-- a count of one source that rises where a call fails
pub counts_one : {T E : Type 0} (s : Source) (f : Faults) (n : ℕ) (r : Result T E) → MatchResult r (λ _. n ≡ count_of s f) (λ _. n ≡ one_more (count_of s f)) → Counts s f (with_count s n f) r
counts_one s f n r h = MatchResult-weaker r h (λ _ e. with_same s f n e) (λ _ e. faulted_once s f n e)
