-- A text that is cut at its first colon.
use Rattle.std.proofs.Common.{◌≡◌, ◌∷◌, ◌++◌, ℕ, List, Some, None}
use Rattle.clap.proofs.CutLemmas.{Lacks, after_first-at, before_first-Lacks, before_first-at, list_any-Lacks, list_any-at}
use Rattle.sp_words.specs.Value.{cut_at_colon}

pub cut_between : (front back : List ℕ) → Lacks 58 front → cut_at_colon (front ++ 58 ∷ back) ≡ (front, Some back)
cut_between front back h = rw (before_first-at 58 front back h, list_any-at 58 front back, after_first-at 58 front back h)

pub cut_nowhere : (text : List ℕ) → Lacks 58 text → cut_at_colon text ≡ (text, None)
cut_nowhere text h = rw (before_first-Lacks 58 text h, list_any-Lacks 58 text h)
