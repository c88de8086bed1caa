-- The exit status of the program.
use Rattle.std.specs.Prelude.{ℕ}
use Rattle.sp_report.specs.declared.answer.Answer.{Answer}
use Rattle.sp_report.specs.declared.answer.Answer.TheVariants.{Ended, Refused}

abbrev pub exit_code_of : Answer → ℕ
exit_code_of (Ended status cuts lines) = status
exit_code_of (Refused refusal) = 125
