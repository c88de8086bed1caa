-- What the options of a run mean together: the value of each, its default where it is not given, or the first bad one.
use Rattle.std.specs.Prelude.{ℕ, Bool, false, List, codes, Option, Some, None, Result, Ok, Err, ok_or}
use Rattle.std.specs.Option.{option_map_or}
use Rattle.std.specs.Str.{bytes_eq}
use Rattle.clap.specs.Walk.{Row, first_of}
use Rattle.master_run.specs.declared.limits.Limits.{Limits}
use Rattle.sp_words.specs.Split.{Text}
use Rattle.sp_words.specs.Value.{by_named, number_in, tool_named}
use Rattle.sp_words.specs.declared.asked.By.{By}
use Rattle.sp_words.specs.declared.asked.By.TheVariants.{Windows}
use Rattle.sp_words.specs.declared.asked.ToolName.{ToolName}
use Rattle.sp_words.specs.declared.asked.ToolName.TheVariants.{Icount}
use Rattle.sp_report.specs.declared.answer.OptionName.{OptionName}
use Rattle.sp_report.specs.declared.answer.OptionName.TheVariants as option

-- what bounds a run
pub record Bounds : Type 0 where
  pub budget : ℕ
  pub limit : ℕ
  pub poll : ℕ
  pub records : ℕ
  pub frames : ℕ

abbrev pub bounds_of : Limits → Bounds
bounds_of l = record { budget = l.budget; limit = l.limit; poll = l.poll; records = l.records; frames = l.frames }

-- what the options that each `run` has say
pub record Common : Type 0 where
  pub tool : ToolName
  pub bounds : Bounds
  pub msec : ℕ
  pub slices : Bool

-- and with how the run is done, and by how many workers
pub record Values : Type 0 where
  pub by : By
  pub common : Common
  pub workers : ℕ

-- a value that is given has a meaning or is bad
abbrev pub value_or : {X : Type 0} → OptionName → X → (Text → Option X) → Option Text → Result X OptionName
value_or name default meaning None = Ok default
value_or name default meaning (Some text) = ok_or (meaning text) name

unfoldable pub by_in : List Row → Result By OptionName
by_in rows = value_or option.By Windows by_named (first_of (codes "by") rows)

unfoldable pub tool_in : List Row → Result ToolName OptionName
tool_in rows = value_or option.Tool Icount tool_named (first_of (codes "tool") rows)

unfoldable pub option_in : OptionName → Text → ℕ → ℕ → ℕ → List Row → Result ℕ OptionName
option_in name word least most default rows = value_or name default (number_in least most) (first_of word rows)

unfoldable pub slices_in : List Row → Bool
slices_in rows = option_map_or (bytes_eq (codes "true")) (first_of (codes "slices") rows) false

-- the next is read where the one before is not bad
abbrev pub on_value : {X Y : Type 0} → Result X OptionName → (X → Result Y OptionName) → Result Y OptionName
on_value (Ok x) next = next x
on_value (Err name) next = Err name

-- name, word, least, most and default of each number
abbrev pub budget_in : List Row → Result ℕ OptionName
budget_in rows = option_in option.Budget (codes "budget") 1 1099511627776 1000000000 rows

abbrev pub limit_in : List Row → Result ℕ OptionName
limit_in rows = option_in option.Limit (codes "limit") 1 32 8 rows

abbrev pub poll_in : List Row → Result ℕ OptionName
poll_in rows = option_in option.Poll (codes "poll") 1 1048576 64 rows

abbrev pub msec_in : List Row → Result ℕ OptionName
msec_in rows = option_in option.Msec (codes "msec") 1 60000 50 rows

abbrev pub records_in : List Row → Result ℕ OptionName
records_in rows = option_in option.Records (codes "records") 1 65536 1024 rows

abbrev pub frames_in : List Row → Result ℕ OptionName
frames_in rows = option_in option.Frames (codes "frames") 64 4096 4096 rows

abbrev pub workers_in : List Row → Result ℕ OptionName
workers_in rows = option_in option.Workers (codes "workers") 1 16 4 rows

unfoldable pub common_in : List Row → Result Common OptionName
common_in rows =
    on_value (tool_in rows) (λ tool.
    on_value (budget_in rows) (λ budget.
    on_value (limit_in rows) (λ limit.
    on_value (poll_in rows) (λ poll.
    on_value (msec_in rows) (λ msec.
    on_value (records_in rows) (λ records.
    on_value (frames_in rows) (λ frames.
    Ok (record {
      tool = tool;
      bounds = record { budget = budget; limit = limit; poll = poll; records = records; frames = frames };
      msec = msec;
      slices = slices_in rows;
    }))))))))

-- a run that is serial or by windows has 4 workers, whose number nothing asks for
abbrev pub run_values : List Row → Result Values OptionName
run_values rows =
    on_value (by_in rows) (λ by.
    on_value (common_in rows) (λ common.
    Ok (record { by = by; common = common; workers = 4 })))

-- a run with workers is by windows
abbrev pub live_values : List Row → Result Values OptionName
live_values rows =
    on_value (common_in rows) (λ common.
    on_value (workers_in rows) (λ workers.
    Ok (record { by = Windows; common = common; workers = workers })))

-- what a reading gives, over plain data
abbrev pub shown : {X Y : Type 0} → (X → Y) → Result X OptionName → Result Y OptionName
shown f (Ok x) = Ok (f x)
shown f (Err name) = Err name
