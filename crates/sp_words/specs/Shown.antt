-- What is read, over plain data.
use Rattle.sp_words.specs.Options.{Common, Values, bounds_of}
use Rattle.sp_words.specs.declared.given.CommonValues.{CommonValues}
use Rattle.sp_words.specs.declared.given.RunValues.{RunValues}

abbrev pub common_of : CommonValues → Common
common_of c = record { tool = c.tool; bounds = bounds_of c.limits; msec = c.msec; slices = c.slices }

abbrev pub values_of : RunValues → Values
values_of v = record { by = v.by; common = common_of v.common; workers = v.workers }
