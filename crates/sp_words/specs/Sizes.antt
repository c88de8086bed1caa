-- The sizes of the caches that words can name.
use Rattle.std.specs.Prelude.{◌&&◌, Bool, true}
use Rattle.cache_tool.specs.Sizes.{is_line, is_sets}
use Rattle.sp_words.specs.declared.asked.ToolName.{ToolName}
use Rattle.sp_words.specs.declared.asked.ToolName.TheVariants.{Icount, Bcount, Mix, Blocks, Calls, Cache}

-- a cache has sizes that it may have
abbrev pub has_sizes : ToolName → Bool
has_sizes Icount = true
has_sizes Bcount = true
has_sizes Mix = true
has_sizes Blocks = true
has_sizes Calls = true
has_sizes (Cache sets line) = is_sets sets && is_line line
