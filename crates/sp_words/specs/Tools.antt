-- What each tool means.
use Rattle.std.specs.Prelude.{Bool, true, false, List, ℕ}
use Rattle.std.specs.FinMap as table
use Rattle.elf_load.specs.Image.{ImageFields}
use Rattle.ins_views.specs.Views.{ViewFields, views_of}
use Rattle.insert_points.specs.declared.call.Call.{Call}
use Rattle.insert_points.specs.declared.call.Event.{Event}
use Rattle.insert_points.specs.declared.call.Thing.{Thing}
use Rattle.tool_law.specs.Events.{trace_events}
use Rattle.tool_counts.specs.Calls.{block_count_calls, instruction_calls, mix_calls, profile_calls}
use Rattle.tool_counts.specs.Counts.{block_count_text, block_sums, count_text, own_events}
use Rattle.tool_counts.specs.Mix.{mix_of, mix_text}
use Rattle.tool_counts.specs.Profile.{profile_text, tally}
use Rattle.tool_calls.specs.Calls.{trace_calls}
use Rattle.tool_calls.specs.Text.{call_lines}
use Rattle.tool_calls.specs.Trace.{trace}
use Rattle.cache_tool.specs.Cache.{simulate}
use Rattle.cache_tool.specs.Calls.{cache_calls}
use Rattle.cache_tool.specs.Text.{cache_text}
use Rattle.sp_words.specs.Run.{ToolMeaning}
use Rattle.sp_words.specs.declared.asked.ToolName.{ToolName}
use Rattle.sp_words.specs.declared.asked.ToolName.TheVariants.{Icount, Bcount, Mix, Blocks, Calls, Cache}

-- a tool that asks for these calls, and makes this text of the events that they give
abbrev pub with_calls : ViewFields → Bool → (Thing → List Call) → (List Event → List ℕ) → ToolMeaning
with_calls views grows calls text = record { text = λ items. text (trace_events calls views items); grows = grows }

-- the tool of a name, with the views of the program's code
abbrev pub meaning_in : ViewFields → ToolName → ToolMeaning
meaning_in views Icount = with_calls views false instruction_calls (λ xs. count_text (own_events xs))
meaning_in views Bcount = with_calls views false block_count_calls (λ xs. block_count_text (block_sums xs))
meaning_in views Mix = with_calls views false mix_calls (λ xs. mix_text (mix_of xs))
meaning_in views Blocks = with_calls views true profile_calls (λ xs. profile_text views (table.entries (tally xs)))
meaning_in views Calls = with_calls views true trace_calls (λ xs. call_lines views (trace xs).calls)
meaning_in views (Cache sets line) = with_calls views false cache_calls (λ xs. cache_text sets line (simulate sets line xs))

abbrev pub meaning_of : ImageFields → ToolName → ToolMeaning
meaning_of image tool = meaning_in (views_of image) tool
