-- What the demonstration of a number prints.
use Rattle.std.specs.Prelude.{◌≡◌, ℕ, ◌<◌, ◌%◌, ◌==◌, Bool, List, [], ◌∷◌, ◌++◌, length, codes, decimal, None, Some, Result, Ok, Err, Vec}
use Rattle.std.specs.List.{sum_by}
use Rattle.std.specs.declared.alloc.Global.{Global}
use Rattle.boundary_verify.specs.Cuts.{AreCuts, CutLimits, cut_limits}
use Rattle.boundary_verify.specs.Lines.{AreLines, Line}
use Rattle.cache_tool.specs.Cache.{simulate}
use Rattle.cache_tool.specs.Calls.{cache_calls}
use Rattle.cache_tool.specs.Text.{cache_text}
use Rattle.elf_load.specs.Elf.{image_of, refusal_of}
use Rattle.elf_load.specs.Image.{ImageFields}
use Rattle.guest_model.specs.Call.{World}
use Rattle.guest_model.specs.Runs.{Ended, Running}
use Rattle.guest_model.specs.Serial.{End, EndsAt, Position, Unsupported, run_of, trace_of}
use Rattle.guest_model.specs.Tests.{HitCounts}
use Rattle.insert_points.specs.declared.call.Call.{Call}
use Rattle.insert_points.specs.declared.call.Event.{Event}
use Rattle.insert_points.specs.declared.call.Thing.{Thing}
use Rattle.ins_views.specs.Views.{views_of}
use Rattle.prog_gen.specs.Demo.{demo_headers, demo_instrs}
use Rattle.prog_gen.specs.File.{Adds}
use Rattle.rv_machine.specs.Load.{machine_of}
use Rattle.rv_machine.specs.declared.step.End.{End as GuestEnd}
use Rattle.serial_run.specs.Start.{Run, start_of}
use Rattle.sp_report.specs.Lines.{end_by, end_text}
use Rattle.sp_report.specs.declared.answer.Refusal.{Refusal}
use Rattle.sp_report.specs.declared.answer.Refusal.TheVariants as refusals
use Rattle.tool_counts.specs.Calls.{block_count_calls, instruction_calls}
use Rattle.tool_counts.specs.Counts.{block_count_text, block_sums, count_text, own_events}
use Rattle.tool_law.specs.Events.{trace_events}

-- the program gets one string
abbrev pub demo_strings : List (List ℕ)
demo_strings = codes "demo" ∷ []

-- and there is no input and no moment
abbrev pub no_world : World
no_world = record { input = []; moments = [] }

-- the run of an image
abbrev pub demo_run : ImageFields → Run
demo_run image = record { start = start_of (machine_of image demo_strings) no_world; budget = 1000000000 }

-- What makes the cuts of its run by windows due: the pacer is asked at each 64th position; a slice has at most 1,024 calls, and
-- its guest 4,096 frames.
abbrev pub demo_limits : CutLimits
demo_limits = cut_limits 64 1024 4096

-- the pacer grants each 64th ask
abbrev pub demo_answers : ℕ → Bool
demo_answers k = k % 64 == 0

-- the text of the run by a tool that asks for these calls, and makes this text of the events that they give
abbrev pub tool_text : ImageFields → (Thing → List Call) → (List Event → List ℕ) → List ℕ
tool_text image calls text = text (trace_events calls (views_of image) (trace_of (demo_run image).budget (demo_run image).start))

-- `icount N`, `bcount B N` and `cache 64 32 accesses A hits H misses M`
abbrev pub icount_line : ImageFields → List ℕ
icount_line image = tool_text image instruction_calls (λ xs. count_text (own_events xs))

abbrev pub bcount_line : ImageFields → List ℕ
bcount_line image = tool_text image block_count_calls (λ xs. block_count_text (block_sums xs))

abbrev pub cache_line : ImageFields → List ℕ
cache_line image = tool_text image cache_calls (λ xs. cache_text 64 32 (simulate 64 32 xs))

-- `demo N file BYTES`, for a file of so many bytes
abbrev pub file_line : ℕ → ℕ → List ℕ
file_line n bytes = codes "demo " ++ (decimal n ++ (codes " file " ++ (decimal bytes ++ codes "\n")))

-- `cuts C`
abbrev pub cuts_line : ℕ → List ℕ
cuts_line cuts = codes "cuts " ++ (decimal cuts ++ codes "\n")

-- how many positions of all slices passed a test
abbrev pub sum_of_hits : (HitCounts → ℕ) → List Line → ℕ
sum_of_hits count lines = sum_by (λ line. count line.hits) lines

-- ` N`
abbrev pub spaced : ℕ → List ℕ
spaced n = codes " " ++ decimal n

-- `matches Q R S W`
abbrev pub sums_line : ℕ → ℕ → ℕ → ℕ → List ℕ
sums_line quick registers stack whole = codes "matches" ++ (spaced quick ++ (spaced registers ++ (spaced stack ++ (spaced whole ++ codes "\n"))))

abbrev pub matches_line : List Line → List ℕ
matches_line lines =
    sums_line (sum_of_hits (λ h. h.quick) lines) (sum_of_hits (λ h. h.registers) lines) (sum_of_hits (λ h. h.stack) lines) (sum_of_hits (λ h. h.whole) lines)

-- all lines: the number, the size of the file, the texts of the tools, how the run ended, where it was cut, its slices
abbrev pub all_lines : ℕ → ℕ → List ℕ → List ℕ → List ℕ → End → List ℕ → List Line → List ℕ
all_lines n bytes icount bcount cache end cuts lines =
    file_line n bytes ++ (icount ++ (bcount ++ (cache ++ (end_text end ++ (cuts_line (length cuts) ++ (matches_line lines ++ codes "equal\n"))))))

-- The text is that of the run of this image, of a file of so many bytes: the run ended within the budget by an exit or a
-- signal, the cuts are all that are due, and the lines are those of its slices.
pub record IsDemoText (n bytes : ℕ) (image : ImageFields) (text : List ℕ) : Type 0 where
  pub end : GuestEnd
  -- the last position of the run
  pub steps : ℕ
  pub within : steps < (demo_run image).budget
  pub ended : EndsAt (demo_run image).start steps (end_by end)
  pub cuts : List ℕ
  pub cuts_are : AreCuts demo_limits demo_answers (demo_run image).start steps cuts
  pub lines : List Line
  pub lines_are : AreLines (demo_run image).start steps 0 cuts lines
  pub text_is : text ≡ all_lines n bytes (icount_line image) (bcount_line image) (cache_line image) (end_by end) cuts lines

-- the run of this image was refused
abbrev pub RunRefused : ImageFields → Refusal → Type 0
RunRefused image (refusals.UnsupportedCall number pc) = (last : Position) × (run_of (demo_run image).budget (demo_run image).start ≡ Ended last (Unsupported number pc))
RunRefused image (refusals.BudgetSpent n) = (n ≡ (demo_run image).budget) × ((last : Position) × (run_of (demo_run image).budget (demo_run image).start ≡ Running last))
RunRefused image refusals.NoMemory = Unit {0}
RunRefused image _ = ⊥

-- what is answered to the file of a demo program: its first fault; the refusal of its run; or its text
abbrev pub FileGives : ℕ → List ℕ → Result (Vec ℕ Global) Refusal → Type 0
FileGives n file (Ok text) = (refusal_of file ≡ None) × IsDemoText n (length file) (image_of file) text.items
FileGives n file (Err (refusals.Elf fault)) = refusal_of file ≡ Some fault
FileGives n file (Err refusal) = (refusal_of file ≡ None) × RunRefused (image_of file) refusal

-- the same of the one file of the demo program of this number; want of memory says nothing
abbrev pub OfFile : ℕ → Result (Vec ℕ Global) Refusal → Type 0
OfFile n result = (file : List ℕ) × (Adds (demo_instrs n) demo_headers file × FileGives n file result)

abbrev pub DemoGives : ℕ → Result (Vec ℕ Global) Refusal → Type 0
DemoGives n (Ok text) = OfFile n (Ok text)
DemoGives n (Err refusals.NoMemory) = Unit {0}
DemoGives n (Err refusal) = OfFile n (Err refusal)
