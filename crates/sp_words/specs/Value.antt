-- What the value of an option means.
use Rattle.std.specs.Prelude.{◌==◌, ◌&&◌, ℕ, Bool, not, codes, if◌then◌else◌, length, nat_le, nat_lt, Option, Some, None, slice_index}
use Rattle.std.specs.List.{after_first, before_first, list_all, list_any}
use Rattle.std.specs.Str.{bytes_eq}
use Rattle.std.specs.Str.Parse.{digits_value}
use Rattle.clap.specs.Lexer.{is_digit}
use Rattle.cache_tool.specs.Sizes.{is_line, is_sets}
use Rattle.sp_words.specs.Split.{Text}
use Rattle.sp_words.specs.declared.asked.By.{By}
use Rattle.sp_words.specs.declared.asked.By.TheVariants.{Serial, Windows}
use Rattle.sp_words.specs.declared.asked.ToolName.{ToolName}
use Rattle.sp_words.specs.declared.asked.ToolName.TheVariants.{Icount, Bcount, Mix, Blocks, Calls, Cache}

-- decimal digits, at least one, of which the first of several is not 0
abbrev pub has_needless_zero : Text → Bool
has_needless_zero text = nat_lt 1 (length text) && slice_index text 0 == 48

abbrev pub is_decimal : Text → Bool
is_decimal text = not (length text == 0) && (list_all is_digit text && not (has_needless_zero text))

-- the number that they write, if it lies in a range
abbrev pub number_in : ℕ → ℕ → Text → Option ℕ
number_in least most text =
    if is_decimal text && (nat_le least (digits_value 10 text) && nat_le (digits_value 10 text) most) then Some (digits_value 10 text)
    else None

abbrev pub by_named : Text → Option By
by_named text =
    if bytes_eq text (codes "serial") then Some Serial
    else (if bytes_eq text (codes "windows") then Some Windows else None)

-- what stands before the first colon, and behind it
abbrev pub cut_at_colon : Text → Text × Option Text
cut_at_colon text = (
  before_first (λ x. x == 58) text,
  if list_any (λ x. x == 58) text then Some (after_first (λ x. x == 58) text) else None,
)

-- a cache of these sizes, if one may have them
abbrev pub cache_with : Option ℕ → Option ℕ → Option ToolName
cache_with (Some sets) (Some line) = if is_sets sets && is_line line then Some (Cache sets line) else None
cache_with _ _ = None

-- `S:B`
abbrev pub cache_sized : Text × Option Text → Option ToolName
cache_sized (sets, None) = None
cache_sized (sets, Some line) = cache_with (number_in 1 4096 sets) (number_in 4 4096 line)

-- `cache:S:B`
abbrev pub cache_named : Text × Option Text → Option ToolName
cache_named (name, None) = None
cache_named (name, Some sizes) = if bytes_eq name (codes "cache") then cache_sized (cut_at_colon sizes) else None

abbrev pub tool_named : Text → Option ToolName
tool_named text =
    if bytes_eq text (codes "icount") then Some Icount
    else (if bytes_eq text (codes "bcount") then Some Bcount
    else (if bytes_eq text (codes "mix") then Some Mix
    else (if bytes_eq text (codes "blocks") then Some Blocks
    else (if bytes_eq text (codes "calls") then Some Calls
    else (if bytes_eq text (codes "cache") then Some (Cache 64 32)
    else cache_named (cut_at_colon text))))))
