-- How the words behind a command fall into options, with their values, and positionals.
use Rattle.std.specs.Prelude.{◌+◌, ◌&&◌, ◌||◌, ◌==◌, ℕ, Bool, true, false, not, List, [], ◌∷◌, codes, drop, is_some, take, if◌then◌else◌}
use Rattle.std.specs.List.{before_first, list_any}
use Rattle.std.specs.Str.{bytes_eq}
use Rattle.clap.specs.Lexer.{has_byte, is_long_word, strip_byte}

-- the bytes of a word
abbrev pub Text : Type 0
Text = List ℕ

-- `--`
abbrev pub is_separator : Text → Bool
is_separator word = bytes_eq word (codes "--")

-- an option word begins with a hyphen, and is not `--`
abbrev pub is_option : Text → Bool
is_option word = is_some (strip_byte 45 word) && not (is_separator word)

-- it begins with `--`, is not `--slices`, and has no value of its own behind `=`: the next word is its value
abbrev pub takes_next : Text → Bool
takes_next word = is_long_word word && (not (bytes_eq word (codes "--slices")) && not (has_byte 61 word))

-- how many words are options and their values, where the first is the value of one before it, or is not
abbrev pub option_count : Bool → List Text → ℕ
option_count is_value [] = 0
option_count true (word ∷ rest) = 1 + option_count false rest
option_count false (word ∷ rest) = if is_option word then 1 + option_count (takes_next word) rest else 0

abbrev pub option_words : List Text → List Text
option_words words = take (option_count false words) words

-- a `--` in front of the positionals is passed over
abbrev pub behind_separator : List Text → List Text
behind_separator [] = []
behind_separator (word ∷ rest) = if is_separator word then rest else word ∷ rest

abbrev pub positionals : List Text → List Text
positionals words = behind_separator (drop (option_count false words) words)

-- an option's name ends before `=`
abbrev pub name_of : Text → Text
name_of word = before_first (λ x. x == 61) word

-- the names of the options, where the first word is a value, or is not
abbrev pub names_of : Bool → List Text → List Text
names_of is_value [] = []
names_of true (word ∷ rest) = names_of false rest
names_of false (word ∷ rest) = name_of word ∷ names_of (takes_next word) rest

abbrev pub has_repeat : List Text → Bool
has_repeat [] = false
has_repeat (name ∷ rest) = list_any (bytes_eq name) rest || has_repeat rest

-- an option is given twice
abbrev pub is_given_twice : List Text → Bool
is_given_twice words = has_repeat (names_of false words)
