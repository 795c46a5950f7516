-- Letters for long flags.
use Rattle.std.specs.Prelude.{Bool, false, ◌||◌, List, [], ◌∷◌, codes, if◌then◌else◌}
use Rattle.std.specs.Str.{bytes_eq}
use Rattle.clap.specs.Words.{Text}

-- `-v` is `--verbose`
abbrev pub long_flag : Text → Text
long_flag word = if bytes_eq word (codes "-v") then codes "--verbose" else word

-- the word is the mark `--`, or comes after it
abbrev pub is_past_mark : Bool → Text → Bool
is_past_mark marked word = marked || bytes_eq word (codes "--")

-- the word with its long flag; after the mark each word is plain
abbrev pub long_word : Bool → Text → Text
long_word marked word = if marked then word else long_flag word

abbrev pub long_flags_from : Bool → List Text → List Text
long_flags_from marked [] = []
long_flags_from marked (word ∷ rest) =
    long_word (is_past_mark marked word) word ∷ long_flags_from (is_past_mark marked word) rest

-- the words with their long flags
abbrev pub with_long_flags : List Text → List Text
with_long_flags words = long_flags_from false words
