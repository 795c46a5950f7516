-- The words before a command.
use Rattle.std.specs.Prelude.{Bool, ◌||◌, List, [], ◌∷◌, Option, Some, None, codes, if◌then◌else◌}
use Rattle.std.specs.Str.{bytes_eq}
use Rattle.clap.specs.Words.{Text}

-- the flag `-v` or `--verbose`
abbrev pub is_verbose : Text → Bool
is_verbose word = bytes_eq word (codes "-v") || bytes_eq word (codes "--verbose")

-- the word `help`
abbrev pub is_help : Text → Bool
is_help word = bytes_eq word (codes "help")

-- the words that ask for the help of the first of these, or for that of the program if there is none
abbrev pub help_first : Text → List Text → List Text
help_first program [] = program ∷ (codes "--help" ∷ [])
help_first program (command ∷ rest) = program ∷ (command ∷ (codes "--help" ∷ rest))

-- a flag for reasons before the command comes after its name instead, and one before `help` is dropped
abbrev pub flag_behind : Text → Text → List Text → List Text
flag_behind program word [] = program ∷ (word ∷ [])
flag_behind program word (next ∷ rest) =
    if is_verbose word then (if is_help next then help_first program rest else program ∷ (next ∷ (word ∷ rest)))
    else program ∷ (word ∷ (next ∷ rest))

-- the words with the command before its flags; `help` before a command is its flag `--help`
abbrev pub command_first : List Text → List Text
command_first [] = []
command_first (program ∷ []) = program ∷ []
command_first (program ∷ (word ∷ rest)) =
    if is_help word then help_first program rest else flag_behind program word rest

-- the first of these words, or the one before them if there is none
abbrev pub first_or : Text → List Text → Option Text
first_or word [] = Some word
first_or word (next ∷ rest) = Some next

-- the word after a flag for reasons, or after that flag and `help`
abbrev pub word_behind : Text → List Text → Option Text
word_behind word [] = Some word
word_behind word (next ∷ rest) =
    if is_verbose word then (if is_help next then first_or next rest else Some next) else Some word

-- the word where a command is expected
abbrev pub leading_word : List Text → Option Text
leading_word [] = None
leading_word (program ∷ []) = None
leading_word (program ∷ (word ∷ rest)) = if is_help word then first_or word rest else word_behind word rest
