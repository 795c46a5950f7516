-- The usage of a command: its flags, its options and its words, and the meaning of words by it.
use Rattle.std.specs.Prelude.{◌==◌, ◌&&◌, Bool, false, not, ℕ, List, [], ◌∷◌, ◌++◌, Option, Some, None, codes}
use Rattle.std.specs.Prelude.{find, option_map}
use Rattle.std.specs.Prelude.{if◌then◌else◌, slice_get}
use Rattle.std.specs.List.{list_any}
use Rattle.std.specs.Option.{option_map_or}
use Rattle.std.specs.Str.{bytes_eq, chars}
use Rattle.clap.specs.Lexer.{long_of, short_of}
use Rattle.clap.specs.Words.{Text}

-- the usage of a command: flags `--NAME`, options `--NAME VALUE`, and words in this order, each under its name;
-- `needed` are those of the options and words that must be given
pub record Usage : Type 0 where
  pub flags : List Text
  pub options : List Text
  pub words : List Text
  pub needed : List Text

abbrev pub lists_name : List Text → Text → Bool
lists_name names name = list_any (λ n. bytes_eq n name) names

-- what was given so far, in order: names with their values; the value of a flag is `true`
abbrev pub Given : Type 0
Given = List (Text × Text)

abbrev pub value_given : Given → Text → Option Text
value_given given name = option_map (λ g. g.1) (find (λ g. bytes_eq g.0 name) given)

abbrev pub is_given : Given → Text → Bool
is_given given name = list_any (λ g. bytes_eq g.0 name) given

-- the value of a flag that is given
abbrev pub is_true : Option Text → Bool
is_true value = option_map_or (λ text. bytes_eq text (codes "true")) value false

-- something needed is not given
abbrev pub lacks : Usage → Given → Bool
lacks u given = list_any (λ name. lists_name u.needed name && not (is_given given name)) (u.words ++ u.options)

-- the meaning of a line: it gives this, it asks for help, or it is wrong
pub data Line : Type 0 where
  gives : Given → Line
  asks_help : Line
  wrong : Line

-- the kinds of words: the mark `--`, after which no word is a flag; `--NAME` or `--NAME=VALUE`; short flags, by the
-- first letter; or a plain word
pub data Word : Type 0 where
  mark : Word
  long : Text → Option Text → Word
  short : ℕ → Word
  plain : Word

abbrev pub short_flags : Option ℕ → Word
short_flags (Some letter) = short letter
short_flags None = plain

-- the kind of a word, by the long flag or the short flags that the parser takes it for
abbrev pub usage_word_with : Option (Text × Option Text) → Option Text → Word
usage_word_with (Some (name, value)) _ = long name value
usage_word_with None (Some flags) = short_flags (slice_get (chars flags) 0)
usage_word_with None None = plain

abbrev pub usage_word : Text → Word
usage_word word = if bytes_eq word (codes "--") then mark else usage_word_with (long_of word) (short_of word)

-- the rest of a line, as a function of what was given and the words that can still come
abbrev pub Next : Type 0
Next = Given → List Text → Line

-- each name is given once
abbrev pub once : Text → Text → Given → List Text → Next → Line
once name value given left next =
    if is_given given name then wrong else next (given ++ (name, value) ∷ []) left

-- a plain word is the next of the command's words
abbrev pub by_word : List Text → Text → Given → Next → Line
by_word [] word given next = wrong
by_word (name ∷ left) word given next = once name word given left next

-- the end of a line
abbrev pub line_ended : Usage → Given → Line
line_ended u given = if lacks u given then wrong else gives given

-- after the mark each word is plain
abbrev pub line_after_mark : Usage → List Text → Given → List Text → Line
line_after_mark u [] given left = line_ended u given
line_after_mark u (word ∷ rest) given left = by_word left word given (line_after_mark u rest)

-- a flag has no value, and an option has the one that is attached or the word after it; `waiting` continues with the
-- option whose value comes next, if there is one
abbrev pub by_long : Usage → Text → Option Text → Given → List Text → (Option Text → Next) → Line
by_long u name None given left waiting =
    if lists_name u.flags name then once name (codes "true") given left (waiting None)
    else (if lists_name u.options name then waiting (Some name) given left
    else (if bytes_eq (codes "help") name then asks_help else wrong))
by_long u name (Some value) given left waiting =
    if lists_name u.flags name then wrong
    else (if lists_name u.options name then once name value given left (waiting None) else wrong)

-- the meaning of a word, if no option waits for its value
abbrev pub by_kind : Usage → Word → Text → Given → List Text → Next → (Option Text → Next) → Line
by_kind u mark word given left marked waiting = marked given left
by_kind u (long name value) word given left marked waiting = by_long u name value given left waiting
by_kind u (short letter) word given left marked waiting = if 104 == letter then asks_help else wrong
by_kind u plain word given left marked waiting = by_word left word given (waiting None)

-- the value of an option is a plain word
abbrev pub by_value : Word → Text → Text → Given → List Text → Next → Line
by_value mark name word given left next = wrong
by_value (long other value) name word given left next = wrong
by_value (short letter) name word given left next = wrong
by_value plain name word given left next = once name word given left next

-- the meaning of the words of a command, with the option that waits for its value
abbrev pub usage_line_of : Usage → List Text → Option Text → Given → List Text → Line
usage_line_of u [] None given left = line_ended u given
usage_line_of u [] (Some name) given left = wrong
usage_line_of u (word ∷ rest) None given left =
    by_kind u (usage_word word) word given left (line_after_mark u rest) (usage_line_of u rest)
usage_line_of u (word ∷ rest) (Some name) given left =
    by_value (usage_word word) name word given left (usage_line_of u rest None)

-- the meaning of the words after a command's name
abbrev pub line : Usage → List Text → Line
line u words = usage_line_of u words None [] u.words
