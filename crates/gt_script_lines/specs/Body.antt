-- The meaning of a line of the body.
use Rattle.std.specs.Prelude.{ℕ, List, [], ◌∷◌, Option, None, if◌then◌else◌, codes}
use Rattle.std.specs.Option.{option_map}
use Rattle.std.specs.Str.{bytes_eq}
use Rattle.gt_script_lines.specs.Fields.{label_word, text_where, tick_word}
use Rattle.gt_script_lines.specs.CallNames.{unnamed}
use Rattle.gt_script_lines.specs.Calls.{call_line_of, only_reference}
use Rattle.gt_script_lines.specs.declared.body.BodyLine.{BodyLine}
use Rattle.gt_script_lines.specs.declared.calls.ScriptCall.{ScriptCall}
use Rattle.gt_script_lines.specs.declared.body.BodyLine.TheVariants.{Do, Begin, Tick, Show, Tell, Await}

-- the word after `tick` and its domain: N
unfoldable pub tick_of : List (List ℕ) → Option ℕ
tick_of (count ∷ []) = tick_word count
tick_of _ = None

-- the word after `tell` or `await` and its domain: FLAG, of the form of a label
unfoldable pub flag_of : List (List ℕ) → Option (List ℕ)
flag_of (flag ∷ []) = text_where label_word flag
flag_of _ = None

-- a line about a flag, by its first word and the words after its domain
unfoldable pub flag_line_of : List ℕ → List (List ℕ) → Option BodyLine
flag_line_of word args = if bytes_eq word (codes "tell") then option_map Tell (flag_of args)
    else (if bytes_eq word (codes "await") then option_map Await (flag_of args) else None)

-- the words of a call, with a name or without
abbrev pub named_call_of : List (List ℕ) → Option ScriptCall
named_call_of args = call_line_of (unnamed args)

-- a line of the body, by its first word and the words after its domain
unfoldable pub body_line_of : List ℕ → List (List ℕ) → Option BodyLine
body_line_of word args = if bytes_eq word (codes "do") then option_map Do (named_call_of args)
    else (if bytes_eq word (codes "begin") then option_map Begin (named_call_of args)
    else (if bytes_eq word (codes "tick") then option_map Tick (tick_of args)
    else (if bytes_eq word (codes "show") then option_map Show (only_reference args) else flag_line_of word args)))
