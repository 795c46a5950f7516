-- The meaning of the words of a line.
use Rattle.std.specs.Prelude.{ℕ, List, [], ◌∷◌, Option, Some, None, if◌then◌else◌, codes}
use Rattle.std.specs.Option.{option_map}
use Rattle.std.specs.Str.{bytes_eq}
use Rattle.gt_types.specs.Names.{permission_of}
use Rattle.gt_script_lines.specs.Numbers.{decimal_number}
use Rattle.gt_script_lines.specs.Fields.{◌>>=◌, name_word, text_where, generation_word, type_word}
use Rattle.gt_script_lines.specs.Body.{body_line_of}
use Rattle.gt_script_lines.specs.declared.lines.TripleLine.{TripleLine}
use Rattle.gt_script_lines.specs.declared.lines.DomainLine.{DomainLine}
use Rattle.gt_script_lines.specs.declared.lines.ScriptLine.{ScriptLine}
use Rattle.gt_script_lines.specs.declared.lines.ScriptLine.TheVariants as script_lines

-- the words after `triple`: SOURCE TARGET PERMISSION
unfoldable pub triple_of : List (List ℕ) → Option TripleLine
triple_of (source ∷ target ∷ permission ∷ []) = do
  s ← text_where name_word source
  t ← text_where name_word target
  p ← permission_of permission
  Some (record { source = s; target = t; perm = p })
triple_of _ = None

-- the word after `wear`: N
unfoldable pub wear_of : List (List ℕ) → Option ℕ
wear_of (first ∷ []) = generation_word first
wear_of _ = None

-- the words after `domain`: ID USER:ROLE:TYPE FRAMES TABLEFRAMES VERSION
unfoldable pub domain_line_of : List (List ℕ) → Option DomainLine
domain_line_of (id ∷ label ∷ frames ∷ table_frames ∷ version ∷ []) = do
  i ← decimal_number id
  t ← type_word label
  f ← decimal_number frames
  n ← decimal_number table_frames
  v ← decimal_number version
  Some (record { id = i; type_name = t; frames = f; table_frames = n; version = v })
domain_line_of _ = None

-- a line of the body: its first word, then ID and the rest
unfoldable pub body_of : List ℕ → List (List ℕ) → Option ScriptLine
body_of word [] = None
body_of word (id ∷ args) = do
  n ← decimal_number id
  a ← body_line_of word args
  Some (script_lines.Body n a)

-- a line of a script by its first word
abbrev pub line_of : List (List ℕ) → Option ScriptLine
line_of [] = None
line_of (word ∷ args) = if bytes_eq word (codes "triple") then option_map script_lines.Triple (triple_of args)
    else (if bytes_eq word (codes "wear") then option_map script_lines.Wear (wear_of args)
    else (if bytes_eq word (codes "domain") then option_map script_lines.Domain (domain_line_of args)
    else body_of word args))
