-- Lines as objects.
use Rattle.std.specs.Prelude.{ℕ, ◌==◌, ◌&&◌, ◌||◌, Bool, List, [], ◌∷◌, ◌++◌, length, codes, is_some, unwrap_or}
use Rattle.std.specs.Prelude.{if◌then◌else◌}
use Rattle.std.specs.List.{flat_map, slice_split}
use Rattle.std.specs.Str.{bytes_eq}
use Rattle.gt_json.specs.Words.{at_equals}
use Rattle.gt_json.specs.Strings.{quoted, value_text}
use Rattle.gt_json.specs.declared.places.PrintedText.{PrintedText}
use Rattle.gt_json.specs.declared.places.WordPlace.{WordPlace}
pub use Rattle.gt_json.specs.Places.{is_fact}
use Rattle.gt_json.specs.Places.{start, next, name_at, is_start, is_mark}

-- the name and the value of a word: its own name, or that of its position
abbrev pub member_of : WordPlace → List ℕ → List ℕ × List ℕ
member_of p w = if is_fact p then unwrap_or (at_equals w) (name_at p w, w) else (name_at p w, w)

-- the value with this name is hexadecimal: the bytes of an answer, and the status word of an entry
abbrev pub is_hex : WordPlace → List ℕ → Bool
is_hex p name = is_fact p && (bytes_eq name (codes "bytes") || bytes_eq name (codes "status"))

-- the mark in front of a member (RFC 8259, section 4)
abbrev pub lead : WordPlace → List ℕ
lead p = if is_start p then codes "{" else codes ","

-- a name and its value, after the mark in front of them (RFC 8259, section 4)
unfoldable pub member_text : WordPlace → List ℕ → List ℕ
member_text p w =
    lead p ++ quoted (member_of p w).0 ++ codes ":" ++ value_text (is_hex p (member_of p w).0) (member_of p w).1

-- the member of a word; nothing for the colon of an audit line
unfoldable pub piece : WordPlace → List ℕ → List ℕ
piece p w = if is_mark p w then [] else member_text p w

-- the members of the words, the first of which is at this position
abbrev pub pieces : WordPlace → List (List ℕ) → List ℕ
pieces p [] = []
pieces p (w ∷ ws) = piece p w ++ pieces (next p w) ws

-- the words of a line, split at each blank
abbrev pub json_words : List ℕ → List (List ℕ)
json_words line = slice_split (λ b. b == 32) line

-- a line as an object on one line; nothing for an empty line (JSON Lines)
unfoldable pub object_line : PrintedText → List ℕ → List ℕ
object_line printed line = if length line == 0 then [] else pieces (start printed) (json_words line) ++ codes "}\n"

-- a text as objects, one for each of its lines (JSON Lines)
abbrev pub json_text : PrintedText → List ℕ → List ℕ
json_text printed text = flat_map (object_line printed) (slice_split (λ b. b == 10) text)

-- the word that a member gives back: its value, after its name if that is its own, or the colon
abbrev pub said : WordPlace → List ℕ → List ℕ
said p w = if is_mark p w then codes ":"
    else (if is_fact p && is_some (at_equals w) then (member_of p w).0 ++ codes "=" ++ (member_of p w).1
    else (member_of p w).1)

-- the words that the members give back, the first of which is at this position
abbrev pub all_said : WordPlace → List (List ℕ) → List (List ℕ)
all_said p [] = []
all_said p (w ∷ ws) = said p w ∷ all_said (next p w) ws
