-- The flags of a script for `run`, numbered as they first appear.
use Rattle.std.specs.Prelude.{ℕ, List, [], ◌∷◌, ◌++◌, Option, Some, None, map, fold, if◌then◌else◌}
use Rattle.std.specs.Borrow.{Bor}
use Rattle.std.specs.List.{list_any, position_or_len}
use Rattle.std.specs.Option.{option_to_list}
use Rattle.std.specs.Str.{bytes_eq}
use Rattle.gt_script_lines.specs.declared.body.BodyLine.{BodyLine}
use Rattle.gt_script_lines.specs.declared.body.BodyLine.TheVariants as body_lines

-- the names behind the references
abbrev pub borrowed_names : List (Bor (List ℕ)) → List (List ℕ)
borrowed_names keys = map (λ key. key.now) keys

-- the names with this one, which is appended if it is new
unfoldable pub with_flag : List (List ℕ) → List ℕ → List (List ℕ)
with_flag names name = if list_any (bytes_eq name) names then names else names ++ name ∷ []

-- these names and those of the flags that are named after them, each once, in the order in which they first appear
abbrev pub with_flags : List (List ℕ) → List (List ℕ) → List (List ℕ)
with_flags names named = fold with_flag names named

-- the flag of a line of the body, if it raises or awaits one
abbrev pub flag_in : BodyLine → Option (List ℕ)
flag_in (body_lines.Do call) = None
flag_in (body_lines.Begin call) = None
flag_in (body_lines.Tick most) = None
flag_in (body_lines.Show gref) = None
flag_in (body_lines.Tell flag) = Some flag
flag_in (body_lines.Await flag) = Some flag

-- the names with the flag of this line, if it has one
abbrev pub with_flag_of : List (List ℕ) → BodyLine → List (List ℕ)
with_flag_of names asks = with_flags names (option_to_list (flag_in asks))

-- the number of a flag: the index of its name
unfoldable pub flag_number : List (List ℕ) → List ℕ → ℕ
flag_number names name = position_or_len (bytes_eq name) names
