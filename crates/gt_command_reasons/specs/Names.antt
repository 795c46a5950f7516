-- The name of a text.
use Rattle.std.specs.Prelude.{ℕ, List, Option, None, Some, codes}

-- the name with which lines begin
abbrev pub shown_name : Option (List ℕ) → List ℕ
shown_name None = codes "<stdin>"
shown_name (Some name) = name
