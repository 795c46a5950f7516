-- The output for texts that a script may give.
use Rattle.std.specs.Prelude.{◌+◌, ◌++◌, ◌==◌, ℕ, Bool, if◌then◌else◌, List, [], ◌∷◌, length, codes, decimal}
use Rattle.std.specs.List.{flat_map}
use Rattle.gt_explore_answers.specs.Texts.{texts_of_orders}
use Rattle.gt_explore_answers.specs.declared.found.FoundTexts.{FoundTexts}

-- texts that a script may give, the number of states that the search met, whether these are all texts, and if not, the
-- number of states on the way to the last of those
pub record Found : Type 0 where
  pub texts : List (List ℕ)
  pub states : ℕ
  pub whole : Bool
  pub depth : ℕ

abbrev pub found_from : FoundTexts → Found
found_from f = record { texts = texts_of_orders f.texts.items; states = f.states; whole = f.whole; depth = f.depth }

-- the number of a text, and how many there are
unfoldable pub heading : Bool → ℕ → ℕ → List ℕ
heading whole count number =
    codes "text " ++ decimal number ++ (if whole then codes " of " else codes " of at least ") ++ decimal count

-- the same as a line
abbrev pub heading_line : Found → ℕ → List ℕ
heading_line f number = heading f.whole (length f.texts) number ++ codes "\n"

-- a text under its number, if it is wanted
abbrev pub text_shown : Bool → Bool → ℕ → ℕ → List ℕ → List ℕ
text_shown wanted whole count number text = if wanted then heading whole count number ++ codes "\n" ++ text else []

-- the wanted ones among these texts, the first of them under the number after this one
abbrev pub texts_listed : Bool → ℕ → ℕ → List (List ℕ) → List Bool → List ℕ
texts_listed whole count before [] wanted = []
texts_listed whole count before (text ∷ texts) [] = []
texts_listed whole count before (text ∷ texts) (wants ∷ wanted) =
    text_shown wants whole count (before + 1) text ++ texts_listed whole count (before + 1) texts wanted

-- the number of states, and that there may be more texts
unfoldable pub states_output : Found → List ℕ
states_output f =
    codes "states " ++ decimal f.states
    ++ (if f.whole then [] else codes ", depth " ++ decimal f.depth ++ codes ": not all texts; raise --states")

-- the last line
abbrev pub states_line : Found → List ℕ
states_line f = states_output f ++ codes "\n"

-- the whole output for the wanted ones of these texts
abbrev pub texts_output : Found → List Bool → List ℕ
texts_output f wanted = texts_listed f.whole (length f.texts) 0 f.texts wanted ++ states_line f

-- a byte of a comment, which goes on after the end of a line
unfoldable pub comment_byte : ℕ → List ℕ
comment_byte b = if b == 10 then codes "\n# " else b ∷ []

-- a text without its last line end, as a comment of a script
unfoldable pub commented : List ℕ → List ℕ
commented text = codes "# " ++ flat_map comment_byte text ++ codes "\n"

-- the lines of the comment over a script that shows that a claim does not hold: the text that it gives, and the number
-- of states
unfoldable pub counterexample_lines : Found → ℕ → List ℕ → List ℕ
counterexample_lines f number text =
    codes "does not hold: " ++ heading f.whole (length f.texts) number ++ codes "\n" ++ text ++ states_output f

abbrev pub counterexample_comment : Found → ℕ → List ℕ → List ℕ
counterexample_comment f number text = commented (counterexample_lines f number text)

-- the line in place of a script for `play` that was not found: this domain leaves with a mapping that it may not unmap
abbrev pub unplayable_line : ℕ → List ℕ
unplayable_line dom =
    codes "# no script for play gives it: domain " ++ decimal dom
    ++ codes " leaves with a mapping that it may not unmap\n"

-- the comment over a script that gives the text of this number
abbrev pub witness_comment : Found → ℕ → List ℕ
witness_comment f number = commented (heading f.whole (length f.texts) number)
