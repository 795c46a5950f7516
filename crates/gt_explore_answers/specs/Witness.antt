-- A script for `play` that gives the answers of a text, in an output.
use Rattle.std.specs.Prelude.{◌≡◌, ◌⊎◌, ◌+◌, ◌++◌, ℕ, true, List, [], Some, slice_get}
use Rattle.gt_types.specs.declared.DomId.{DomId}
use Rattle.gt_script.specs.Contents.{Contents}
use Rattle.gt_script_runs.specs.Rights.{may_in}
use Rattle.gt_explore_witness.specs.GivingAnswers.{GivesAnswers, may_not_unmap}
use Rattle.gt_explore_answers.specs.Outputs.{unplayable_line}

-- the line in place of a script for `play` that was not found: the policy does not let its domain unmap the entries of
-- some domain, and `play` has no line for a domain that leaves with such a mapping
abbrev pub IsUnplayableOutput : Contents → List ℕ → Type 0
IsUnplayableOutput c lines =
    (dom : DomId) × (may_not_unmap (may_in c) c.domains dom ≡ true) × (lines ≡ unplayable_line dom.0)

-- the output is this comment and more lines: a script for `play` that gives the answers of the text; or the line in its
-- place, if the policy does not let some domain unmap all entries
abbrev pub ShowsAfter : Contents → List ℕ → List ℕ → List ℕ → Type 0
ShowsAfter c comment out text =
    (lines : List ℕ) × (out ≡ comment ++ lines) × (GivesAnswers c.domains out text ⊎ IsUnplayableOutput c lines)

-- the text of this number among these, of which the first has the number 1
abbrev pub IsTextNumbered : List (List ℕ) → ℕ → List ℕ → Type 0
IsTextNumbered texts number text = (at : ℕ) × (number ≡ at + 1) × (slice_get texts at ≡ Some text)

-- a script for `play` that gives the answers of the text of this number, or the line in its place
pub record IsWitness (c : Contents) (texts : List (List ℕ)) (number : ℕ) (script : List ℕ) : Type 0 where
  pub text : List ℕ
  pub numbered : IsTextNumbered texts number text
  pub gives : ShowsAfter c [] script text
