-- The words of the answers that are Ok.
use Rattle.std.specs.Prelude.{◌≡◌, ◌<◌, ◌^◌, ℕ, true, List, All, None}
use Rattle.gt_model.specs.Legal.{refusal_of}
use Rattle.gt_model.specs.declared.trace.Answer.{Answer}
use Rattle.gt_model.specs.declared.trace.Answer.TheVariants as answers
use Rattle.gt_script_runs.specs.Printing.{answer_text}
use Rattle.gt_explore_verdict.specs.Forms.{begins_form}
use Rattle.gt_explore_verdict.specs.Satisfying.{line_words}
use Rattle.gt_answer_forms.specs.AnswerForms.{form_of_answer}

-- the values of an answer are within their types
abbrev pub HasFittingValues : Answer → Type 0
HasFittingValues (answers.Bytes b) = All (λ x. x < 2 ^ 8) b.bytes.items
HasFittingValues (answers.Frames frames) = frames < 2 ^ 32
HasFittingValues (answers.Size size) = (size.frames < 2 ^ 32) × (size.max < 2 ^ 32)
HasFittingValues (answers.Version version) = version < 2 ^ 32
HasFittingValues answer = Unit {0}

-- the words of an answer that is Ok are those of its form
abbrev pub IsWrittenInItsForm : List (List ℕ) → Answer → Type 0
IsWrittenInItsForm names answer =
    refusal_of answer ≡ None → HasFittingValues answer
    → begins_form (form_of_answer answer) (line_words (answer_text names answer)) ≡ true
