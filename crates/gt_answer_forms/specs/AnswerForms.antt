-- The forms of the answers that a legal history gives to the calls of a script.
use Rattle.std.specs.Prelude.{◌≡◌, ◌==◌, Option, Some, None, length, if◌then◌else◌}
use Rattle.gt_model.specs.History.{History, Setting, open_call}
use Rattle.gt_model.specs.Legal.{IsRight}
use Rattle.gt_model.specs.declared.request.Request.{Request}
use Rattle.gt_model.specs.declared.trace.Answer.{Answer}
use Rattle.gt_model.specs.declared.trace.Answer.TheVariants as answers
use Rattle.gt_model.specs.declared.trace.Item.{Item}
use Rattle.gt_explore_verdict.specs.Refusing.{IsFormOfCall}
use Rattle.gt_explore_verdict.specs.declared.calls.CallName.{CallName}
use Rattle.gt_explore_verdict.specs.declared.forms.AnswerForm.{AnswerForm}
use Rattle.gt_explore_verdict.specs.declared.forms.AnswerForm.TheVariants as answer_forms
use Rattle.gt_answer_forms.specs.Refusals.{IsRequestAt, kind_of_request}

-- the form of an answer: a map prints no handle, and a load and a peek of no bytes print none
abbrev pub form_of_answer : Answer → AnswerForm
form_of_answer (answers.Denied denial) = answer_forms.Refused denial.rule
form_of_answer answers.Done = answer_forms.Done
form_of_answer (answers.Mapped handle) = answer_forms.Done
form_of_answer (answers.Bytes b) = if length b.bytes.items == 0 then answer_forms.Done else answer_forms.Bytes
form_of_answer (answers.Frames frames) = answer_forms.Frames
form_of_answer (answers.Size size) = answer_forms.Size
form_of_answer (answers.Version version) = answer_forms.Version

-- if an item that may follow these items answers a call of this kind, the answer has one of the forms of such a call
abbrev pub HasFormOfItsCall : Setting → History → Item → Request → CallName → Answer → Type 0
HasFormOfItsCall s before i request call answer =
    IsRight s before i → IsRequestAt request (open_call before i.actor.0) i.happened
    → kind_of_request request ≡ Some call → i.answer ≡ Some answer → IsFormOfCall call (form_of_answer answer)
