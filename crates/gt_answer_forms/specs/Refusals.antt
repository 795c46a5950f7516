-- The rules by which a legal history refuses the calls of a script.
use Rattle.std.specs.Prelude.{◌≡◌, Option, Some, None}
use Rattle.gt_model.specs.Asking.{asked}
use Rattle.gt_model.specs.History.{History, Setting, open_call, Underway}
use Rattle.gt_model.specs.Legal.{IsRight}
use Rattle.gt_model.specs.declared.request.Request.{Request}
use Rattle.gt_model.specs.declared.request.Request.TheVariants as requests
use Rattle.gt_model.specs.declared.trace.Answer.TheVariants.{Denied}
use Rattle.gt_model.specs.declared.trace.Item.{Item}
use Rattle.gt_model.specs.declared.trace.ItemEvent.{ItemEvent}
use Rattle.gt_model.specs.declared.trace.ItemEvent.TheVariants.{Began, Stepped}
use Rattle.gt_types.specs.declared.denial.Denial.{Denial}
use Rattle.gt_explore_verdict.specs.Refusing.{IsFormOfCall}
use Rattle.gt_explore_verdict.specs.declared.calls.CallName.{CallName}
use Rattle.gt_explore_verdict.specs.declared.calls.CallName.TheVariants as call_names
use Rattle.gt_explore_verdict.specs.declared.forms.AnswerForm.TheVariants as answer_forms

-- the kind of the call that makes a request; no call of a script makes a release or a probe
abbrev pub kind_of_request : Request → Option CallName
kind_of_request (requests.Grant gref entry) = Some call_names.Grant
kind_of_request (requests.GrantBytes gref bytes) = Some call_names.GrantBytes
kind_of_request (requests.Revoke gref) = Some call_names.Revoke
kind_of_request (requests.Withdraw gref) = Some call_names.Withdraw
kind_of_request (requests.Demote gref) = Some call_names.Demote
kind_of_request (requests.Promote gref) = Some call_names.Promote
kind_of_request (requests.Map dom gref flags) = Some call_names.Map
kind_of_request (requests.Unmap handle) = Some call_names.Unmap
kind_of_request (requests.Release handle) = None
kind_of_request (requests.Load handle off len) = Some call_names.Load
kind_of_request (requests.Store handle off bytes) = Some call_names.Store
kind_of_request (requests.Peek frame off len) = Some call_names.Peek
kind_of_request (requests.Poke frame off bytes) = Some call_names.Poke
kind_of_request (requests.Copy c) = Some call_names.Copy
kind_of_request (requests.Probe c) = None
kind_of_request (requests.SetVersion version) = Some call_names.SetVersion
kind_of_request (requests.SetupTable frames) = Some call_names.SetupTable
kind_of_request (requests.QuerySize dom) = Some call_names.QuerySize
kind_of_request (requests.GetVersion dom) = Some call_names.GetVersion

-- the call with this request begins in this event, or its domain has it open
abbrev pub IsRequestAt : Request → Option Underway → ItemEvent → Type 0
IsRequestAt request now (Began begun) = begun ≡ request
IsRequestAt request None (Stepped step seen) = ⊥
IsRequestAt request (Some c) (Stepped step seen) = c.request ≡ asked request

-- if an item that may follow these items refuses a call of this kind, it does so by one of the rules of such a call
abbrev pub IsRefusedByItsRules : Setting → History → Item → Request → CallName → Denial → Type 0
IsRefusedByItsRules s before i request call denial =
    IsRight s before i → IsRequestAt request (open_call before i.actor.0) i.happened → kind_of_request request ≡ Some call
    → i.answer ≡ Some (Denied denial) → IsFormOfCall call (answer_forms.Refused denial.rule)
