-- The answers of a legal history have the forms of their calls.
use Rattle.std.proofs.Common.{◌≡◌, ◌∙◌, ap, refl, subst, sym, ◌++◌, ◌==◌, Bool, true, false, ℕ, [], ◌∷◌, length, Option}
use Rattle.std.proofs.Common.{None, Some}
use Rattle.std.specs.Prelude.{if◌then◌else◌}
use Rattle.std.proofs.lemmas.Option.{none-some, same_Some}
use Rattle.gt_types.specs.declared.DomId.{DomId}
use Rattle.gt_types.specs.declared.GrantRef.{GrantRef}
use Rattle.gt_types.specs.declared.Size.{Size}
use Rattle.gt_types.specs.declared.denial.Denial.{Denial}
use Rattle.gt_model.specs.Asking.{asked}
use Rattle.gt_model.specs.History.{History, Setting, Underway, open_call}
use Rattle.gt_model.specs.Legal.{AnsweredBy, GivesValue, IsRight, StepsRightIn, refusal_of}
use Rattle.gt_model.specs.declared.action.CallResult.{CallResult}
use Rattle.gt_model.specs.declared.action.Observation.{Observation}
use Rattle.gt_model.specs.declared.action.Step.{Step}
use Rattle.gt_model.specs.declared.action.Step.TheVariants as call_steps
use Rattle.gt_model.specs.declared.handle.Handle.{Handle}
use Rattle.gt_model.specs.declared.request.OpenRequest.{OpenRequest}
use Rattle.gt_model.specs.declared.request.OpenRequest.TheVariants as asks
use Rattle.gt_model.specs.declared.request.Request.{Request}
use Rattle.gt_model.specs.declared.request.Request.TheVariants as requests
use Rattle.gt_model.specs.declared.trace.Answer.{Answer}
use Rattle.gt_model.specs.declared.trace.Answer.TheVariants as answers
use Rattle.gt_model.specs.declared.trace.Item.{Item}
use Rattle.gt_model.specs.declared.trace.ItemEvent.{ItemEvent}
use Rattle.gt_model.specs.declared.trace.ItemEvent.TheVariants.{Began, Stepped}
use Rattle.gt_explore_verdict.specs.Refusing.{IsFormOfCall}
use Rattle.gt_explore_verdict.specs.declared.calls.CallName.{CallName}
use Rattle.gt_explore_verdict.specs.declared.calls.CallName.TheVariants as call_names
use Rattle.gt_explore_verdict.specs.declared.forms.AnswerForm.{AnswerForm}
use Rattle.gt_explore_verdict.specs.declared.forms.AnswerForm.TheVariants as answer_forms
use Rattle.gt_answer_forms.specs.AnswerForms.{HasFormOfItsCall, form_of_answer}
use Rattle.gt_answer_forms.specs.Refusals.{IsRequestAt, kind_of_request}
use Rattle.gt_answer_forms.proofs.Refusals.{refused_by_its_rules}

-- ---- the answers that are Ok

-- the answer is Ok, and none of a call that gives a value
abbrev IsPlain : OpenRequest → Type 0
IsPlain (asks.Map dom gref flags) = ⊥
IsPlain (asks.Load handle off len) = ⊥
IsPlain (asks.Peek frame off len) = ⊥
IsPlain (asks.SetupTable frames) = ⊥
IsPlain (asks.QuerySize dom) = ⊥
IsPlain (asks.GetVersion dom) = ⊥
IsPlain opened = Unit {0}

done_given : (s : Setting) (before : History) (d : DomId) (opened : OpenRequest) (step : Option Step) (answer : Answer)
    → IsPlain opened → refusal_of answer ≡ None → GivesValue s before d opened step answer → answer ≡ answers.Done
done_given s before d opened step (answers.Denied denial) plain none gives = absurd (none-some denial (sym none))
done_given s before d (asks.Map dom gref flags) step answer plain none gives = absurd plain
done_given s before d (asks.Load handle off len) step answer plain none gives = absurd plain
done_given s before d (asks.Peek frame off len) step answer plain none gives = absurd plain
done_given s before d (asks.SetupTable frames) step answer plain none gives = absurd plain
done_given s before d (asks.QuerySize dom) step answer plain none gives = absurd plain
done_given s before d (asks.GetVersion dom) step answer plain none gives = absurd plain
done_given s before d opened step answer plain none gives = gives

map_given : (s : Setting) (before : History) (d dom : DomId) (gref : GrantRef) (flags : ℕ) (step : Option Step)
    (answer : Answer) → refusal_of answer ≡ None → GivesValue s before d (asks.Map dom gref flags) step answer
    → form_of_answer answer ≡ answer_forms.Done
map_given s before d dom gref flags step (answers.Denied denial) none gives = absurd (none-some denial (sym none))
map_given s before d dom gref flags step (answers.Mapped handle) none gives = refl
map_given s before d dom gref flags step answer none gives = absurd gives

-- a form of an answer of a load or a peek
abbrev IsOfBytes : AnswerForm → Type 0
IsOfBytes form = (b : Bool) × (form ≡ (if b then answer_forms.Done else answer_forms.Bytes))

load_given : (s : Setting) (before : History) (d : DomId) (handle : Handle) (off len : ℕ) (step : Option Step)
    (answer : Answer) → refusal_of answer ≡ None
    → GivesValue s before d (asks.Load handle off len) step answer → IsOfBytes (form_of_answer answer)
load_given s before d handle off len step (answers.Denied denial) none gives = absurd (none-some denial (sym none))
load_given s before d handle off len step (answers.Bytes b) none gives = (length b.bytes.items == 0, refl)
load_given s before d handle off len step answer none gives = absurd gives

peek_given : (s : Setting) (before : History) (d : DomId) (frame off len : ℕ) (step : Option Step)
    (answer : Answer) → refusal_of answer ≡ None
    → GivesValue s before d (asks.Peek frame off len) step answer → IsOfBytes (form_of_answer answer)
peek_given s before d frame off len step (answers.Denied denial) none gives = absurd (none-some denial (sym none))
peek_given s before d frame off len step (answers.Bytes b) none gives = (length b.bytes.items == 0, refl)
peek_given s before d frame off len step answer none gives = absurd gives

setup_given : (s : Setting) (before : History) (d : DomId) (frames : ℕ) (step : Option Step) (answer : Answer)
    → refusal_of answer ≡ None → GivesValue s before d (asks.SetupTable frames) step answer
    → form_of_answer answer ≡ answer_forms.Frames
setup_given s before d frames step (answers.Denied denial) none gives = absurd (none-some denial (sym none))
setup_given s before d frames None answer none gives = ap form_of_answer gives
setup_given s before d frames (Some (call_steps.StoreHeader version stored)) answer none gives = ap form_of_answer gives
setup_given s before d frames (Some step) answer none gives = absurd gives

size_given : (s : Setting) (before : History) (d dom : DomId) (step : Option Step) (answer : Answer)
    → refusal_of answer ≡ None → GivesValue s before d (asks.QuerySize dom) step answer
    → form_of_answer answer ≡ answer_forms.Size
size_given s before d dom step (answers.Denied denial) none gives = absurd (none-some denial (sym none))
size_given s before d dom None answer none gives = absurd gives
size_given s before d dom (Some (call_steps.LookHeader t)) answer none gives = ap form_of_answer gives
size_given s before d dom (Some step) answer none gives = absurd gives

version_given : (s : Setting) (before : History) (d dom : DomId) (step : Option Step) (answer : Answer)
    → refusal_of answer ≡ None → GivesValue s before d (asks.GetVersion dom) step answer
    → form_of_answer answer ≡ answer_forms.Version
version_given s before d dom step (answers.Denied denial) none gives = absurd (none-some denial (sym none))
version_given s before d dom None answer none gives = absurd gives
version_given s before d dom (Some (call_steps.LookHeader t)) answer none gives = ap form_of_answer gives
version_given s before d dom (Some step) answer none gives = absurd gives

-- ---- the forms of each call

-- what is a form of a kind of call is one of the same kind
of_kind : (one other : CallName) (form : AnswerForm) → Some one ≡ Some other → IsFormOfCall one form
    → IsFormOfCall other form
of_kind one other form same is = subst (λ (c : CallName). IsFormOfCall c form) (same_Some one other same) is

-- the answer is Done, and a call of this kind can answer so
plain_form : (one other : CallName) (answer : Answer) → Some one ≡ Some other → answer ≡ answers.Done
    → IsFormOfCall one answer_forms.Done → IsFormOfCall other (form_of_answer answer)
plain_form one other answer same done is =
    subst (λ (f : AnswerForm). IsFormOfCall other f) (sym (ap form_of_answer done))
    (of_kind one other answer_forms.Done same is)

value_form : (one other : CallName) (answer : Answer) (form : AnswerForm) → Some one ≡ Some other
    → form_of_answer answer ≡ form → IsFormOfCall one form → IsFormOfCall other (form_of_answer answer)
value_form one other answer form same has is =
    subst (λ (f : AnswerForm). IsFormOfCall other f) (sym has) (of_kind one other form same is)

bytes_form : (one other : CallName) (answer : Answer) → Some one ≡ Some other → IsOfBytes (form_of_answer answer)
    → IsFormOfCall one answer_forms.Done → IsFormOfCall one answer_forms.Bytes
    → IsFormOfCall other (form_of_answer answer)
bytes_form one other answer same has done bytes = by has.0 has.1
  where
    by : (b : Bool) → form_of_answer answer ≡ (if b then answer_forms.Done else answer_forms.Bytes)
        → IsFormOfCall other (form_of_answer answer)
    by true is = value_form one other answer answer_forms.Done same is done
    by false is = value_form one other answer answer_forms.Bytes same is bytes

ok_form : (s : Setting) (before : History) (d : DomId) (request : Request) (step : Option Step) (answer : Answer)
    (call : CallName) → kind_of_request request ≡ Some call → refusal_of answer ≡ None
    → GivesValue s before d (asked request) step answer → IsFormOfCall call (form_of_answer answer)
ok_form s before d (requests.Grant gref entry) step answer call is none gives =
    plain_form call_names.Grant call answer is
    (done_given s before d (asked (requests.Grant gref entry)) step answer tt none gives) (0, refl)
ok_form s before d (requests.GrantBytes gref bytes) step answer call is none gives =
    plain_form call_names.GrantBytes call answer is
    (done_given s before d (asked (requests.GrantBytes gref bytes)) step answer tt none gives) (0, refl)
ok_form s before d (requests.Revoke gref) step answer call is none gives =
    plain_form call_names.Revoke call answer is
    (done_given s before d (asked (requests.Revoke gref)) step answer tt none gives) (0, refl)
ok_form s before d (requests.Withdraw gref) step answer call is none gives =
    plain_form call_names.Withdraw call answer is
    (done_given s before d (asked (requests.Withdraw gref)) step answer tt none gives) (0, refl)
ok_form s before d (requests.Demote gref) step answer call is none gives =
    plain_form call_names.Demote call answer is
    (done_given s before d (asked (requests.Demote gref)) step answer tt none gives) (0, refl)
ok_form s before d (requests.Promote gref) step answer call is none gives =
    plain_form call_names.Promote call answer is
    (done_given s before d (asked (requests.Promote gref)) step answer tt none gives) (0, refl)
ok_form s before d (requests.Map dom gref flags) step answer call is none gives =
    value_form call_names.Map call answer answer_forms.Done is
    (map_given s before d dom gref flags step answer none gives) (0, refl)
ok_form s before d (requests.Unmap handle) step answer call is none gives =
    plain_form call_names.Unmap call answer is
    (done_given s before d (asked (requests.Unmap handle)) step answer tt none gives) (0, refl)
ok_form s before d (requests.Load handle off len) step answer call is none gives =
    bytes_form call_names.Load call answer is (load_given s before d handle off len step answer none gives) (0, refl)
    (1, refl)
ok_form s before d (requests.Store handle off bytes) step answer call is none gives =
    plain_form call_names.Store call answer is
    (done_given s before d (asked (requests.Store handle off bytes)) step answer tt none gives) (0, refl)
ok_form s before d (requests.Peek frame off len) step answer call is none gives =
    bytes_form call_names.Peek call answer is (peek_given s before d frame off len step answer none gives) (0, refl)
    (1, refl)
ok_form s before d (requests.Poke frame off bytes) step answer call is none gives =
    plain_form call_names.Poke call answer is
    (done_given s before d (asked (requests.Poke frame off bytes)) step answer tt none gives) (0, refl)
ok_form s before d (requests.Copy c) step answer call is none gives =
    plain_form call_names.Copy call answer is
    (done_given s before d (asked (requests.Copy c)) step answer tt none gives) (0, refl)
ok_form s before d (requests.SetVersion version) step answer call is none gives =
    plain_form call_names.SetVersion call answer is
    (done_given s before d (asked (requests.SetVersion version)) step answer tt none gives) (0, refl)
ok_form s before d (requests.SetupTable frames) step answer call is none gives =
    value_form call_names.SetupTable call answer answer_forms.Frames is
    (setup_given s before d frames step answer none gives) (0, refl)
ok_form s before d (requests.QuerySize dom) step answer call is none gives =
    value_form call_names.QuerySize call answer answer_forms.Size is
    (size_given s before d dom step answer none gives) (0, refl)
ok_form s before d (requests.GetVersion dom) step answer call is none gives =
    value_form call_names.GetVersion call answer answer_forms.Version is
    (version_given s before d dom step answer none gives) (0, refl)
ok_form s before d (requests.Release handle) step answer call is none gives = absurd (none-some call is)
ok_form s before d (requests.Probe c) step answer call is none gives = absurd (none-some call is)

-- ---- answers of items

-- an answer gives the value of its call
gives_of : (s : Setting) (before : History) (d : DomId) (opened : OpenRequest) (step : Option Step) (giving : Bool)
    (verdict : Option CallResult) (given : Option Answer) (against : Option Denial) (answer : Answer)
    → AnsweredBy s before d opened step giving verdict given against → given ≡ Some answer
    → GivesValue s before d opened step answer
gives_of s before d opened step giving verdict None against answer answered is = absurd (none-some answer is)
gives_of s before d opened step giving None (Some given) against answer answered is = absurd answered
gives_of s before d opened step giving (Some v) (Some given) against answer answered is =
    subst (λ (a : Answer). GivesValue s before d opened step a) (same_Some given answer is) answered.2

ok_of_step : (s : Setting) (before : History) (i : Item) (step : Step) (seen : Observation) (request : Request)
    (c : Option Underway) (call : CallName) (answer : Answer) → StepsRightIn s before i step seen c
    → IsRequestAt request c (Stepped step seen) → kind_of_request request ≡ Some call → i.answer ≡ Some answer
    → refusal_of answer ≡ None → IsFormOfCall call (form_of_answer answer)
ok_of_step s before i step seen request None call answer right within kind is none = absurd right
ok_of_step s before i step seen request (Some c) call answer right within kind is none =
    ok_form s before i.actor request (Some step) answer call kind none
    (subst (λ (q : OpenRequest). GivesValue s before i.actor q (Some step) answer) within
    (gives_of s before i.actor c.request (Some step) _ _ i.answer _ answer right.answered is))

ok_of_item : (s : Setting) (before : History) (actor : DomId) (happened : ItemEvent) (given : Option Answer)
    (request : Request) (call : CallName) (answer : Answer)
    → IsRight s before (record { actor = actor; happened = happened; answer = given })
    → IsRequestAt request (open_call before actor.0) happened → kind_of_request request ≡ Some call
    → given ≡ Some answer → refusal_of answer ≡ None → IsFormOfCall call (form_of_answer answer)
ok_of_item s before actor (Began begun_now) given request call answer right within kind is none =
    ok_form s before actor begun_now None answer call (ap kind_of_request within ∙ kind) none
    (gives_of s before actor _ None _ _ given _ answer right.1 is)
ok_of_item s before actor (Stepped step seen) given request call answer right within kind is none =
    ok_of_step s before (record { actor = actor; happened = Stepped step seen; answer = given }) step seen request
    (open_call before actor.0) call answer right within kind is none

-- each answer of a legal history has a form of its call
pub has_form_of_its_call : (s : Setting) (before : History) (i : Item) (request : Request) (call : CallName)
    (answer : Answer) → HasFormOfItsCall s before i request call answer
has_form_of_its_call s before i request call (answers.Denied denial) right within kind is =
    refused_by_its_rules s before i request call denial right within kind is
has_form_of_its_call s before i request call answers.Done right within kind is =
    ok_of_item s before i.actor i.happened i.answer request call answers.Done right within kind is refl
has_form_of_its_call s before i request call (answers.Mapped handle) right within kind is =
    ok_of_item s before i.actor i.happened i.answer request call (answers.Mapped handle) right within kind is refl
has_form_of_its_call s before i request call (answers.Bytes b) right within kind is =
    ok_of_item s before i.actor i.happened i.answer request call (answers.Bytes b) right within kind is refl
has_form_of_its_call s before i request call (answers.Frames frames) right within kind is =
    ok_of_item s before i.actor i.happened i.answer request call (answers.Frames frames) right within kind is refl
has_form_of_its_call s before i request call (answers.Size size) right within kind is =
    ok_of_item s before i.actor i.happened i.answer request call (answers.Size size) right within kind is refl
has_form_of_its_call s before i request call (answers.Version version) right within kind is =
    ok_of_item s before i.actor i.happened i.answer request call (answers.Version version) right within kind is refl
