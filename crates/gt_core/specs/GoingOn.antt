-- Every history that a core represents can continue: how a run may begin, and what each of its domains may do next.
use Rattle.std.specs.Prelude.{◌≡◌, ◌≢◌, ◌+◌, Bool, [], ◌∷◌, Option, Some, None, slice_range}
use Rattle.gt_core.specs.Prelude.{IsWithinLimits, domain_of, DomId, TypeId, Config, Perms, HandleMap, Handle, FitsAsked}
use Rattle.gt_core.specs.Prelude.{SpellsItsEntry, asked, begun_of, path, Action, Step, CallResult, Nothing, Granted}
use Rattle.gt_core.specs.Prelude.{HeldPin, Request, Answer, Mapped, Began, Stepped, Item}
use Rattle.gt_model.specs.declared.action.Action.TheVariants as actions
use Rattle.gt_model.specs.declared.trace.Answer.TheVariants as answers
use Rattle.gt_model.specs.declared.action.Step.TheVariants as call_steps
use Rattle.gt_model.specs.declared.action.CallResult.TheVariants as results
use Rattle.gt_core.specs.Effects.{Adds}
use Rattle.gt_model.specs.History.{History, Setting, Underway, contents_at, known_at, mappings_at, maps_answered_at}
use Rattle.gt_model.specs.History.{open_call, seen_by, table_at, values, setting_of}
use Rattle.gt_model.specs.Legal.{IsRight, next_in}
use Rattle.gt_core.specs.Standing.{CoreStands, MappingsAgree}
use Rattle.gt_core.specs.Acting.{answer_of}
use Rattle.gt_core.specs.States.{CoreState}
use Rattle.gt_model.specs.declared.trace.Bytes.{Bytes}
pub use Rattle.gt_calls.specs.Standing.{IsAccess}

-- a core represents the history, which is a legal one
abbrev pub CanBeReached : Setting → History → Type 0
CanBeReached s h = (core : CoreState) × CoreStands s h core

-- a beginning of a call, with its answer if that ends it
abbrev pub beginning : DomId → Request → Option Answer → Item
beginning d request answer = record { actor = d; happened = Began request; answer = answer }

-- a step of a call, which sees what the items before it left, with the call's answer if the step ends it
abbrev pub step_after : Setting → History → DomId → Step → Option Answer → Item
step_after s h d step answer = record { actor = d; happened = Stepped step (seen_by s h d step); answer = answer }

-- the answer at a beginning: that of its result, if there is one
abbrev pub begin_answer : Option CallResult → Option Answer
begin_answer None = None
begin_answer (Some verdict) = Some (answer_of verdict)

-- the step is on words, and reads and writes no bytes
abbrev pub AccessesNoBytes : Step → Type 0
AccessesNoBytes (call_steps.Read dom frame off len) = ⊥
AccessesNoBytes (call_steps.Write dom frame off len) = ⊥
AccessesNoBytes (call_steps.Copy from to len) = ⊥
AccessesNoBytes step = Unit {0}

-- the domain's next mapping may get this handle: some table of handles for its mappings gives it next
pub record MayBeGiven (h : History) (d : DomId) (handle : Handle) (held : HeldPin) : Type 0 where
  pub old : HandleMap HeldPin
  pub new : HandleMap HeldPin
  pub agrees : MappingsAgree old (mappings_at h d.0) (maps_answered_at h d.0)
  pub adds : Adds old new handle held

-- the answer of a call whose next action is this, after its step: none if it continues; such a handle if it keeps its
-- pin; and otherwise that of its result
abbrev pub AnsweredSo : History → DomId → Action → Option Answer → Type 0
AnsweredSo h d (actions.Step next) answer = answer ≡ None
AnsweredSo h d (actions.Done (results.Mapped held)) answer =
    (handle : Handle) × (answer ≡ Some (Mapped handle)) × MayBeGiven h d handle held
AnsweredSo h d (actions.Done verdict) answer = answer ≡ Some (answer_of verdict)

-- in each configuration within the limits, a core represents the empty history
abbrev pub RunsStart : Type 0
RunsStart = (config : Config) (may : TypeId → TypeId → Perms → Bool) → IsWithinLimits config
    → CanBeReached (setting_of config may) []

-- a domain of the run with no open call can begin each call: that is right, and a core represents the result
abbrev pub CallsCanBegin : Type 0
CallsCanBegin =
    (s : Setting) (h : History) (d : DomId) (request : Request) → CanBeReached s h → domain_of s.domains d ≢ None
    → open_call h d.0 ≡ None → FitsAsked (asked request) → SpellsItsEntry (table_at s h d) request
    → let i = beginning d request (begin_answer (begun_of (known_at s h d) d request)) in
    IsRight s h i × CanBeReached s (i ∷ h)

-- each open call can make its next step on words and continue as its path gives: that is right, and a core represents
-- the result
abbrev pub OpenCallsCanGoOn : Type 0
OpenCallsCanGoOn =
    (s : Setting) (h : History) (d : DomId) (c : Underway) (step : Step) (action : Action) (answer : Option Answer)
    → CanBeReached s h → domain_of s.domains d ≢ None → open_call h d.0 ≡ Some c
    → path (known_at s h d) d c.request (values c) ≡ Some (actions.Step step) → AccessesNoBytes step
    → next_in s h d c (seen_by s h d step) ≡ Some action → AnsweredSo h d action answer
    → let i = step_after s h d step answer in IsRight s h i × CanBeReached s (i ∷ h)

-- the answer of a call that ends with its access: the bytes that the range held, if it is a read
abbrev pub AnswersAccess : History → Step → Answer → Type 0
AnswersAccess h (call_steps.Read dom frame off len) answer =
    (b : Bytes) × (answer ≡ answers.Bytes b)
    × (b.bytes.items ≡ slice_range (contents_at h dom.0 frame) off (off + len))
AnswersAccess h step answer = answer ≡ answers.Done

-- the answer of a call whose next action is this, after its access: none if it continues, and otherwise that of the
-- access
abbrev pub AccessAnsweredSo : History → Step → Action → Option Answer → Type 0
AccessAnsweredSo h step (actions.Step next) answer = answer ≡ None
AccessAnsweredSo h step (actions.Done Granted) answer = (z : Answer) × (answer ≡ Some z) × AnswersAccess h step z
AccessAnsweredSo h step (actions.Done verdict) answer = ⊥

-- each open call whose next step is an access can make it and continue as its path gives: that is right, and a core
-- represents the result
abbrev pub OpenCallsCanAccess : Type 0
OpenCallsCanAccess =
    (s : Setting) (h : History) (d : DomId) (c : Underway) (step : Step) (action : Action) (answer : Option Answer)
    → CanBeReached s h → domain_of s.domains d ≢ None → open_call h d.0 ≡ Some c
    → path (known_at s h d) d c.request (values c) ≡ Some (actions.Step step) → IsAccess step
    → next_in s h d c Nothing ≡ Some action → AccessAnsweredSo h step action answer
    → let i = step_after s h d step answer in IsRight s h i × CanBeReached s (i ∷ h)
