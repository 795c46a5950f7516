-- A call whose steps are written out: each step leads to the phase that follows it.
use Rattle.std.proofs.Common.{◌≡◌, ◌∙◌, refl, sym, subst, Option, None, Some}
use Rattle.gt_types.specs.declared.DomId.{DomId}
use Rattle.gt_word_history.specs.Rule.{Layout}
use Rattle.gt_word_history.specs.declared.view.View.{View}
use Rattle.gt_calls.specs.Following.{Goes, GoesByPhase, IsStepAction as BeginsSo}
use Rattle.gt_calls.specs.Machine.{action_at, ended_as, first_phase, phase_after, settled}
use Rattle.gt_model.specs.Rules.{CallerKnowledge, begun}
use Rattle.gt_calls.specs.Standing.{IsFreshCall}
use Rattle.gt_model.specs.declared.action.Action.{Action}
use Rattle.gt_model.specs.declared.action.Action.TheVariants.{Done}
use Rattle.gt_model.specs.declared.action.Action.TheVariants as actions
use Rattle.gt_model.specs.declared.action.Observation.{Observation}
use Rattle.gt_model.specs.declared.action.Observation.TheVariants as observations
use Rattle.gt_model.specs.declared.action.Step.{Step}
use Rattle.gt_model.specs.declared.action.CallResult.{CallResult}
use Rattle.gt_calls.specs.declared.call.Call.{Call}
use Rattle.gt_calls.specs.declared.call.Phase.{Phase}
use Rattle.gt_model.specs.declared.request.OpenRequest.{OpenRequest}
use Rattle.gt_model.specs.declared.request.OpenRequest.TheVariants.{Probe}
use Rattle.gt_live.specs.declared.driving.Effect.{Effect}
use Rattle.gt_live.specs.declared.driving.Effect.TheVariants.{Nothing}
use Rattle.gt_live.specs.Driving.{CanMake, Going, Knows}
use Rattle.gt_live.specs.Effects.{effect_of}
use Rattle.gt_live.specs.Ending.{WaitsForNobody}
use Rattle.gt_live.specs.Walks.{Made}
use Rattle.gt_live.proofs.Advancing.{Ended, advance, begins, ends, makes-next}

-- each call goes on by its phase
abbrev pub PhaseLaw : CallerKnowledge → Type 0
PhaseLaw c = (call : Call) (seen : Observation) → GoesByPhase c call seen

-- an open call in this phase
abbrev pub call_in : DomId → OpenRequest → Phase → Call
call_in caller request phase = record { caller = caller; request = request; phase = Some phase }

-- the same before its first step
abbrev pub fresh_call : DomId → OpenRequest → Call
fresh_call caller request = record { caller = caller; request = request; phase = None }

-- no call of a domain is a probe
unsettled : (request : OpenRequest) (p : Phase) → WaitsForNobody request → settled request p ≡ p
unsettled (Probe c) p waits = absurd waits
unsettled request p waits = refl

-- a call that goes on has only looked, whatever its last step was
looked-on : (c : CallerKnowledge) (k : Layout) (effect : Effect) (v w : View) (call : Call) (s : Step)
    → Going c k effect v w call (actions.Step s) → Going c k Nothing v w call (actions.Step s)
looked-on c k effect v w call s g = record {
  steps = g.steps;
  view = g.view;
  walked = g.walked;
  at = g.at;
  goes = g.goes;
  rests = g.rests;
  held = g.held;
  unanswered = g.unanswered;
  stands = g.stands;
  carried = g.carried;
}

module _ (c : CallerKnowledge) (law : PhaseLaw c) (k : Layout) (v : View) (caller : DomId) (request : OpenRequest) where
  -- the call is in this phase, whose step is this, and has only looked
  abbrev pub IsIn : Phase → Step → View → Type 0
  IsIn phase s w = Going c k Nothing v w (call_in caller request phase) (actions.Step s)

  first-goes : (phase : Phase) (action : Action) → first_phase c caller request ≡ phase → action_at caller phase ≡ action
      → Goes c (fresh_call caller request) observations.Nothing (call_in caller request phase) action
  first-goes phase action is acts =
      subst (λ (a : Action). Goes c (fresh_call caller request) observations.Nothing (call_in caller request phase) a) acts
      (subst (λ (p : Phase). Goes c (fresh_call caller request) observations.Nothing (call_in caller request p) (action_at caller p)) is
      (law (fresh_call caller request) observations.Nothing))

  next-goes : WaitsForNobody request → (phase : Phase) (x : Observation) (next : Phase) (action : Action) → phase_after c caller phase x ≡ next
      → action_at caller next ≡ action → Goes c (call_in caller request phase) x (call_in caller request next) action
  next-goes waits phase x next action is acts =
      subst (λ (a : Action). Goes c (call_in caller request phase) x (call_in caller request next) a) acts
      (subst (λ (p : Phase). Goes c (call_in caller request phase) x (call_in caller request p) (action_at caller p))
      (unsettled request (phase_after c caller phase x) waits ∙ is) (law (call_in caller request phase) x))

  -- a call that no rule answered at its beginning, before its first step
  pub starts : (phase : Phase) (s : Step) → begun c caller request ≡ None → first_phase c caller request ≡ phase
      → action_at caller phase ≡ actions.Step s → IsIn phase s v
  starts phase s none is acts =
      let goes = first-goes phase (actions.Step s) is acts in
      let fresh : IsFreshCall c (fresh_call caller request) = record { unmoved = refl; unanswered = none } in
      begins c k v (fresh_call caller request) (call_in caller request phase) (actions.Step s) fresh
      (subst (λ (o : Option Action). BeginsSo o) (sym (goes.first fresh).0.follows) tt) refl refl goes

  -- a step further
  pub further : (phase : Phase) (s : Step) (x : Observation) (next : Phase) (n : Step) (u w : View) → Knows c k caller v
      → WaitsForNobody request → IsIn phase s u → Made k s x u w → phase_after c caller phase x ≡ next
      → action_at caller next ≡ actions.Step n → IsIn next n w
  further phase s x next n u w knows waits g made is acts =
      looked-on c k (effect_of s x) v w (call_in caller request next) n
      (advance c k Nothing v u w (call_in caller request phase) (call_in caller request next) (actions.Step n) s x knows waits g
      made refl refl (next-goes waits phase x next (actions.Step n) is acts)).0

  -- its last step
  pub over : (phase : Phase) (s : Step) (x : Observation) (verdict : CallResult) (u w : View) → Knows c k caller v
      → WaitsForNobody request → IsIn phase s u → Made k s x u w → phase_after c caller phase x ≡ ended_as verdict
      → Ended c k caller request (effect_of s x) verdict v w
  over phase s x verdict u w knows waits g made is =
      ends c k (effect_of s x) v w (call_in caller request (ended_as verdict)) verdict caller request waits
      (advance c k Nothing v u w (call_in caller request phase) (call_in caller request (ended_as verdict)) (Done verdict)
      s x knows waits g made refl refl (next-goes waits phase x (ended_as verdict) (Done verdict) is refl)).0 refl refl

  -- a call of one step
  pub can-only : (phase : Phase) (s : Step) → Knows c k caller v → WaitsForNobody request → begun c caller request ≡ None
      → first_phase c caller request ≡ phase → action_at caller phase ≡ actions.Step s → CanMake k v s
  can-only phase s knows waits none is acts =
      makes-next c k Nothing v v (call_in caller request phase) s knows waits (starts phase s none is acts)

  pub only : (phase : Phase) (s : Step) (x : Observation) (verdict : CallResult) (w : View) → Knows c k caller v
      → WaitsForNobody request → begun c caller request ≡ None → first_phase c caller request ≡ phase
      → action_at caller phase ≡ actions.Step s → Made k s x v w → phase_after c caller phase x ≡ ended_as verdict
      → Ended c k caller request (effect_of s x) verdict v w
  only phase s x verdict w knows waits none is acts made after =
      over phase s x verdict v w knows waits (starts phase s none is acts) made after
