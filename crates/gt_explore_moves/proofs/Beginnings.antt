-- A call that is open makes a step.
use Rattle.std.proofs.Common.{◌≡◌, None, sym, ◌∙◌, subst, arith}
use Rattle.gt_types.specs.declared.DomId.{DomId}
use Rattle.gt_model.specs.declared.header.Header.{Header}
use Rattle.gt_model.specs.declared.action.Action.{Action}
use Rattle.gt_model.specs.declared.action.Action.TheVariants.{Done}
use Rattle.gt_model.specs.declared.action.Action.TheVariants as actions
use Rattle.gt_model.specs.declared.action.Observation.TheVariants.{Nothing}
use Rattle.gt_model.specs.declared.action.Step.{Step}
use Rattle.gt_model.specs.declared.action.CallResult.{CallResult}
use Rattle.gt_calls.specs.declared.call.Call.{Call}
use Rattle.gt_calls.specs.declared.asking.Judged.TheVariants as judgements
use Rattle.gt_model.specs.declared.request.Request.{Request}
use Rattle.gt_model.specs.Asking.{SpellsItsEntry, asked, begun_of}
use Rattle.gt_calls.specs.Following.{Goes, IsLeftAlike, Starts}
use Rattle.gt_model.specs.Rules.{CallerKnowledge}
use Rattle.gt_calls.specs.Standing.{IsFreshCall}
use Rattle.gt_explore_moves.specs.Beginnings.{BeginsAlike, OpensAsRun}

-- a call with no step yet has the same left to do
pub left-same : (k l : CallerKnowledge) (dom : DomId) (request : Request) (first : Call) → Starts l dom request (judgements.Open first) → BeginsAlike k l dom request → IsLeftAlike k l first Nothing
left-same k l dom request first starts alike = grind arith

-- what it takes to start by the other knowledge
record Started (k : CallerKnowledge) (dom : DomId) (request : Request) (first : Call) : Type 0 where
  pub unanswered : begun_of k dom request ≡ None
  pub said : SpellsItsEntry k.header request
  pub caller : first.caller ≡ dom
  pub asks : first.request ≡ asked request
  pub fresh : IsFreshCall k first

started : (k l : CallerKnowledge) (dom : DomId) (request : Request) (first : Call) → Starts l dom request (judgements.Open first) → BeginsAlike k l dom request → Started k dom request first
started k l dom request first starts alike = record {
  unanswered = alike.begins ∙ starts.0;
  said = subst (λ (h : Header). SpellsItsEntry h request) (sym alike.header) starts.1;
  caller = starts.2;
  asks = starts.3;
  fresh = grind arith;
}

by-start : (k : CallerKnowledge) (dom : DomId) (request : Request) (first new : Call) (step : Step) → Started k dom request first → Goes k first Nothing new (actions.Step step) → new.caller ≡ first.caller → new.request ≡ first.request → OpensAsRun k dom request new step
by-start k dom request first new step s goes by asked_as = grind arith

pub opened : (k l : CallerKnowledge) (dom : DomId) (request : Request) (first new : Call) (action : Action) (step : Step) → Starts l dom request (judgements.Open first) → BeginsAlike k l dom request → Goes k first Nothing new action → action ≡ actions.Step step
    → new.caller ≡ first.caller → new.request ≡ first.request → OpensAsRun k dom request new step
opened k l dom request first new action step starts alike goes is by asked_as =
    by-start k dom request first new step (started k l dom request first starts alike) (subst (λ (z : Action). Goes k first Nothing new z) is goes) by asked_as

pub not-done : (k : CallerKnowledge) (dom : DomId) (request : Request) (first new : Call) (action : Action) (v : CallResult) → Starts k dom request (judgements.Open first) → Goes k first Nothing new action → action ≡ Done v → ⊥
not-done k dom request first new action v starts goes is = grind arith
