-- The start of a call, by what its domain knows.
use Rattle.std.specs.Prelude.{◌≡◌, [], Some, None}
use Rattle.gt_types.specs.declared.DomId.{DomId}
use Rattle.gt_model.specs.declared.action.Action.TheVariants as actions
use Rattle.gt_model.specs.declared.action.Step.{Step}
use Rattle.gt_calls.specs.declared.call.Call.{Call}
use Rattle.gt_model.specs.declared.request.Request.{Request}
use Rattle.gt_model.specs.Asking.{asked, begun_of, SpellsItsEntry}
use Rattle.gt_model.specs.Path.{path}
use Rattle.gt_calls.specs.Machine.{first_phase}
use Rattle.gt_model.specs.Rules.{CallerKnowledge, begun}
use Rattle.gt_calls.specs.Standing.{IsAt}
use Rattle.gt_explore_moves.specs.declared.calls.CallOpening.{CallOpening}
use Rattle.gt_explore_moves.specs.declared.calls.CallOpening.TheVariants.{Open, Done}

-- a call begins the same by either knowledge
pub record BeginsAlike (one other : CallerKnowledge) (dom : DomId) (request : Request) : Type 0 where
  pub header : one.header ≡ other.header
  pub begins : begun_of one dom request ≡ begun_of other dom request
  pub judged : begun one dom (asked request) ≡ begun other dom (asked request)
  pub first : first_phase one dom (asked request) ≡ first_phase other dom (asked request)

-- the call is open: it is not answered at its beginning, and this is its first step
pub record OpensAsRun (k : CallerKnowledge) (dom : DomId) (request : Request) (call : Call) (step : Step) : Type 0 where
  pub unanswered : begun_of k dom request ≡ None
  pub said : SpellsItsEntry k.header request
  pub caller : call.caller ≡ dom
  pub asks : call.request ≡ asked request
  pub at : IsAt k call []
  pub follows : path k dom (asked request) [] ≡ Some (actions.Step step)

-- the start of a call: it is open, or over by the first rule that applies at its beginning
abbrev pub OpensSo : CallerKnowledge → DomId → Request → CallOpening → Type 0
OpensSo k dom request (Open call step) = OpensAsRun k dom request call step
OpensSo k dom request (Done verdict) = begun_of k dom request ≡ Some verdict
