-- The requests and steps of a domain, under other handles.
use Rattle.std.specs.Prelude.{◌≡◌, ◌<◌, Option}
use Rattle.gt_model.specs.declared.handle.Handle.{Handle}
use Rattle.gt_model.specs.declared.held.HeldPin.{HeldPin}
use Rattle.gt_model.specs.declared.request.OpenRequest.{OpenRequest}
use Rattle.gt_model.specs.declared.request.OpenRequest.TheVariants.{Unmap, Release, Load, Store}
use Rattle.gt_model.specs.declared.request.PinHolder.TheVariants as holders
use Rattle.gt_model.specs.declared.action.Step.{Step}
use Rattle.gt_model.specs.declared.action.Step.TheVariants.{Unpin}
use Rattle.gt_model.specs.declared.action.Action.{Action}
use Rattle.gt_model.specs.declared.action.Action.TheVariants.{Done}
use Rattle.gt_model.specs.declared.action.Action.TheVariants as actions
use Rattle.gt_model.specs.declared.bounds.TheConstants.{SERIAL_LIMIT}
use Rattle.gt_model.specs.Rules.{CallerKnowledge}

-- the request, with this handle instead of its own
abbrev pub asked_under : Handle → OpenRequest → OpenRequest
asked_under b (Unmap a) = Unmap b
asked_under b (Release a) = Release b
asked_under b (Load a off len) = Load b off len
asked_under b (Store a off len) = Store b off len
asked_under b request = request

-- a step, with this handle instead of that of the mapping that it drops
abbrev pub step_under : Handle → Step → Step
step_under b (Unpin p (holders.Mapping a)) = Unpin p (holders.Mapping b)
step_under b step = step

abbrev pub action_under : Handle → Action → Action
action_under b (actions.Step step) = actions.Step (step_under b step)
action_under b (Done verdict) = Done verdict

-- this handle finds for the one caller what the handle of its request finds for the other
abbrev pub FindsSame : (Handle → Option HeldPin) → Handle → (Handle → Option HeldPin) → OpenRequest → Type 0
FindsSame found b mapping (Unmap a) = found b ≡ mapping a
FindsSame found b mapping (Release a) = found b ≡ mapping a
FindsSame found b mapping (Load a off len) = found b ≡ mapping a
FindsSame found b mapping (Store a off len) = found b ≡ mapping a
FindsSame found b mapping request = Unit {0}

-- two callers know the same, except for the names of their mappings and the number of maps they were answered
pub record KnowAlike (k l : CallerKnowledge) : Type 0 where
  pub domains : l.domains ≡ k.domains
  pub may : l.may ≡ k.may
  pub entry : l.entry ≡ k.entry
  pub generation : l.generation ≡ k.generation
  pub header : l.header ≡ k.header
  pub in_use : l.in_use ≡ k.in_use
  pub below : k.maps_answered < SERIAL_LIMIT
  pub also_below : l.maps_answered < SERIAL_LIMIT
