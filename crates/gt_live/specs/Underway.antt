-- A copy under way: the pins that it holds, and where it stops. The code's own representation. It is in specs/ because
-- contracts cite it.
use Rattle.std.specs.Prelude.{◌≡◌, ℕ, ◌<◌, List, [], ◌∷◌, ◌++◌, Some}
use Rattle.gt_live.specs.Prelude.{Denial, TABLE_ENTRIES, HasDomain, Layout, Moment, View, Action, Spot, Nothing}
use Rattle.gt_live.specs.Prelude.{CallResult, Granted, Refused, Call, Phase, Accessing, Ending, Walking, Source, Dest}
use Rattle.gt_live.specs.Prelude.{HeldPin, CallPins, CopyArgs, Copy, GoesOnWith, last_first, action_at, give_back, path}
use Rattle.gt_live.specs.Prelude.{Rests, RestsOnWays, CallerKnowledge, IsAt, held_by_call, held_in, pins_by_call}
use Rattle.gt_model.specs.declared.action.Step.TheVariants as call_steps
use Rattle.gt_model.specs.declared.action.Action.TheVariants as actions
use Rattle.gt_live.specs.Accesses.{ComesTo, onward}
use Rattle.gt_live.specs.Driving.{IsSame}
pub use Rattle.gt_live.specs.Taken.{HasTaken, is_of_entry, live_pins_by}
use Rattle.gt_live.specs.Walks.{Called, CarriesFound, IsWalk, view_after, all_shown}

-- each of these pins is of an entry of the run
abbrev pub AreOfRun : Layout → List HeldPin → Type 0
AreOfRun k [] = Unit {0}
AreOfRun k (p ∷ ps) = (HasDomain k p.dom × (p.gref.0 < TABLE_ENTRIES)) × AreOfRun k ps

-- the phase of a copy under way: on a leg to one of its ends, at its access, or at the end after a refusal, whose word
-- its steps found
abbrev pub StandsInCopy : Layout → View → List Moment → Phase → Type 0
StandsInCopy k v steps (Walking (Source c via) l at) = Unit {0}
StandsInCopy k v steps (Walking (Dest c source via) l at) = Unit {0}
StandsInCopy k v steps (Accessing c source dest) = Unit {0}
StandsInCopy k v steps (Ending live_pins (Refused denial)) = CarriesFound k v steps denial.facts
StandsInCopy k v steps phase = ⊥

-- the same, and its seat has exactly the pins of that phase, and those that it had before
pub record StandsWell (k : Layout) (v w : View) (steps : List Moment) (phase : Phase) : Type 0 where
  pub stays : StandsInCopy k v steps phase
  pub taken : HasTaken k (held_in phase) v w
  pub of_run : AreOfRun k (held_in phase)

-- a copy under way: it added the steps of its path to its seat's view, and the action comes next
pub record IsUnderway (c : CallerKnowledge) (k : Layout) (v w : View) (call : Call) (action : Action) : Type 0 where
  pub steps : List Moment
  pub view : w ≡ view_after steps v
  pub walked : IsWalk k (path c call.caller call.request) v steps
  pub at : IsAt c call (all_shown steps)
  pub goes : GoesOnWith c call.caller call.request (all_shown steps) action
  pub rests : Rests c call.caller call.request (pins_by_call call) (all_shown steps) action
  pub copy : CopyArgs
  pub of_copy : call.request ≡ Copy copy
  pub phase : Phase
  pub there : call.phase ≡ Some phase
  pub acts : action ≡ action_at call.caller phase
  pub stands : StandsWell k v w steps phase

-- a copy reached its access: it holds the pins of the access paths to its ends, which justify the access, and the rest of its
-- path releases them
pub record AtAccess (c : CallerKnowledge) (k : Layout) (call : Call) (from to : Spot) (len : ℕ)
    (v w : View) : Type 0 where
  pub comes : ComesTo k (path c call.caller call.request) (call_steps.Copy from to len) v w
  pub copy : CopyArgs
  pub there : call.phase ≡ Some (Accessing copy (pins_by_call call).source (pins_by_call call).dest)
  pub rests : RestsOnWays c call.caller call.request (pins_by_call call) from to len
  pub taken : HasTaken k (held_by_call call) v w
  pub of_run : AreOfRun k (held_by_call call)
  pub ends : onward (path c call.caller call.request) (all_shown comes.steps ++ Nothing ∷ [])
      ≡ give_back (held_by_call call) Granted

-- a copy ended without its access: it was refused, and its seat has the same pins and records as before
pub record EndsRefused (c : CallerKnowledge) (k : Layout) (call : Call) (verdict : CallResult) (v w : View) : Type 0 where
  pub denial : Denial
  pub refused : verdict ≡ Refused denial
  pub called : Called k (path c call.caller call.request) verdict v w
  pub same : IsSame v w

-- the pins that a copy held at its access were released, one after another, and nothing else was done
pub record GivesBack (k : Layout) (access_paths : CallPins) (v w : View) : Type 0 where
  pub steps : List Moment
  pub view : w ≡ view_after steps v
  pub walked : IsWalk k (give_back (last_first access_paths) Granted) v steps
  pub ended : give_back (last_first access_paths) Granted (all_shown steps) ≡ Some (actions.Done Granted)
  pub back : (base : View) → HasTaken k (last_first access_paths) base v → HasTaken k [] base w
