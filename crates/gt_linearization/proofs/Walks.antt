-- A walk on the words is a walk of a call.
use Rattle.std.proofs.Common.{ℕ, List, [], ◌∷◌, Option, Some, None, inl}
use Rattle.gt_word_history.specs.History.{Moment}
use Rattle.gt_word_history.specs.Rule.{Layout}
use Rattle.gt_word_history.specs.declared.view.View.{View}
use Rattle.gt_model.specs.Path.{Continuation}
use Rattle.gt_model.specs.declared.action.Action.{Action}
use Rattle.gt_model.specs.declared.action.Action.TheVariants.{Done}
use Rattle.gt_model.specs.declared.action.Action.TheVariants as actions
use Rattle.gt_model.specs.declared.action.Observation.{Observation}
use Rattle.gt_live.specs.Walks.{IsWalk, MakesStep, all_shown, shown_by, view_after}
use Rattle.gt_linearization.specs.Runs.{IsCallWalk, MakesTurn}

pub as-turn : (k : Layout) (given : List ℕ) (o : Option Action) (seen : Observation) (v w : View) → MakesStep k o seen v w → MakesTurn k given o seen v w
as-turn k given (Some (actions.Step z)) seen v w m = inl m
as-turn k given (Some (Done r)) seen v w m = absurd m
as-turn k given None seen v w m = absurd m

pub as-walk : (k : Layout) (given : List ℕ) (way : Continuation) (v : View) (xs : List Moment) → IsWalk k way v xs → IsCallWalk k given way v xs
as-walk k given way v [] walk = tt
as-walk k given way v (x ∷ xs) walk = (as-turn k given (way (all_shown xs)) (shown_by x) (view_after xs v) (view_after (x ∷ xs) v) walk.0, as-walk k given way v xs walk.1)
