-- What a move leaves of tables.
use Rattle.std.specs.Prelude.{◌≡◌, ℕ, true, List, Some, slice_get}
use Rattle.std.specs.Option.{option_map}
use Rattle.gt_core.specs.GoingOn.{CanBeReached}
use Rattle.gt_explore_replay.specs.Abreast.{history_in}
use Rattle.gt_explore_replay.specs.Orders.{Happening, did, raised, passed, doer}
use Rattle.gt_explore_replay.specs.Walking.{HasWalked, IsShownBy}
use Rattle.gt_explore_replay.specs.declared.replay.Moved.{Moved}
use Rattle.gt_explore_replay.specs.declared.replay.Replay.{Replay}
use Rattle.gt_explore_search.specs.declared.spaces.Turn.{Turn}
use Rattle.gt_model.specs.History.{History, Setting}
use Rattle.gt_model.specs.Legal.{MayDo}
use Rattle.gt_script.specs.RunContents.{RunContents}
use Rattle.gt_state_claims.specs.Claims.{ClaimAsked}
use Rattle.gt_explore_states.specs.Moments.{AreTurnsOf, holds_after}

-- the core may do what happens after this history
abbrev pub MayHappen : Setting → History → Happening → Type 0
MayHappen s h (did e x) = MayDo s h e x
MayHappen s h (raised d flag) = Unit {0}
MayHappen s h (passed d flag) = Unit {0}

-- after these happenings this one comes next in a run of the core, by the domain at this position, as the move shows
pub record ComesNext (s : Setting) (hs : List Happening) (place : ℕ) (moved : Moved) (x : Happening) : Type 0 where
  pub reached : CanBeReached s (history_in hs)
  pub right : MayHappen s (history_in hs) x
  pub shown : IsShownBy moved x
  pub own_move : option_map (λ d. d.id) (slice_get s.domains place) ≡ Some (doer x)

-- by these turns the run has come to a moment at which the claim holds
pub record IsAtMoment (c : RunContents) (asked : ClaimAsked) (turns : List Turn) (run : Replay) : Type 0 where
  pub happened : List Happening
  pub walked : HasWalked c happened run
  pub turned : AreTurnsOf c turns happened
  pub holds : holds_after c asked happened ≡ true
