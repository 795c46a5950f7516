-- Moments of a script's run, and those at which a claim holds of what entries show.
use Rattle.std.specs.Prelude.{◌≡◌, ◌++◌, ℕ, Bool, true, false, List, [], ◌∷◌, Some, slice_get}
use Rattle.std.specs.Option.{option_map}
use Rattle.gt_core.specs.Shown.{shown_at}
use Rattle.gt_explore_replay.specs.Abreast.{history_in}
use Rattle.gt_explore_replay.specs.Orders.{Happening, IsOrderOf, doer}
use Rattle.gt_explore_search.specs.declared.spaces.Turn.{Turn}
use Rattle.gt_script.specs.RunContents.{RunContents}
use Rattle.gt_script_runs.specs.Playing.{setting_of_script}
use Rattle.gt_state_claims.specs.Claims.{ClaimAsked, claim_holds}
use Rattle.gt_explore_states.specs.declared.searching.StateFinding.{StateFinding}
use Rattle.gt_explore_states.specs.declared.searching.StateFinding.TheVariants.{Found, Nowhere, Undecided}

-- whether the claim holds of what entries show when this has happened
abbrev pub holds_after : RunContents → ClaimAsked → List Happening → Bool
holds_after c asked hs = claim_holds asked (shown_at (setting_of_script c.head) (history_in hs))

-- there is a moment at which this has happened: an order of the script's run begins with it
abbrev pub IsMoment : RunContents → List Happening → Type 0
IsMoment c hs = (after : List Happening) × (text : List ℕ) × IsOrderOf c (hs ++ after) text

-- the claim holds at no moment of any order
abbrev pub HoldsNowhere : RunContents → ClaimAsked → Type 0
HoldsNowhere c asked = (hs : List Happening) → IsMoment c hs → holds_after c asked hs ≡ false

-- each of the turns is of the domain that does the happening in its place, and there are as many of both
abbrev pub AreTurnsOf : RunContents → List Turn → List Happening → Type 0
AreTurnsOf c [] [] = Unit {0}
AreTurnsOf c (t ∷ ts) (x ∷ hs) =
    (option_map (λ d. d.id) (slice_get c.head.domains t.place) ≡ Some (doer x)) × AreTurnsOf c ts hs
AreTurnsOf c [] (x ∷ hs) = ⊥
AreTurnsOf c (t ∷ ts) [] = ⊥

-- by these turns the run reaches a moment at which the claim holds
pub record LeadsToMoment (c : RunContents) (asked : ClaimAsked) (turns : List Turn) : Type 0 where
  pub happened : List Happening
  pub moment : IsMoment c happened
  pub turned : AreTurnsOf c turns happened
  pub holds : holds_after c asked happened ≡ true

-- what a search found
abbrev pub IsFinding : RunContents → ClaimAsked → StateFinding → Type 0
IsFinding c asked (Found turns) = LeadsToMoment c asked turns.items
IsFinding c asked Nowhere = HoldsNowhere c asked
IsFinding c asked Undecided = Unit {0}
