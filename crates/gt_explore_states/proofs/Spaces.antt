-- The moves and turns of the runs up to a moment are those of the script.
use Rattle.std.proofs.Common.{◌≡◌, ℕ, true, List, refl, sym, ◌∙◌}
use Rattle.std.proofs.lemmas.Bool.{false≢true}
use Rattle.gt_explore_moves.specs.Spaces.{Point, scene_ways}
use Rattle.gt_explore_moves.specs.declared.scene.SearchContext.{SearchContext}
use Rattle.gt_explore_moves.specs.declared.scene.SearchState.{SearchState}
use Rattle.gt_explore_search.proofs.Finding.{each_enough}
use Rattle.gt_explore_search.specs.Ways.{HasEachTurn, HasEnoughTurns, LedFits, MovesTo}
use Rattle.gt_explore_search.specs.declared.spaces.Turn.{Turn}
use Rattle.gt_explore_search.specs.declared.spaces.TurnResult.{TurnResult}
use Rattle.gt_explore_search.specs.declared.spaces.TurnResult.TheVariants.{Answered, Nowhere, On}
use Rattle.gt_state_claims.specs.Claims.{ClaimAsked}
use Rattle.gt_explore_states.specs.Moments.{holds_after}
use Rattle.gt_explore_states.specs.Spaces.{moment_ways, unprinted}

module _ (scene : SearchContext) (asked : ClaimAsked) where
  fits : (led : TurnResult) (place : ℕ) (p q : Point) → LedFits (scene_ways scene) led place p q → LedFits (moment_ways scene asked) (unprinted led) place p q
  fits Nowhere place p q led = led
  fits On place p q led = λ at. refl
  fits (Answered line) place p q led = λ at. refl

  -- a move
  pub moves-unprinted : (old : SearchState) (turn : Turn) (led : TurnResult) (new : SearchState) → MovesTo (scene_ways scene) old turn led new → MovesTo (moment_ways scene asked) old turn (unprinted led) new
  moves-unprinted old turn led new moves p q shows next =
      let made = moves p q shows next.1 in (fits led turn.place p q made.0, made.1)

  -- a run that goes on is not at a moment
  pub none-enough : (w : SearchState) (turns : List Turn) → ((p : Point) → (scene_ways scene).shows w p → true ≡ holds_after p.script asked p.happened) → HasEnoughTurns (moment_ways scene asked) w turns
  none-enough w turns holds p turn m more q shows next goes = absurd (false≢true (sym next.0 ∙ sym (holds p shows)))

  -- all turns of the script are enough
  pub all-enough : (w : SearchState) (turns : List Turn) → HasEachTurn (scene_ways scene) w turns → HasEnoughTurns (moment_ways scene asked) w turns
  all-enough w turns each = each_enough (moment_ways scene asked) w turns (λ p turn q shows next. each p turn q shows next.1)
