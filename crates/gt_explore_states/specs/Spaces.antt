-- The runs of a script up to the first moment at which a claim holds.
use Rattle.std.specs.Prelude.{◌≡◌, true, false, [], length, refl}
use Rattle.gt_explore_moves.specs.Spaces.{BeginsAt, Point, RunComesTo, scene_ways}
use Rattle.gt_explore_moves.specs.declared.scene.SearchContext.{SearchContext}
use Rattle.gt_explore_moves.specs.declared.scene.SearchState.{SearchState}
use Rattle.gt_explore_search.specs.Ways.{Ways}
use Rattle.gt_explore_search.specs.declared.spaces.TurnResult.{TurnResult}
use Rattle.gt_explore_search.specs.declared.spaces.TurnResult.TheVariants.{Answered, Nowhere, On}
use Rattle.gt_state_claims.specs.Claims.{ClaimAsked}
use Rattle.gt_explore_states.specs.Moments.{holds_after}

-- the runs of a context, each up to the first moment at which the claim holds; they print nothing
abbrev pub moment_ways : SearchContext → ClaimAsked → Ways SearchState
moment_ways scene asked = record {
  Point = Point;
  domains = length scene.roster.domains.items;
  begins = BeginsAt scene;
  next = λ p turn q. (holds_after p.script asked p.happened ≡ false) × RunComesTo p turn q;
  ends = λ p. holds_after p.script asked p.happened ≡ true;
  printed = λ p at. [];
  shows = (scene_ways scene).shows;
  blank = λ p begins at. refl;
}

-- the result of a turn, without what it printed
abbrev pub unprinted : TurnResult → TurnResult
unprinted Nowhere = Nowhere
unprinted On = On
unprinted (Answered line) = On
