use Rattle.std.proofs.Common.{subst, sym}
use Rattle.gt_state_claims.specs.Claims.{claim_asked}
use Rattle.gt_explore_search.specs.Ways.{MovesTo}
use Rattle.gt_explore_search.specs.declared.spaces.TurnResult.{TurnResult}
use Rattle.gt_explore_states.specs.Spaces.{moment_ways}
use Rattle.gt_explore_states.proofs.Spaces.{moves-unprinted}
use Rattle.gt_explore_states.proofs.space.MomentSpaceTransitionSystem.advance.Goals as goal

pub returns : goal.returns
returns c =
    let scene = c.args.self.now.scene in let asked = claim_asked c.args.self.now.claim.now in
    let new = c.advance.new.state in
    subst (λ (led : TurnResult). MovesTo (moment_ways scene asked) c.args.state.now c.args.turn led new) (sym c.unprinted.ensures)
    (moves-unprinted scene asked c.args.state.now c.args.turn c.in_ok-led.led new c.in_ok-led.ensures)
