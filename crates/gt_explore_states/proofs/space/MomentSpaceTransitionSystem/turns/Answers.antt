use Rattle.std.proofs.Common.{◌∙◌, sym}
use Rattle.gt_state_claims.specs.Claims.{claim_asked}
use Rattle.gt_explore_states.proofs.Spaces.{all-enough, none-enough}
use Rattle.gt_explore_states.proofs.space.MomentSpaceTransitionSystem.turns.Goals as goal

pub returns-then-is_moment : goal.returns-then-is_moment
returns-then-is_moment c =
    none-enough c.args.self.now.scene (claim_asked c.args.self.now.claim.now) c.args.state.now _ (λ p shows. sym c.if-is_moment.true ∙ c.is_moment.ensures p shows)

pub returns : goal.returns
returns c = all-enough c.args.self.now.scene (claim_asked c.args.self.now.claim.now) c.args.state.now _ c.in_ok-every_turn.ensures
