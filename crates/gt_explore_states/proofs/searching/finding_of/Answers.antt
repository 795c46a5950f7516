use Rattle.gt_script.specs.RunContents.{run_contents}
use Rattle.gt_state_claims.specs.Claims.{claim_asked}
use Rattle.gt_explore_states.proofs.Orders.{holds-nowhere}
use Rattle.gt_explore_states.proofs.searching.finding_of.Goals as goal

pub returns-then-whole : goal.returns-then-whole
returns-then-whole c = λ is all.
    holds-nowhere c.args.space.now.scene (claim_asked c.args.space.now.claim.now) (run_contents c.args.script.now) c.args.partial.found is c.every_order_has_turns.ensures (all c.if-whole.true) c.in_default.ensures.cases.0
