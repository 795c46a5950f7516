use Rattle.std.proofs.Common.{subst}
use Rattle.gt_script.specs.RunContents.{run_contents}
use Rattle.gt_explore_states.specs.Moments.{IsFinding}
use Rattle.gt_state_claims.specs.Claims.{claim_asked}
use Rattle.gt_explore_moments.proofs.exploring.answered.Goals as goal

pub returns-in_ok-held-in-Nowhere : goal.returns-in_ok-held-in-Nowhere
returns-in_ok-held-in-Nowhere g c = (
  subst (IsFinding (run_contents c.args.script.now) (claim_asked c.args.claim.now)) c.in-Nowhere.is c.in_ok-search.ensures,
  (c.in_ok-search.search.states, c.in_ok-held-in-Nowhere.ensures),
)
