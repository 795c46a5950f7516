use Rattle.std.proofs.Common.{◌∙◌}
use Rattle.gt_script.specs.Contents.{contents_of}
use Rattle.gt_state_claims.specs.Claims.{claim_asked}
use Rattle.gt_explore_moments.proofs.Written.{commented_so}
use Rattle.gt_explore_moments.proofs.exploring.moment_answer.Goals as goal

pub returns : goal.returns
returns c =
    commented_so (contents_of c.args.script.now.head) (claim_asked c.args.claim.now) c.args.words.now c.args.found.now.states c.as_slice.result.now c.moment_script.result
    (c.as_slice.ensures.value ∙ c.in_ok-comment.ensures) c.moment_script.ensures
