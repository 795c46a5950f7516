use Rattle.gt_script.specs.Contents.{contents_of}
use Rattle.gt_state_claims.specs.Claims.{claim_asked}
use Rattle.gt_moment_scripts.proofs.Scripts.{after_comment}
use Rattle.gt_moment_scripts.proofs.playing.moment_script.Goals as goal

pub returns-in-Some : goal.returns-in-Some
returns-in-Some c = after_comment (contents_of c.args.script.now.head) (claim_asked c.args.claim.now) c.args.comment.now c.without_script.result c.without_script.ensures
