use Rattle.std.proofs.Common.{map}
use Rattle.gt_script.specs.RunContents.{run_contents}
use Rattle.gt_explore_answers.specs.Outputs.{found_from}
use Rattle.gt_explore_verdict.specs.Formulas.{operation_asked}
use Rattle.gt_explore_claims.proofs.Unshown.{decided_so}
use Rattle.gt_explore_claims.proofs.naming.decided.Goals as goal

pub returns-in-Ok-unshown_output : goal.returns-in-Ok-unshown_output
returns-in-Ok-unshown_output g c =
    let made = c.in-Ok-unshown_output.made in
    decided_so (run_contents c.args.script.now) c.args.asked.now.format c.args.asked.now.states c.args.claim.now (found_from c.in_ok-found.found) (map operation_asked c.in-Ok.field-0.items) made.text.items made.verdict
    c.in-Ok.ensures c.in_ok-found.ensures c.in-Ok-unshown_output.ensures.is c.in-Ok-unshown_output.ensures.text
