use Rattle.std.proofs.Common.{◌∙◌, map, sym}
use Rattle.gt_script.specs.RunContents.{run_contents}
use Rattle.gt_explore_answers.specs.Outputs.{found_from}
use Rattle.gt_explore_claims.specs.Deciding.{numbered_claim}
use Rattle.gt_explore_claims.proofs.Explored.{either_means}
use Rattle.gt_explore_claims.proofs.exploring.answered.Goals as goal

pub returns-in-Ok-claims_output : goal.returns-in-Ok-claims_output
returns-in-Ok-claims_output g c = record {
  found = found_from c.in-Ok.found;
  texts = c.in-Ok.ensures;
  clear = sym c.in-Ok-None.ensures ∙ c.in-Ok-None.field-0-is;
  means = either_means (run_contents c.args.script.now) (found_from c.in-Ok.found) (map numbered_claim c.args.claims.now) c.in-Ok.ensures;
  output = c.in-Ok-claims_output.ensures;
}
