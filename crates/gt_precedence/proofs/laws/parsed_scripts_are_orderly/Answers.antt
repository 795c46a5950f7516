use Rattle.gt_precedence.proofs.Parsed.{parsed-orderly}
use Rattle.gt_precedence.proofs.laws.parsed_scripts_are_orderly.Goals as goal

pub returns : goal.returns
returns c = parsed-orderly
