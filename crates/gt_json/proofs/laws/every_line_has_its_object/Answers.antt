use Rattle.gt_json.specs.Places.{start}
use Rattle.gt_json.proofs.ToldLemmas.{line_said}
use Rattle.gt_json.proofs.laws.every_line_has_its_object.Goals as goal

pub returns : goal.returns
returns c = λ printed line. line_said (start printed) line
