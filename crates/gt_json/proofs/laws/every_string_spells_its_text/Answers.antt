use Rattle.gt_json.proofs.ToldLemmas.{string_spells}
use Rattle.gt_json.proofs.laws.every_string_spells_its_text.Goals as goal

pub returns : goal.returns
returns c = λ text. string_spells text
