use Rattle.gt_explore_search.proofs.Numbering.{extends-self}
use Rattle.gt_explore_search.proofs.parts.PartIndex.number.Goals as goal

pub returns-in-Some-clause-grows : goal.returns-in-Some-clause-grows
returns-in-Some-clause-grows g c = extends-self c.args.self.now.kept.items
