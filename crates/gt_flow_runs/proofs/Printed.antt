-- The texts of runs with other bytes of high domains, by way of the texts that the scripts may give.
use Rattle.gt_flow_runs.specs.Secrets.{PrintedTextsHaveOthers}
use Rattle.gt_flow_runs.proofs.Texts.{texts-have-others}
use Rattle.gt_linearization.specs.Printed.{GivenTextsArePrinted, PrintedTextsAreGiven}

pub printed-have-others : GivenTextsArePrinted → PrintedTextsAreGiven → PrintedTextsHaveOthers
printed-have-others printed given refuses high one other text closed same prints calm =
    let (new, gives, low) = texts-have-others high one other text closed same (given refuses one text prints calm) in
    (new, printed refuses other new gives, low)
