use Rattle.gt_neverallow.specs.Breaking.{breaks_with, pairs_if}
use Rattle.gt_neverallow.proofs.BreakingLemmas.{adds_more}
use Rattle.gt_neverallow.proofs.breaking.push_broken.Goals as goal

pub nevers-preserved : goal.nevers-preserved
nevers-preserved c =
    let stated = c.args.stated.now in
    adds_more c.args.members.now (λ n. pairs_if (breaks_with c.args.members.now n stated.statement) stated n) c.args.nevers.now c.nevers.never-index c.never-item.result c.args.found.now.items c.nevers.found.items c.push_if_broken.new.found.items
    c.nevers-test.true c.never-item.is c.nevers.invariant c.in_ok-push_if_broken.ensures
