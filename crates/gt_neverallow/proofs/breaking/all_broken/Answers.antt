use Rattle.std.proofs.Common.{[]}
use Rattle.gt_neverallow.specs.Breaking.{broken_by}
use Rattle.gt_neverallow.proofs.BreakingLemmas.{adds_more}
use Rattle.gt_neverallow.proofs.breaking.all_broken.Goals as goal

pub statements-preserved : goal.statements-preserved
statements-preserved c =
    adds_more c.args.members.now (λ x. broken_by c.args.members.now c.args.nevers.now x) c.args.statements.now c.statements.stated-index c.stated-item.result [] c.statements.found.items c.push_broken.new.found.items
    c.statements-test.true c.stated-item.is c.statements.invariant c.in_ok-push_broken.ensures
