use Rattle.gt_findings.proofs.ReportLemmas.{texts_more}
use Rattle.gt_neverallow.specs.Printing.{IsBreachText}
use Rattle.gt_neverallow.proofs.printing.push_breaches.Goals as goal

pub found-preserved : goal.found-preserved
found-preserved c = let texts = c.args.texts.now in
    texts_more (IsBreachText c.args.form texts.file.now texts.policy.text.now texts.never_file.now texts.never.text.now)
    c.args.found.now c.found.breach-index c.breach-item.result _ c.found.out.items c.push_breach.new.out.items
    c.found-test.true c.breach-item.is c.found.invariant c.in_ok-push_breach.ensures
