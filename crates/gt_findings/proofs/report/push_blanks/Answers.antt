use Rattle.gt_findings.proofs.ReportLemmas.{more_blanks}
use Rattle.gt_findings.proofs.report.push_blanks.Goals as goal

pub letters-preserved : goal.letters-preserved
letters-preserved c = more_blanks _ _ _ c.letters.invariant c.in_ok-push_blank.ensures
