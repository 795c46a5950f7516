use Rattle.gt_findings.proofs.ReportLemmas.{on_ok}
use Rattle.gt_neverallow.proofs.PrintingLemmas.{breach_added}
use Rattle.gt_neverallow.proofs.printing.push_breach.Goals as goal

pub returns : goal.returns
returns c = let texts = c.args.texts.now in
    on_ok c.push_finding-2.result
    (breach_added c.args.form texts.file.now texts.policy.text.now texts.never_file.now texts.never.text.now
    c.args.breach.now c.in_ok-error.error c.in_ok-note.note _ c.push_finding.new.out.items c.push_finding-2.new.out.items
    (c.in_ok-error.ensures texts.policy.text.now c.requires.columns.0) (c.in_ok-note.ensures texts.never.text.now c.requires.columns.1) c.in_ok-push_finding.ensures) c.push_finding-2.ensures
