use Rattle.std.proofs.Common.{codes}
use Rattle.gt_findings.specs.Report.{shown_word}
use Rattle.gt_findings.proofs.KeepLemmas.{adds_quoted}
use Rattle.gt_findings.proofs.ReportLemmas.{on_ok}
use Rattle.gt_findings.proofs.messages.push_meant.Goals as goal

pub returns : goal.returns
returns c =
    on_ok c.push_text-2.result
    (adds_quoted c.args.out.now.items c.push_text.new.out.items c.push_quoted_word.new.out.items c.push_text-2.new.out.items (codes "; did you mean ") (codes "\"") (shown_word c.in-Some.name.now) (codes "?")
    c.in_ok-push_text.ensures.ok c.in_ok-push_quoted_word.ensures)
    c.push_text-2.ensures.ok
