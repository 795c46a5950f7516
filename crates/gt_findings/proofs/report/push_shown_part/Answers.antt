use Rattle.std.proofs.Common.{chars}
use Rattle.gt_findings.proofs.ReportLemmas.{on_ok, shown_all, shown_then}
use Rattle.gt_findings.proofs.report.push_shown_part.Goals as goal

pub returns : goal.returns
returns c =
    on_ok c.push_more-2.result
    (shown_then c.args.out.now.items c.push_all_shown.new.out.items c.push_more-2.new.out.items
    (shown_then c.args.out.now.items c.push_more.new.out.items c.push_all_shown.new.out.items c.in_ok-push_more.ensures
    (shown_all c.push_more.new.out.items c.push_all_shown.new.out.items (chars c.args.shown.now.text.now) c.in_ok-push_all_shown.ensures)))
    c.push_more-2.ensures
