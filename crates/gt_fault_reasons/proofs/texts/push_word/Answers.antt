use Rattle.std.proofs.Common.{refl}
use Rattle.gt_findings.proofs.ReportLemmas.{on_ok}
use Rattle.gt_fault_reasons.proofs.texts.push_word.Goals as goal

pub returns : goal.returns
returns c = on_ok c.push_part.result
    (λ is. (_, (c.shown_part-end.result, c.shown_part-end.ensures, refl), is)) c.push_part.ensures
