use Rattle.std.proofs.Common.{◌∙◌, sym}
use Rattle.gt_findings.proofs.ColumnLemmas.{continues_more}
use Rattle.gt_findings.proofs.places.token_end.Goals as goal

pub bytes-preserved : goal.bytes-preserved
bytes-preserved c =
    continues_more c.args.line.now c.args.start c.bytes.place c.bytes.invariant (sym c.is_continuation.ensures ∙ c.if-not-is_continuation.false)
