use Rattle.gt_findings.proofs.ColumnLemmas.{at_next}
use Rattle.gt_findings.proofs.places.tokens_in.Goals as goal

pub tokens-preserved : goal.tokens-preserved
tokens-preserved c = let end = c.token_end-end in let next = c.after_blanks-start-in-tokens in
    at_next c.args.line.now c.tokens.start end.result next.result c.tokens.tokens.items c.push.new.self.items c.tokens.invariant end.ensures.within.0 end.ensures.within.1
    end.ensures.inside end.ensures.ends c.if-line-start-ne35.true next.ensures.within.0 next.ensures.within.1 next.ensures.blanks next.ensures.ends c.in_ok-push.ensures.items
