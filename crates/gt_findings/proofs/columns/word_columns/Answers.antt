use Rattle.std.proofs.Common.{ℕ, List, subst}
use Rattle.gt_findings.specs.Columns.{IsColumnOf}
use Rattle.gt_findings.proofs.LineLemmas.{word_more}
use Rattle.gt_findings.proofs.columns.word_columns.Goals as goal

pub lines-preserved : goal.lines-preserved
lines-preserved c =
    let text = c.args.bytes.now in let column = c.column_of_word.result in
    let of_word = subst (λ (w : List ℕ). IsColumnOf text c.in_ok-tokens.tokens.number w column) c.as_bytes.ensures.value c.column_of_word.ensures in
    let on_line = subst (λ (n : ℕ). IsColumnOf text n c.args.word.now column) c.in_ok-tokens.ensures.number of_word in
    let more = word_more text c.args.word.now c.lines.columns.items c.push.new.self.items c.lines.line column c.lines.invariant.many c.lines.invariant.each on_line c.in_ok-push.ensures.items in
    record { each = more.0; many = more.1 }
