use Rattle.std.proofs.Common.{ℕ, sym, subst}
use Rattle.gt_findings.specs.Columns.{IsColumnIn, of_word}
use Rattle.gt_findings.proofs.places.column_near.Goals as goal

pub returns-then-is_word_at : goal.returns-then-is_word_at
returns-then-is_word_at c =
    subst (λ (n : ℕ). IsColumnIn c.args.line.now c.args.word.now n) (sym c.column_of.ensures) (of_word c.args.place (c.is_word_at.ensures c.if-is_word_at.true))
