use Rattle.std.proofs.Common.{ℕ, sym, subst}
use Rattle.gt_findings.specs.Columns.{IsColumnIn, of_row, of_word}
use Rattle.gt_findings.proofs.places.column_in.Goals as goal

pub returns-in-Some : goal.returns-in-Some
returns-in-Some c =
    subst (λ (n : ℕ). IsColumnIn c.args.line.now c.args.word.now n) (sym c.column_of.ensures) (of_word c.in-Some.place c.in-Some.ensures)

pub returns-in-None : goal.returns-in-None
returns-in-None c = of_row _ c.in-None.ensures c.first_column.ensures
