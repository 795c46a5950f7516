use Rattle.std.proofs.Common.{ℕ, List, codes, subst, sym}
use Rattle.std.specs.Prelude.{slice_index_or}
use Rattle.gt_findings.specs.Columns.{HasWord, IsColumnIn, of_word}
use Rattle.gt_findings.specs.declared.places.Span.{Span}
use Rattle.gt_findings.proofs.ColumnLemmas.{bounds_ordered, bounds_within, column_of_bounds}
use Rattle.gt_policy_check.proofs.allow_columns.pass.Goals as goal

pub returns-in-Some-clause-walk : goal.returns-in-Some-clause-walk
returns-in-Some-clause-walk c =
    let text = c.args.bytes.now in let line = c.args.walk.now.line in let row = c.bytes_of-row.result.now in
    let t : Span = slice_index_or c.as_slice-tokens.result.now c.in-Some.number (record { start = 0; end = 0 }) in
    let has : HasWord row (codes "allow") t.start = subst (λ (w : List ℕ). HasWord row w t.start) c.as_slice.ensures c.in-Some.ensures.1 in
    record {
      line = c.requires.line;
      column = column_of_bounds text (codes "allow") row line.number line.span c.column_of-column.result c.requires.line.bounds
          (c.bytes_of-row.ensures (bounds_ordered text line.number line.span c.requires.line.bounds) (bounds_within text line.number line.span c.requires.line.bounds))
          (subst (λ (n : ℕ). IsColumnIn row (codes "allow") n) (sym c.column_of-column.ensures) (of_word t.start has));
    }
