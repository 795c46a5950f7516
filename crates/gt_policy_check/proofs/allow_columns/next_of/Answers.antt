use Rattle.std.proofs.Common.{arith}
use Rattle.std.specs.Prelude.{slice_index_or}
use Rattle.gt_findings.specs.Columns.{IsToken}
use Rattle.gt_findings.specs.declared.places.Span.{Span}
use Rattle.gt_findings.proofs.ColumnLemmas.{has_word, same_word}
use Rattle.gt_policy_check.proofs.allow_columns.next_of.Goals as goal

pub returns-then-eq : goal.returns-then-eq
returns-then-eq c =
    let row = c.args.row.now in let word = c.args.word.now in
    let t : Span = slice_index_or c.args.tokens.now c.tokens.number (record { start = 0; end = 0 }) in
    let token : IsToken row t.start t.end = c.requires.each c.tokens.number (record { start = 0; end = 0 }) c.tokens-test.true in (
      c.tokens-test.true,
      has_word row word c.bytes_of.result.now t.start t.end token (c.bytes_of.ensures (omega (arith, token.longer)) token.within)
          (same_word c.bytes_of.result.now word c.eq.result c.eq.ensures c.if-eq.true),
    )
