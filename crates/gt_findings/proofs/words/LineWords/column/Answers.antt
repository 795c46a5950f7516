use Rattle.std.proofs.Common.{refl}
use Rattle.std.specs.Prelude.{slice_range}
use Rattle.gt_findings.proofs.ColumnLemmas.{column_of_bounds}
use Rattle.gt_findings.proofs.LineLemmas.{column_missing, column_placed}
use Rattle.gt_findings.proofs.words.LineWords.column.Goals as goal

pub returns-in-Some : goal.returns-in-Some
returns-in-Some c =
    let w = c.args.self.now in let row = slice_range w.bytes.now w.span.start w.span.end in
    column_of_bounds w.bytes.now c.args.word.now row w.number w.span c.column_of.result c.requires.bounds refl
    (column_placed row c.args.word.now c.as_bytes.result.now w.places c.in-Some.place.now c.column_of.result c.requires.places c.as_bytes.ensures.value
    c.in-Some.ensures.value c.column_of.ensures)

pub returns-in-None : goal.returns-in-None
returns-in-None c =
    let w = c.args.self.now in let row = slice_range w.bytes.now w.span.start w.span.end in
    column_of_bounds w.bytes.now c.args.word.now row w.number w.span w.first c.requires.bounds refl
    (column_missing row c.args.word.now c.as_bytes.result.now w.places w.first c.requires.places c.as_bytes.ensures.value
    c.in-None.ensures.value c.requires.first)
