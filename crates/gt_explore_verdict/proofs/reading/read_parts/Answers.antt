use Rattle.std.proofs.lemmas.Result.{err_from_is_err_and}
use Rattle.std.proofs.Common.{◌≡◌, ◌∙◌, Ok, List, [], Bor, ℕ, arith, get_or, slice_get, sym}
use Rattle.gt_explore_verdict.specs.Expressions.{words_in}
use Rattle.gt_explore_verdict.specs.Reading.{part_read, reader_asked}
use Rattle.gt_explore_verdict.proofs.Parts.{parts_fault, parts_from}
use Rattle.gt_explore_verdict.proofs.reading.read_parts.Goals as goal

pub returns-in_err-read_part-clause-fault : goal.returns-in_err-read_part-clause-fault
returns-in_err-read_part-clause-fault c =
    let d : Bor (List ℕ) = record { ref_ptr = (0, 0); now = [] } in
    let p = err_from_is_err_and c.from_residual.result c.from_residual.ensures.1 in
    rw (p.1, p.2) (parts_fault _ (reader_asked c.segments.reader) c.args.segments.now c.segments.segment-index d
    c.args.marks.now c.segments.at _ c.segments.invariant.read (sym c.segments.invariant.at) c.segments-test.true
    (rw c.mark_at.ensures at c.in_err-read_part.ensures.fault))

pub segments-preserved : goal.segments-preserved
segments-preserved c =
    let d : Bor (List ℕ) = record { ref_ptr = (0, 0); now = [] } in
    let is : part_read (reader_asked c.segments.reader)
    (words_in (get_or c.args.segments.now c.segments.segment-index d).now)
    (slice_get c.args.marks.now c.segments.at) ≡ Ok (reader_asked c.read_part.new.reader) =
    rw c.mark_at.ensures at c.in_ok-read_part.ensures.ok in record {
      at = omega arith;
      terms = omega (arith, c.in_ok-read_part.ensures.one);
      read = c.segments.invariant.read
          ∙ parts_from (reader_asked c.segments.reader) c.args.segments.now c.segments.segment-index d
          c.args.marks.now c.segments.at (Ok (reader_asked c.read_part.new.reader))
          (sym c.segments.invariant.at) c.segments-test.true is;
    }
