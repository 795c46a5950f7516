use Rattle.std.proofs.Common.{None, ◌∙◌, sym}
use Rattle.gt_explore_ordered.specs.Notes.{has_mark}
use Rattle.gt_explore_ordered.proofs.NotesRead.{mark-first, mark-found, mark-letter, mark-past}
use Rattle.gt_explore_ordered.proofs.notes.has_mark.Goals as goal
use Rattle.gt_explore_ordered.proofs.notes.has_mark.Goals.{in-None, in-Some-eq0, in-Some+else-byte-number}

pub bytes-preserved : goal.bytes-preserved
bytes-preserved c =
    let bytes = c.args.bytes.now in let i = c.bytes.byte-index in let lt = c.bytes-test.true in
    let kind = c.bytes.kind in let next = c.match-kind.kind in
    let n = c.args.number in let all = has_mark c.args.number None c.args.bytes.now in let before = c.bytes.invariant in
    elim c.match-kind.branch [
      | in-None w ↦ mark-first bytes i lt kind next n all before w.in-None.is w.kind-is
      | in-Some-eq0 w ↦ mark-letter bytes i lt kind next n all before w.in-Some-eq0.field-0 w.in-Some-eq0.is (sym w.in-Some-eq0.field-0-is ∙ w.in-Some-eq0.field-0-test) w.kind-is
      | in-Some+else-byte-number w ↦
          mark-past bytes i lt kind next n all before w.in-Some.field-0 w.in-Some.is (λ z. w.in-Some.field-0-test.1 (w.in-Some.field-0-is ∙ z)) w.kind-is w.if-byte-number.false
    ]
