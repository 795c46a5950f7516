use Rattle.std.proofs.Common.{None, ◌∙◌, ap, sym}
use Rattle.std.specs.Global.{Vec}
use Rattle.gt_explore_ordered.specs.Notes.{letters_in}
use Rattle.gt_explore_ordered.proofs.NotesRead.{letters-first, letters-more, letters-past}
use Rattle.gt_explore_ordered.proofs.notes.letters_in.Goals as goal
use Rattle.gt_explore_ordered.proofs.notes.letters_in.Goals.{in-None, in-Some-eq0+in_ok-push-in-Some-eq0, in-Some}

pub bytes-preserved : goal.bytes-preserved
bytes-preserved c =
    let bytes = c.args.bytes.now in let i = c.bytes.byte-index in let lt = c.bytes-test.true in
    let kind = c.bytes.kind in let next = c.match-kind.kind in let text = c.bytes.text.items in let new = c.match-kind.text.items in
    let all = letters_in None c.args.bytes.now in let before = c.bytes.invariant in
    elim c.match-kind.branch [
      | in-None w ↦ letters-first bytes i lt kind next text new all before w.in-None.is w.kind-is (ap (λ (v : Vec _). v.items) w.text-is)
      | in-Some-eq0+in_ok-push-in-Some-eq0 w ↦
          letters-more bytes i lt kind next text new all before w.in-Some-eq0.field-0 w.in-Some-eq0.is (sym w.in-Some-eq0.field-0-is ∙ w.in-Some-eq0.field-0-test) w.kind-is
          (ap (λ (v : Vec _). v.items) w.text-is ∙ w.in_ok-push-in-Some-eq0.ensures.items)
      | in-Some w ↦
          letters-past bytes i lt kind next text new all before w.in-Some.field-0 w.in-Some.is (λ z. w.in-Some.field-0-test.1 (w.in-Some.field-0-is ∙ z)) w.kind-is (ap (λ (v : Vec _). v.items) w.text-is)
    ]
