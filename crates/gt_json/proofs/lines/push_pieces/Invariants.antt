use Rattle.std.proofs.Common.{◌≡◌, ◌++◌, drop, map}
use Rattle.gt_json.specs.Lines.{pieces}
use Rattle.gt_json.specs.Places.{start}
use Rattle.gt_json.proofs.lines.push_pieces.Given as goal

abbrev pub invariant-words : goal.invariant-words
invariant-words l =
    l.out.items ++ pieces l.place (map (λ w. w.now) (drop l.word-index l.words))
    ≡ l.initial.out.items ++ pieces (start l.fn.printed) (map (λ w. w.now) l.words)
