use Rattle.std.proofs.Common.{◌≡◌, drop, map}
use Rattle.std.specs.List.{list_any}
use Rattle.std.specs.Str.{bytes_eq}
use Rattle.gt_explore_verdict.proofs.lines.has_word.Given as goal

abbrev pub invariant-words : goal.invariant-words
invariant-words l =
    list_any (λ w. bytes_eq w l.word) (map (λ w. w.now) l.words)
    ≡ list_any (λ w. bytes_eq w l.word) (map (λ w. w.now) (drop l.other-index l.words))
