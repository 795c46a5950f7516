use Rattle.std.proofs.Common.{◌≡◌, map, take}
use Rattle.gt_fault_reasons.specs.Fitting.{example_word}
use Rattle.gt_fault_reasons.proofs.syntax.example_words.Given as goal

abbrev pub invariant-words : goal.invariant-words
invariant-words l = map (λ w. w.now) l.words.items ≡ map example_word (map (λ w. w.now) (take l.word-index l.form))
