use Rattle.std.proofs.Common.{◌≡◌, drop, length, map}
use Rattle.gt_explore_answers.specs.Given.{wrong_from}
use Rattle.gt_explore_answers.proofs.given.wrong_line.Given as goal

abbrev pub invariant-lines : goal.invariant-lines
invariant-lines l = record {
  at : l.at ≡ l.line-index;
  left : wrong_from l.places (length l.lines) 0 (map (λ x. x.now) l.lines)
      ≡ wrong_from l.places (length l.lines) l.at (map (λ x. x.now) (drop l.line-index l.lines));
}
