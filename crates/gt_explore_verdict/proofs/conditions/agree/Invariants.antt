use Rattle.std.proofs.Common.{◌≡◌, ◌≤◌, length, drop, map}
use Rattle.gt_explore_verdict.specs.Expressions.{agree}
use Rattle.gt_explore_verdict.proofs.conditions.agree.Given as goal

abbrev pub invariant-words : goal.invariant-words
invariant-words l = record {
  at : l.at ≡ l.word-index;
  room : l.at ≤ length l.others;
  left : agree (map (λ w. w.now) l.words) (map (λ w. w.now) l.others)
      ≡ agree (map (λ w. w.now) (drop l.word-index l.words)) (map (λ w. w.now) (drop l.at l.others));
}
