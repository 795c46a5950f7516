use Rattle.std.proofs.Common.{◌≡◌, ◌≤◌, length, drop, map}
use Rattle.gt_explore_verdict.specs.Satisfying.{begins}
use Rattle.gt_explore_verdict.proofs.lines.begins.Given as goal

abbrev pub invariant-with : goal.invariant-with
invariant-with l = record {
  at : l.at ≡ l.word-index;
  room : l.at ≤ length l.words;
  left : begins (map (λ w. w.now) l.words) (map (λ w. w.now) l.with)
      ≡ begins (map (λ w. w.now) (drop l.at l.words)) (map (λ w. w.now) (drop l.word-index l.with));
}
