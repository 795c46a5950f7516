use Rattle.std.proofs.Common.{◌≡◌, ◌+◌, drop, map}
use Rattle.gt_explore_claims.specs.Stating.{first_unstated}
use Rattle.gt_explore_claims.proofs.stated.first_unstated.Given as goal

abbrev pub invariant-lines : goal.invariant-lines
invariant-lines l = record {
  number : l.number ≡ l.line-index + 1;
  first : first_unstated 1 (map (λ line. line.now) l.lines)
      ≡ first_unstated l.number (map (λ line. line.now) (drop l.line-index l.lines));
}
