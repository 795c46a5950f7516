use Rattle.std.proofs.Common.{◌≡◌, ◌++◌, drop, map}
use Rattle.std.specs.Str.Lines.{lines as lines_in}
use Rattle.gt_explore_claims.specs.Deciding.{numbered_claim, numbered_claims}
use Rattle.gt_explore_claims.specs.Stating.{stated}
use Rattle.gt_explore_claims.proofs.deciding.numbered_claims.Given as goal

-- the claims so far, and then those that are left, are all
abbrev pub invariant-claims : goal.invariant-claims
invariant-claims l =
    map numbered_claim l.all.items ++ numbered_claims (lines_in l.source) (map stated (drop l.claim-index l.claims))
    ≡ numbered_claims (lines_in l.source) (map stated l.claims)
