use Rattle.std.proofs.Common.{◌≡◌, drop, map}
use Rattle.std.specs.List.{list_any}
use Rattle.gt_explore_answers.specs.Outputs.{found_from}
use Rattle.gt_explore_claims.specs.Deciding.{numbered_claim}
use Rattle.gt_explore_claims.specs.Unlisted.{is_shown}
use Rattle.gt_explore_claims.proofs.unlisted.shows_one.Given as goal

-- the claims so far show none
abbrev pub invariant-claims : goal.invariant-claims
invariant-claims l =
    list_any (is_shown (found_from l.found)) (map numbered_claim l.claims)
    ≡ list_any (is_shown (found_from l.found)) (map numbered_claim (drop l.named-index l.claims))
