use Rattle.std.proofs.Common.{◌≡◌, ◌++◌, drop, map}
use Rattle.gt_explore_answers.specs.Outputs.{found_from}
use Rattle.gt_explore_claims.specs.Deciding.{claim_answer, claims_shown, numbered_claim}
use Rattle.gt_explore_claims.proofs.deciding.push_answers.Given as goal

-- what is printed so far, and then what is printed of the claims that are left, is what is printed of all
abbrev pub invariant-claims : goal.invariant-claims
invariant-claims l = record {
  shown : l.out.items ++ claims_shown l.format (found_from l.found) (map numbered_claim (drop l.named-index l.claims))
      ≡ l.fn.out.items ++ claims_shown l.format (found_from l.found) (map numbered_claim l.claims);
  verdicts : l.verdicts.items
      ++ map (λ claim. (claim_answer (found_from l.found) claim).verdict) (map numbered_claim (drop l.named-index l.claims))
      ≡ map (λ claim. (claim_answer (found_from l.found) claim).verdict) (map numbered_claim l.claims);
}
