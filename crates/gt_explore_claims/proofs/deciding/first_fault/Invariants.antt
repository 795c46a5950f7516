use Rattle.std.proofs.Common.{◌≡◌, ◌+◌, drop, map}
use Rattle.gt_script.specs.RunContents.{run_contents}
use Rattle.gt_explore_claims.specs.Deciding.{first_fault, numbered_claim}
use Rattle.gt_explore_claims.proofs.deciding.first_fault.Given as goal

abbrev pub invariant-claims : goal.invariant-claims
invariant-claims l = record {
  claim : l.claim ≡ l.named-index + 1;
  first : first_fault (run_contents l.script) 1 (map numbered_claim l.claims)
      ≡ first_fault (run_contents l.script) l.claim (map numbered_claim (drop l.named-index l.claims));
}
