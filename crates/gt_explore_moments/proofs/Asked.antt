-- Why a text is not a claim about a script.
use Rattle.std.proofs.Common.{◌≡◌, ℕ, List, Ok, Some}
use Rattle.gt_types.specs.declared.DomId.{DomId}
use Rattle.gt_types.specs.declared.config.DomainConfig.{DomainConfig}
use Rattle.gt_state_claims.specs.Claims.{ClaimAsked}
use Rattle.gt_state_claims.specs.Reading.{IsReadFault, claim_read}
use Rattle.gt_state_claims.specs.declared.fault.StateClaimFault.{StateClaimFault}
use Rattle.gt_state_claims.specs.declared.fault.StateClaimFault.TheVariants as claim_faults
use Rattle.gt_explore_moments.specs.Exploring.{IsClaimFault}
use Rattle.gt_moment_scripts.specs.Naming.{entries_named, foreign_domain}

-- the text was not read
pub unread_claim : (domains : List DomainConfig) (text : List ℕ) (fault : StateClaimFault) → IsReadFault text fault → IsClaimFault domains text fault
unread_claim domains text claim_faults.Memory is = tt
unread_claim domains text claim_faults.Long is = is
unread_claim domains text (claim_faults.Term number fault) is = is
unread_claim domains text (claim_faults.Domain number) is = absurd is

-- it names a domain that the script does not have
pub foreign_claim : (domains : List DomainConfig) (text : List ℕ) (claim : ClaimAsked) (found : DomId) → claim_read text ≡ Ok claim → foreign_domain domains (entries_named claim) ≡ Some found
    → IsClaimFault domains text (claim_faults.Domain found.0)
foreign_claim domains text claim found read foreign = (claim, read, foreign)
