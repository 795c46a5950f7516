-- The lines that the faults of a claim about states print.
use Rattle.std.specs.Prelude.{ℕ, List, ◌++◌, codes, decimal}
use Rattle.gt_state_claims.specs.declared.fault.StateClaimFault.{StateClaimFault}
use Rattle.gt_state_claims.specs.declared.fault.StateClaimFault.TheVariants.{Memory, Term}
use Rattle.gt_state_claims.specs.declared.fault.StateClaimFault.TheVariants as claim_faults
use Rattle.gt_state_claims.specs.declared.fault.StateTermFault.{StateTermFault}
use Rattle.gt_state_claims.specs.declared.fault.StateTermFault.TheVariants.{Bracket, Domain, Empty, Ended, Entry}
use Rattle.gt_state_claims.specs.declared.fault.StateTermFault.TheVariants.{Large, Number, Reference}
use Rattle.gt_state_claims.specs.declared.fault.StateTermFault.TheVariants.{Word, Words}

abbrev pub state_term_fault_text : StateTermFault → List ℕ
state_term_fault_text Empty = codes "no condition"
state_term_fault_text Bracket = codes "a claim about states has no brackets"
state_term_fault_text Entry = codes "it does not begin with ID.REF"
state_term_fault_text Domain = codes "the domain is not below 65536"
state_term_fault_text Reference = codes "the reference is not below 4294967296"
state_term_fault_text Ended = codes "no word after ID.REF"
state_term_fault_text Words = codes "more than one word after ID.REF"
state_term_fault_text Word = codes "no entry shows this word"
state_term_fault_text Number = codes "no number after =, < or >"
state_term_fault_text Large = codes "the number is not below 18446744073709551616"

abbrev pub state_claim_fault_text : StateClaimFault → List ℕ
state_claim_fault_text Memory = codes "memory"
state_claim_fault_text claim_faults.Long = codes "a claim has at most 1048576 bytes"
state_claim_fault_text (Term number fault) = codes "term " ++ decimal number ++ codes ": " ++ state_term_fault_text fault
state_claim_fault_text (claim_faults.Domain number) = codes "no such domain: " ++ decimal number
