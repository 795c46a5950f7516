-- Faults of a policy and of a read as faults of a listing.
use Rattle.std.specs.Prelude.{ℕ, List, ◌++◌, codes}
use Rattle.std.specs.Fmt.{decimal}
use Rattle.gt_policy.specs.Texts.{fault_text}
use Rattle.gt_policy.specs.declared.parse.PolicyFaultKind.{PolicyFaultKind}
use Rattle.gt_policy.specs.declared.parse.PolicyFaultKind.TheVariants as policy_fault_kinds
use Rattle.gt_text.specs.declared.fault.ReadFault.{ReadFault}
use Rattle.gt_text.specs.declared.fault.ReadFault.TheVariants as read_faults
use Rattle.gt_policy_list.specs.declared.fault.ListingFault.{ListingFault}
use Rattle.gt_policy_list.specs.declared.fault.ListingFault.TheVariants as listing_faults

-- the fault of a listing for a fault of the policy
abbrev pub listing_fault_of : ℕ → PolicyFaultKind → ListingFault
listing_fault_of line policy_fault_kinds.Memory = listing_faults.Memory
listing_fault_of line policy_fault_kinds.Syntax =
    listing_faults.Policy (record { line = line; kind = policy_fault_kinds.Syntax })
listing_fault_of line (policy_fault_kinds.Unknown name) =
    listing_faults.Policy (record { line = line; kind = policy_fault_kinds.Unknown name })
listing_fault_of line (policy_fault_kinds.Twice name) =
    listing_faults.Policy (record { line = line; kind = policy_fault_kinds.Twice name })
listing_fault_of line (policy_fault_kinds.Permission name) =
    listing_faults.Policy (record { line = line; kind = policy_fault_kinds.Permission name })
listing_fault_of line (policy_fault_kinds.Outside word) =
    listing_faults.Policy (record { line = line; kind = policy_fault_kinds.Outside word })
listing_fault_of line policy_fault_kinds.Limit =
    listing_faults.Policy (record { line = line; kind = policy_fault_kinds.Limit })

-- the fault of a listing for a failed read
abbrev pub listing_read_fault : ReadFault → ListingFault
listing_read_fault read_faults.Memory = listing_faults.Memory
listing_read_fault read_faults.Read = listing_faults.Read

-- the text of a fault, as one line
abbrev pub listing_fault_text : ListingFault → List ℕ
listing_fault_text (listing_faults.Utf8 line) = codes "line " ++ decimal line ++ codes ": utf8"
listing_fault_text (listing_faults.Policy fault) = fault_text fault.line fault.kind
listing_fault_text listing_faults.Memory = codes "memory"
listing_fault_text listing_faults.Read = codes "read"
listing_fault_text listing_faults.Write = codes "write"
