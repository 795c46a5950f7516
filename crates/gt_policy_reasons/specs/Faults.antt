-- The texts of the errors.
use Rattle.std.specs.Prelude.{ℕ, List, ◌++◌, codes}
use Rattle.std.specs.Fmt.{decimal}
use Rattle.gt_policy.specs.Texts.{fault_text}
use Rattle.gt_policy_list.specs.Faults.{listing_fault_text}
use Rattle.gt_policy_reasons.specs.declared.faults.BreachFault.{BreachFault}
use Rattle.gt_policy_reasons.specs.declared.faults.BreachFault.TheVariants as breaches
use Rattle.gt_policy_reasons.specs.declared.faults.FlowFault.{FlowFault}
use Rattle.gt_policy_reasons.specs.declared.faults.FlowFault.TheVariants as flow_faults
use Rattle.gt_policy_reasons.specs.declared.faults.WhyFault.{WhyFault}
use Rattle.gt_policy_reasons.specs.declared.faults.WhyFault.TheVariants as why_faults

-- the text of an error of `why`
abbrev pub why_fault_text : WhyFault → List ℕ
why_fault_text (why_faults.Text fault) = listing_fault_text fault
why_fault_text why_faults.NoSource = codes "the source is not a type of the policy"
why_fault_text why_faults.NoTarget = codes "the target is not a type of the policy"
why_fault_text why_faults.NoPermission = codes "the permission is not one of the seven"

-- the text of an error of a check against neverallow statements
abbrev pub breach_fault_text : BreachFault → List ℕ
breach_fault_text (breaches.Policy fault) = listing_fault_text fault
breach_fault_text (breaches.Statements fault) = fault_text fault.line fault.kind
breach_fault_text (breaches.ForbidsNothing line) = codes "line " ++ decimal line ++ codes ": neverallow nothing"

-- the text of an error of a question about flows
abbrev pub flow_fault_text : FlowFault → List ℕ
flow_fault_text (flow_faults.Text fault) = listing_fault_text fault
flow_fault_text flow_faults.NoSource = codes "the source is not a type of the policy"
flow_fault_text flow_faults.NoTarget = codes "the target is not a type of the policy"
flow_fault_text (flow_faults.NoTrusted place) = codes "a trusted type is not a type of the policy"
flow_fault_text flow_faults.NoBlock = codes "the script has no policy block"
