-- The answers about a policy, or about the policy block of a script.
use Rattle.std.specs.Prelude.{◌≡◌, ◌⊎◌, ◌≤◌, ℕ, Bool, true, false, List, length}
use Rattle.std.specs.Prelude.{Option, Some, None, Result, Ok, Err}
use Rattle.std.specs.Io.KnownBytes.{Keeps}
use Rattle.std.specs.Str.{IsUtf8}
use Rattle.gt_types.specs.declared.limits.TheConstants.{LONGEST_TEXT}
use Rattle.gt_fault_reasons.specs.Blocks.{policy_block}
use Rattle.gt_file_commands.specs.FlowAnswers.{Flowed}
use Rattle.gt_policy_questions.specs.declared.flows.asking.FlowQuestion.{FlowQuestion}
use Rattle.gt_policy_reasons.specs.declared.faults.FlowFault.{FlowFault}
use Rattle.gt_policy_reasons.specs.declared.faults.FlowFault.TheVariants as flow_faults
use Rattle.gt_policy_list.specs.Reading.{IsNoText}
use Rattle.gt_policy_list.specs.declared.fault.ListingFault.{ListingFault}
use Rattle.gt_policy_list.specs.declared.fault.ListingFault.TheVariants as listing_faults

-- what was written for a question about a block: as about the policy that it is; nothing if there is none
abbrev pub FlowedBlock : Option (List ℕ) → FlowQuestion → Option (List ℕ) → Option (List ℕ) → Result Bool FlowFault
    → Type 0
FlowedBlock (Some block) q old new r = Flowed q block old new r
FlowedBlock None q old new (Err flow_faults.NoBlock) = Keeps old new
FlowedBlock None q old new (Err (flow_faults.Text listing_faults.Memory)) = Keeps old new
FlowedBlock None q old new r = ⊥

-- the fault of bytes that are too many or not UTF-8, or of a read or an allocation
abbrev pub IsUnreadScript : List ℕ → Result Bool FlowFault → Type 0
IsUnreadScript bytes (Err (flow_faults.Text fault)) =
    IsNoText bytes fault ⊎ (fault ≡ listing_faults.Memory) ⊎ (fault ≡ listing_faults.Read)
IsUnreadScript bytes r = ⊥

-- what was written for a question about the policy block of a script: nothing if the bytes are too many or not UTF-8
abbrev pub FlowedScript : FlowQuestion → List ℕ → Option (List ℕ) → Option (List ℕ) → Result Bool FlowFault → Type 0
FlowedScript q bytes old new r =
    ((length bytes ≤ LONGEST_TEXT) × IsUtf8 bytes × FlowedBlock (policy_block bytes) q old new r)
    ⊎ (IsUnreadScript bytes r × Keeps old new)

-- what was written for a question about a policy, or about that of a script
abbrev pub FlowedAs : Bool → FlowQuestion → List ℕ → Option (List ℕ) → Option (List ℕ) → Result Bool FlowFault → Type 0
FlowedAs false q bytes old new r = Flowed q bytes old new r
FlowedAs true q bytes old new r = FlowedScript q bytes old new r
