-- How a fault is encoded for C: its kind, its line, its domain.
use Rattle.std.specs.Prelude.{ℕ, Option, Some, None}
use Rattle.gt_types.specs.declared.DomId.{DomId}
use Rattle.gt_types.specs.declared.config.ConfigFault.{ConfigFault}
use Rattle.gt_types.specs.declared.config.ConfigFault.TheVariants.{NoDomains, TooMany, Id, Repeated, Frames}
use Rattle.gt_types.specs.declared.config.ConfigFault.TheVariants.{TableFrames, Version, Generation}
use Rattle.gt_types.specs.declared.config.StartFault.{StartFault}
use Rattle.gt_types.specs.declared.config.StartFault.TheVariants as start_faults
use Rattle.gt_policy.specs.declared.fault.TokenFault.{TokenFault}
use Rattle.gt_policy.specs.declared.fault.TokenFaultKind.{TokenFaultKind}
use Rattle.gt_policy.specs.declared.fault.TokenFaultKind.TheVariants.{Syntax, Unknown, Twice, Permission, Outside}
use Rattle.gt_policy.specs.declared.fault.TokenFaultKind.TheVariants.{Limit}
use Rattle.gt_start.specs.declared.faults.EncodedFault.{EncodedFault}

-- there is no fault
abbrev pub no_fault : EncodedFault
no_fault = record { kind = 0; line = 0; dom = 0 }

-- allocation failed
abbrev pub no_memory : EncodedFault
no_memory = record { kind = 1; line = 0; dom = 0 }

-- the number of handles is not that of the domains, or one of the handles has a domain
abbrev pub wrong_handles : EncodedFault
wrong_handles = record { kind = 2; line = 0; dom = 0 }

-- the policy is not UTF-8
abbrev pub no_text : EncodedFault
no_text = record { kind = 9; line = 0; dom = 0 }

-- the policy has no type of the name
abbrev pub no_type : EncodedFault
no_type = record { kind = 20; line = 0; dom = 0 }

-- the kind of a fault of a policy
abbrev pub policy_kind : TokenFaultKind → ℕ
policy_kind Syntax = 3
policy_kind (Unknown name) = 4
policy_kind (Twice name) = 5
policy_kind (Permission name) = 6
policy_kind (Outside name) = 7
policy_kind Limit = 8

-- a fault of a policy, at its line
abbrev pub encoded_token : TokenFault → EncodedFault
encoded_token f = record { kind = policy_kind f.kind; line = f.line; dom = 0 }

-- the same; if there is none, allocation failed
abbrev pub encoded_policy : Option TokenFault → EncodedFault
encoded_policy (Some f) = encoded_token f
encoded_policy None = no_memory

-- a fault of a domain
abbrev pub encoded_domain : ℕ → DomId → EncodedFault
encoded_domain kind dom = record { kind = kind; line = 0; dom = dom.0 }

-- a fault of a configuration
abbrev pub encoded_limit : ConfigFault → EncodedFault
encoded_limit NoDomains = record { kind = 10; line = 0; dom = 0 }
encoded_limit (TooMany dom) = encoded_domain 11 dom
encoded_limit (Id dom) = encoded_domain 12 dom
encoded_limit (Repeated dom) = encoded_domain 13 dom
encoded_limit (Frames dom) = encoded_domain 14 dom
encoded_limit (TableFrames dom) = encoded_domain 15 dom
encoded_limit (Version dom) = encoded_domain 16 dom
encoded_limit Generation = record { kind = 17; line = 0; dom = 0 }

-- the same; if the configuration has none, allocation failed
abbrev pub encoded_config : StartFault → EncodedFault
encoded_config (start_faults.Config fault) = encoded_limit fault
encoded_config start_faults.Memory = no_memory

-- the label of a domain is beyond the policy's types
abbrev pub encoded_label : ℕ → EncodedFault
encoded_label dom = record { kind = 19; line = 0; dom = dom }
