-- What the head of a script allows.
use Rattle.std.specs.Prelude.{Bool, Option, None, Some, List}
use Rattle.gt_types.specs.Rights.{is_listed}
use Rattle.gt_types.specs.declared.TypeId.{TypeId}
use Rattle.gt_types.specs.declared.perms.Perms.{Perms}
use Rattle.gt_types.specs.declared.rights.Triple.{Triple}
use Rattle.gt_allow.specs.Looking.{looks_up}
use Rattle.gt_policy.specs.Allowing.{Allowed}
use Rattle.gt_script.specs.Contents.{Contents}
use Rattle.gt_script_runs.specs.declared.rights.ScriptPolicy.{ScriptPolicy}
use Rattle.gt_script_runs.specs.declared.rights.ScriptPolicy.TheVariants as script_policies

-- what these rights allow
abbrev pub may_by : ScriptPolicy → TypeId → TypeId → Perms → Bool
may_by (script_policies.Table t) source target perm = looks_up t source.0 target.0 perm
may_by (script_policies.Triples t) source target perm = is_listed t.allowed.items source target perm

-- what a policy allows, or these triples if there is none
abbrev pub may_with : Option Allowed → List Triple → TypeId → TypeId → Perms → Bool
may_with (Some a) triples source target perm = a.may source.0 target.0 perm
may_with None triples source target perm = is_listed triples source target perm

-- what a script allows: what the policy of its block does, or its triples
abbrev pub may_in : Contents → TypeId → TypeId → Perms → Bool
may_in c source target perm = may_with c.policy c.triples source target perm
