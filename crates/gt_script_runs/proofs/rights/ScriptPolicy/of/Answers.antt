use Rattle.std.proofs.Common.{◌≡◌, ℕ, Bool, Option, option_map, Some, ap, ◌∙◌}
use Rattle.gt_types.specs.declared.TypeId.{TypeId}
use Rattle.gt_types.specs.declared.perms.Perms.{Perms}
use Rattle.gt_policy.specs.Kept as policies
use Rattle.gt_allow.specs.Looking.{Table, looks_up}
use Rattle.gt_script.specs.Contents.{KeptContents, contents_of}
use Rattle.gt_script_runs.specs.declared.rights.ScriptPolicy.TheVariants as script_policies
use Rattle.gt_script_runs.specs.Rights.{may_by, may_with, may_in}
use Rattle.gt_script_runs.proofs.rights.ScriptPolicy.of.Goals as goal

compiled : (k : KeptContents) (p : policies.KeptPolicy) (table : Table) → Some p ≡ k.policy → looks_up table ≡ policies.may_of p → may_by (script_policies.Table table) ≡ may_in (contents_of k)
compiled k p table said same =
    ap (λ (f : ℕ → ℕ → Perms → Bool). λ (s t : TypeId) (perm : Perms). f s.0 t.0 perm) same
    ∙ ap (λ (o : Option policies.KeptPolicy). may_with (option_map policies.allowed_of o) k.triples) said

pub returns-in-Some : goal.returns-in-Some
returns-in-Some c = compiled c.args.head.now c.in-Some.policy.now c.in_ok-compile.field-0 c.in-Some.ensures c.in_ok-compile.ensures
