-- Why an allow statement allows nothing.
use Rattle.std.specs.Prelude.{◌≡◌, Bool, true, false, List}
use Rattle.std.specs.List.{list_any}
use Rattle.gt_types.specs.Names.{every_permission, permission_name}
use Rattle.gt_policy.specs.Granting.{lists_word}
use Rattle.gt_policy.specs.declared.statements.Allowance.{Allowance}
use Rattle.gt_policy.specs.declared.statements.SetElement.{SetElement}
use Rattle.gt_policy.specs.declared.statements.Statement.{Statement}
use Rattle.gt_policy.specs.declared.statements.Statement.TheVariants.{Allow, DeclareAttribute, DeclareType}
use Rattle.gt_policy.specs.declared.statements.Statement.TheVariants.{GiveAttributes}
use Rattle.gt_policy_statements.specs.Granting.{elements_hold}
use Rattle.gt_policy_statements.specs.declared.members.Member.{Member}
use Rattle.gt_policy_check.specs.declared.useless.UselessReason.{UselessReason}
use Rattle.gt_policy_check.specs.declared.useless.UselessReason.TheVariants.{NoPermission, NoSource, NoTarget}

-- the statement lists some permission of class `grant`
abbrev pub lists_some : Allowance → Bool
lists_some a = list_any (λ p. lists_word a.perms (permission_name p)) every_permission

-- the set holds some of these types
abbrev pub holds_some : List Member → List SetElement → Bool
holds_some members items = list_any (λ m. elements_hold m.names items) members

-- What is missing: a permission, a source, or if it has both a target.
abbrev pub IsUselessFor : List Member → Allowance → UselessReason → Type 0
IsUselessFor members a NoPermission = lists_some a ≡ false
IsUselessFor members a NoSource = (lists_some a ≡ true) × (holds_some members a.source ≡ false)
IsUselessFor members a NoTarget = (lists_some a ≡ true) × (holds_some members a.source ≡ true)

abbrev pub IsReason : List Member → Statement → UselessReason → Type 0
IsReason members (DeclareType w ms) reason = Unit {0}
IsReason members (DeclareAttribute w) reason = Unit {0}
IsReason members (GiveAttributes m ms) reason = Unit {0}
IsReason members (Allow a) reason = IsUselessFor members a reason
