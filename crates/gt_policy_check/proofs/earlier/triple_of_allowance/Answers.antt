use Rattle.std.proofs.Common.{◌∙◌, ap, sym}
use Rattle.gt_policy.specs.Resolving.{has_grant}
use Rattle.gt_policy_check.proofs.EarlierLemmas.{no_class, no_pair, no_permission, when_none}
use Rattle.gt_policy_check.proofs.earlier.triple_of_allowance.Goals as goal

pub returns-then-not-has_grant : goal.returns-then-not-has_grant
returns-then-not-has_grant c = no_class c.args.members.now c.args.allowed.now (ap has_grant (sym c.as_slice.ensures) ∙ sym c.has_grant.ensures ∙ c.if-not-has_grant.true)

pub returns-in_default : goal.returns-in_default
returns-in_default c = no_pair c.args.members.now c.args.allowed.now c.args.sources.now c.requires (when_none _ _ c.first_pair.result c.in_default.is-1 c.first_pair.ensures)

pub returns-in_default-2 : goal.returns-in_default-2
returns-in_default-2 c = no_permission c.args.members.now c.args.allowed.now (when_none _ _ c.first_listed.result c.in_default.is-0 c.first_listed.ensures)
