use Rattle.std.proofs.Common.{◌∙◌, Bool, subst, sym}
use Rattle.std.specs.Prelude.{MatchBool}
use Rattle.gt_policy_check.specs.Earlier.{IsRepeatAt}
use Rattle.gt_policy_check.proofs.EarlierLemmas.{not_without_triple}
use Rattle.gt_policy_check.proofs.earlier.is_repeated_at.Goals as goal

pub returns-else-grants_triple : goal.returns-else-grants_triple
returns-else-grants_triple c =
    subst (λ (b : Bool). MatchBool b (IsRepeatAt c.args.members.now c.args.before.now c.args.statement.now c.args.candidate)
    (IsRepeatAt c.args.members.now c.args.before.now c.args.statement.now c.args.candidate → ⊥)) (sym c.if-grants_triple.false)
    (not_without_triple c.args.members.now c.args.before.now c.args.statement.now c.args.triple c.args.candidate c.in-Some.earlier.now c.requires c.in-Some.ensures.lookup.1
    (sym (c.grants_triple.ensures c.requires.source c.requires.target) ∙ c.if-grants_triple.false))
