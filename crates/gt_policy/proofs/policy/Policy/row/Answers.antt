use Rattle.std.proofs.Common.{List, ap, ◌∙◌, ◌&&◌}
use Rattle.std.proofs.Math.Path.{fun_ext}
use Rattle.std.proofs.lemmas.List.{take_all}
use Rattle.gt_types.specs.Names.{is_permission}
use Rattle.gt_policy.specs.declared.rules.AllowRule.{AllowRule}
use Rattle.gt_policy.specs.Kept.{KeptPolicy, some_grants}
use Rattle.gt_policy.proofs.RowLemmas.{row_more, and_none}
use Rattle.gt_policy.proofs.policy.Policy.row.Goals as goal

pub loop-rule-init : goal.loop-rule-init
loop-rule-init c = λ t perm. and_none (is_permission perm) _ (c.empty-row.ensures t perm)

pub loop-rule-preserved : goal.loop-rule-preserved
loop-rule-preserved c = λ t perm.
    row_more c.deref-rule-items.result.now _ c.loop-rule.rule-index c.args.source.0 t perm _ _ c.loop-rule-test.true (c.with-row.ensures t perm) (c.loop-rule.invariant t perm)

pub returns : goal.returns
returns c = fun_ext (λ t. fun_ext (λ perm. c.loop-rule.invariant t perm
    ∙ ap (λ (rs : List AllowRule). is_permission perm && some_grants rs c.args.source.0 t perm)
    (take_all c.loop-rule.rule-index c.deref-rule-items.result.now c.loop-rule-test.false ∙ c.deref-rule-items.ensures.value ∙ ap (λ (k : KeptPolicy). k.rules) c.self.view_is)))
