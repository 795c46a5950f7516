use Rattle.std.proofs.Common.{List, ap, ◌∙◌}
use Rattle.std.specs.List.{list_any}
use Rattle.std.proofs.lemmas.List.{take_all}
use Rattle.gt_policy.specs.declared.resolve.DraftRule.{DraftRule}
use Rattle.gt_policy.specs.declared.rules.AllowRule.{AllowRule}
use Rattle.gt_policy.specs.Allowing.{is_granted_by}
use Rattle.gt_policy.specs.Kept.{some_grants}
use Rattle.gt_policy.specs.Members.{has_attribute}
use Rattle.gt_policy.proofs.RuleLemmas.{rule_more}
use Rattle.gt_policy.proofs.rules.Members.rules.Goals as goal

pub loop-draft-init : goal.loop-draft-init
loop-draft-init c = λ s t perm. ap (λ (rs : List AllowRule). some_grants rs s t perm) c.new-rules.ensures.items

pub loop-draft-preserved : goal.loop-draft-preserved
loop-draft-preserved c = λ s t perm.
    rule_more c.loop-draft.rules.items c.push.new.self.items c.rule.result c.args.drafts.now c.draft-item.result c.loop-draft.draft-index (λ draft. is_granted_by (has_attribute c.args.self.now) s t perm draft) s t perm c.loop-draft-test.true
    c.in_ok-push.ensures.items (c.rule.ensures s t perm ∙ ap (λ (x : DraftRule). is_granted_by (has_attribute c.args.self.now) s t perm x) c.draft-item.is) (c.loop-draft.invariant s t perm)

pub returns : goal.returns
returns c = λ s t perm.
    c.loop-draft.invariant s t perm
    ∙ ap (λ (ds : List DraftRule). list_any (λ draft. is_granted_by (has_attribute c.args.self.now) s t perm draft) ds) (take_all c.loop-draft.draft-index c.args.drafts.now c.loop-draft-test.false)
