use Rattle.std.proofs.Common.{◌∙◌, ap}
use Rattle.std.specs.Prelude.{◌&&◌, not}
use Rattle.gt_policy.specs.Allowing.{is_with, is_without}
use Rattle.gt_policy.specs.Members.{has_attribute}
use Rattle.gt_policy.specs.TypeSets.{holds}
use Rattle.gt_policy.proofs.RuleLemmas.{or_more, set_end}
use Rattle.gt_policy.proofs.rules.Members.types_of.Goals as goal

pub loop-element-preserved : goal.loop-element-preserved
loop-element-preserved c = (
  λ n. or_more (λ e. is_with (has_attribute c.args.self.now) e n) c.args.set.now c.loop-element.element-index _ _ _ _ c.loop-element-test.true (c.union-with.ensures n) (c.loop-element.invariant.0 n) (c.included.ensures n),
  λ n. or_more (λ e. is_without (has_attribute c.args.self.now) e n) c.args.set.now c.loop-element.element-index _ _ _ _ c.loop-element-test.true (c.union-without.ensures n) (c.loop-element.invariant.1 n) (c.excluded.ensures n),
)

pub returns : goal.returns
returns c = λ n. c.without.ensures n ∙ ap (λ b. b && not (holds c.loop-element.without n)) (c.loop-element.invariant.0 n)
    ∙ set_end (λ e. is_with (has_attribute c.args.self.now) e n) (λ e. is_without (has_attribute c.args.self.now) e n) c.args.set.now c.loop-element.element-index _ c.loop-element-test.false (c.loop-element.invariant.1 n)
