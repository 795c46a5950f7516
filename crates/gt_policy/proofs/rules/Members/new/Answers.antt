use Rattle.std.proofs.Common.{refl, arith, ◌∙◌, length-set}
use Rattle.gt_policy.specs.declared.resolve.TypeAttribute.{TypeAttribute}
use Rattle.gt_policy.proofs.RuleLemmas.{gives_more, gives_none}
use Rattle.gt_policy.proofs.rules.Members.new.Goals as goal

pub loop-g-init : goal.loop-g-init
loop-g-init c = (refl, gives_none 256 c.empty-sets.result c.empty-sets.ensures)

pub loop-g-preserved : goal.loop-g-preserved
loop-g-preserved c =
    let none : TypeAttribute = record { to = 0; attribute = 0 } in
    let kept = length-set c.loop-g.sets _ c.with.result in
    (kept ∙ c.loop-g.invariant.0, gives_more c.args.given.now c.loop-g.g-index none c.loop-g.sets c.with.result (omega arith) (omega arith) c.loop-g.invariant.1 c.with.ensures)
