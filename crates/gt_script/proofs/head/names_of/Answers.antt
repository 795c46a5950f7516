use Rattle.std.proofs.Common.{Some, ap, ◌∙◌}
use Rattle.gt_script.proofs.FaultLemmas.{name_more}
use Rattle.gt_script.proofs.head.names_of.Goals as goal

pub types-preserved : goal.types-preserved
types-preserved c =
    name_more c.args.policy.now.types _ _ c.types.id c.new.result c.types.invariant (ap Some (c.new.ensures ∙ c.as_bytes.ensures.value) ∙ c.in-Some.ensures) c.in_ok-push.ensures.items
