use Rattle.std.proofs.Common.{◌∙◌}
use Rattle.gt_policy_statements.specs.Texts.{held_text}
use Rattle.gt_policy_statements.proofs.GrantLemmas.{appended-more}
use Rattle.gt_policy_statements.proofs.texts.push_all_held.Goals as goal

pub members-preserved : goal.members-preserved
members-preserved c = c.in_ok-push_held.ensures
    ∙ appended-more (held_text c.args.items.now) c.args.members.now c.members.member-index c.member-item.result c.push_text.new.out.items c.members.out.items c.members-test.true c.member-item.is c.members.invariant
