use Rattle.gt_flow.specs.Accesses.{is_among}
use Rattle.gt_policy_questions.proofs.Pairing.{first-has, no-targets, one-target, other-has}
use Rattle.gt_policy_questions.proofs.flows.pairs.+push_targets.Goals as goal

pub returns-in-empty : goal.returns-in-empty
returns-in-empty g t c = no-targets c.args.read.now.format (g.P.Allows.may c.args.read.now.policy.now) (is_among c.args.read.now.trusted.now)
    c.args.read.now.statements.now c.args.read.now.members.now c.args.form c.args.source.now.id c.args.targets.now
    c.args.out.now c.in-empty.len_below

pub returns-then-first : goal.returns-then-first
returns-then-first g t c = one-target c.args.read.now.format (g.P.Allows.may c.args.read.now.policy.now) (is_among c.args.read.now.trusted.now)
    c.args.read.now.statements.now c.args.read.now.members.now c.args.form c.args.source.now.id c.args.targets.now _
    c.args.out.now c.push_target-first.new.out c.push_targets-others.new.out _ _ _ c.in-len1-up.len_at_least
    c.push_target-first.ensures c.push_targets-others.ensures (first-has _ _ c.if-first.true)

pub returns-else-first : goal.returns-else-first
returns-else-first g t c = one-target c.args.read.now.format (g.P.Allows.may c.args.read.now.policy.now) (is_among c.args.read.now.trusted.now)
    c.args.read.now.statements.now c.args.read.now.members.now c.args.form c.args.source.now.id c.args.targets.now _
    c.args.out.now c.push_target-first.new.out c.push_targets-others.new.out _ _ _ c.in-len1-up.len_at_least
    c.push_target-first.ensures c.push_targets-others.ensures (other-has _ _ c.if-first.false)
