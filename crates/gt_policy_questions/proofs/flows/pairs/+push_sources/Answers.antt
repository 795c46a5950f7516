use Rattle.std.proofs.Common.{◌∙◌}
use Rattle.gt_flow.specs.Accesses.{is_among}
use Rattle.gt_policy_questions.proofs.Pairing.{first-has, no-sources, one-source, other-has}
use Rattle.gt_policy_questions.proofs.flows.pairs.+push_sources.Goals.{then-first, else-first}
use Rattle.gt_policy_questions.proofs.flows.pairs.+push_sources.Goals as goal

pub returns-in-empty : goal.returns-in-empty
returns-in-empty g t c = no-sources c.args.read.now.format (g.P.Allows.may c.args.read.now.policy.now) (is_among c.args.read.now.trusted.now)
    c.args.read.now.statements.now c.args.read.now.members.now c.args.form c.args.sources.now c.args.targets.now
    c.args.out.now c.in-empty.len_below

pub returns-after-first : goal.returns-after-first
returns-after-first g t c = one-source c.args.read.now.format (g.P.Allows.may c.args.read.now.policy.now) (is_among c.args.read.now.trusted.now)
    c.args.read.now.statements.now c.args.read.now.members.now c.args.form c.args.sources.now c.args.targets.now _
    c.args.out.now c.push_targets-first.new.out c.push_sources-others.new.out _ _ _ c.in-len1-up.len_at_least
    c.push_targets-first.ensures c.push_sources-others.ensures
    (elim c.if-first.branch [
      | then-first w ↦ w.result-is ∙ first-has _ _ w.if-first.true
      | else-first w ↦ w.result-is ∙ other-has _ _ w.if-first.false
    ])
