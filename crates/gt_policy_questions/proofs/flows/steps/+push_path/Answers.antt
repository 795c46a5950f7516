use Rattle.gt_flow.specs.Accesses.{is_among}
use Rattle.gt_policy_questions.proofs.Pairing.{path-more}
use Rattle.gt_policy_questions.proofs.flows.steps.+push_path.Goals as goal

pub returns-in-len1-up : goal.returns-in-len1-up
returns-in-len1-up g t c = path-more c.args.read.now.format (g.P.Allows.may c.args.read.now.policy.now)
    (is_among c.args.read.now.trusted.now) c.args.read.now.statements.now c.args.read.now.members.now c.args.from
    c.args.path.now _ _ _ _ c.in-len1-up.len_at_least c.push_step.ensures c.push_path.ensures
