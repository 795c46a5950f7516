use Rattle.std.proofs.Common.{◌∙◌, ap, Some}
use Rattle.gt_flow.specs.Accesses.{is_among}
use Rattle.gt_policy_questions.proofs.Lined.{copy-line, load-line, no-access-line, stepped, store-line}
use Rattle.gt_policy_questions.proofs.flows.steps.push_step.Goals as goal

pub returns-in-Some-Load : goal.returns-in-Some-Load
returns-in-Some-Load g c = stepped c.args.read.now.format (g.P.Allows.may c.args.read.now.policy.now)
    (is_among c.args.read.now.trusted.now) c.args.read.now.statements.now c.args.read.now.members.now c.args.x c.args.y
    c.is_among.result c.access_between.result _ _ c.args.out.now c.push_parts.new.out c.access_between.ensures c.is_among.ensures
    (c.in-Some-Load.is ∙ ap (λ a. Some a) c.in-Some-Load.field-0-is)
    (load-line c.args.read.now.format c.args.read.now.statements.now c.args.read.now.members.now c.args.x c.args.y)
    c.push_parts.ensures

pub returns-in-Some-Copy : goal.returns-in-Some-Copy
returns-in-Some-Copy g c = stepped c.args.read.now.format (g.P.Allows.may c.args.read.now.policy.now)
    (is_among c.args.read.now.trusted.now) c.args.read.now.statements.now c.args.read.now.members.now c.args.x c.args.y
    c.is_among.result c.access_between.result _ _ c.args.out.now c.push_parts-in-Some-Copy.new.out c.access_between.ensures c.is_among.ensures
    (c.in-Some-Copy.is ∙ ap (λ a. Some a) c.in-Some-Copy.field-0-is)
    (copy-line c.args.read.now.format c.args.read.now.statements.now c.args.read.now.members.now c.args.x c.args.y)
    c.push_parts-in-Some-Copy.ensures

pub returns-in-Some-Store : goal.returns-in-Some-Store
returns-in-Some-Store g c = stepped c.args.read.now.format (g.P.Allows.may c.args.read.now.policy.now)
    (is_among c.args.read.now.trusted.now) c.args.read.now.statements.now c.args.read.now.members.now c.args.x c.args.y
    c.is_among.result c.access_between.result _ _ c.args.out.now c.push_parts-in-Some-Store.new.out c.access_between.ensures c.is_among.ensures
    (c.in-Some-Store.is ∙ ap (λ a. Some a) c.in-Some-Store.field-0-is)
    (store-line c.args.read.now.format c.args.read.now.statements.now c.args.read.now.members.now c.args.x c.args.y)
    c.push_parts-in-Some-Store.ensures

pub returns-in-None : goal.returns-in-None
returns-in-None g c = stepped c.args.read.now.format (g.P.Allows.may c.args.read.now.policy.now)
    (is_among c.args.read.now.trusted.now) c.args.read.now.statements.now c.args.read.now.members.now c.args.x c.args.y
    c.is_among.result c.access_between.result _ _ c.args.out.now c.push_parts-in-None.new.out c.access_between.ensures c.is_among.ensures
    c.in-None.is
    (no-access-line c.args.read.now.format c.args.read.now.statements.now c.args.read.now.members.now c.args.x c.args.y)
    c.push_parts-in-None.ensures
