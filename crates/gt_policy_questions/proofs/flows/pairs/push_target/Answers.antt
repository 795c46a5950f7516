use Rattle.std.proofs.Common.{ap, ◌∙◌, sym}
use Rattle.std.specs.Option.{option_map}
use Rattle.gt_flow.specs.Accesses.{is_among}
use Rattle.gt_policy_questions.proofs.Pairing.{left, with-path, without-path}
use Rattle.gt_policy_questions.proofs.flows.pairs.push_target.Goals as goal

pub returns-then-leaves_out : goal.returns-then-leaves_out
returns-then-leaves_out g c = left c.args.read.now.format (g.P.Allows.may c.args.read.now.policy.now) (is_among c.args.read.now.trusted.now)
    c.args.read.now.statements.now c.args.read.now.members.now c.args.form c.args.source.now.id c.args.target c.args.out.now
    (sym c.leaves_out.ensures ∙ c.if-leaves_out.true)

pub returns-in-Ok-Some : goal.returns-in-Ok-Some
returns-in-Ok-Some g c = with-path c.args.read.now.format (g.P.Allows.may c.args.read.now.policy.now)
    (is_among c.args.read.now.trusted.now) c.args.read.now.statements.now c.args.read.now.members.now c.args.form
    c.args.source.now.id c.args.target _ c.in-Ok-Some.path.items c.as_slice.result.now c.args.out.now c.push_found.new.out
    (sym c.leaves_out.ensures ∙ c.if-leaves_out.false) (c.in-Ok-Some.ensures (g.P.Allows.may c.args.read.now.policy.now) (is_among c.args.read.now.trusted.now) c.args.source.now.id
    c.requires)
    (ap (λ o. option_map (λ p. p.items) o) c.in-Ok-Some.field-0-is) c.as_slice.ensures.value c.push_found.ensures

pub returns-in-Ok-None : goal.returns-in-Ok-None
returns-in-Ok-None g c = without-path c.args.read.now.format (g.P.Allows.may c.args.read.now.policy.now)
    (is_among c.args.read.now.trusted.now) c.args.read.now.statements.now c.args.read.now.members.now c.args.form
    c.args.source.now.id c.args.target _ c.args.out.now c.push_none.new.out
    (sym c.leaves_out.ensures ∙ c.if-leaves_out.false) (c.in-Ok-None.ensures (g.P.Allows.may c.args.read.now.policy.now) (is_among c.args.read.now.trusted.now) c.args.source.now.id
    c.requires)
    (ap (λ o. option_map (λ p. p.items) o) c.in-Ok-None.field-0-is) c.push_none.ensures
