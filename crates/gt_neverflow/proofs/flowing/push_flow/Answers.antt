use Rattle.std.proofs.Common.{◌++◌, refl, sym, ap, ◌∙◌}
use Rattle.std.specs.Option.{option_map}
use Rattle.gt_neverflow.specs.Flowing.{flow_to, names_on, nobody}
use Rattle.gt_neverflow.proofs.FlowingLemmas.{has-path, no-path, not-forbidden}
use Rattle.gt_neverflow.proofs.flowing.push_flow.Goals as goal

pub returns-then-not-flow_to : goal.returns-then-not-flow_to
returns-then-not-flow_to g c = not-forbidden (g.P.Allows.may c.args.source.now.policy.now) c.args.source.now.members.now
    c.args.never.now c.args.source.now.id c.args.target
    (flow_to c.args.source.now.members.now c.args.source.now.id c.args.never.now c.args.target) c.args.found.now.items
    (sym c.flow_to.ensures ∙ c.if-not-flow_to.true)

pub returns-in_default : goal.returns-in_default
returns-in_default g c = no-path (g.P.Allows.may c.args.source.now.policy.now) c.args.source.now.members.now
    c.args.never.now c.args.source.now.id c.args.target
    (flow_to c.args.source.now.members.now c.args.source.now.id c.args.never.now c.args.target) _ c.args.found.now.items
    (sym c.flow_to.ensures ∙ c.if-not-flow_to.false)
    (c.in_ok-path.ensures (g.P.Allows.may c.args.source.now.policy.now) nobody c.args.source.now.id c.requires)
    (ap (λ o. option_map (λ p. p.items) o) c.in_default.is)

pub returns : goal.returns
returns g c =
    let names = c.in_ok-push_names.ensures
    ∙ ap (λ l. l ++ names_on c.args.source.now.members.now c.args.source.now.id c.as_slice.result.now)
    c.new-names.ensures.items in
    has-path (g.P.Allows.may c.args.source.now.policy.now) c.args.source.now.members.now c.args.never.now
    c.args.source.now.id c.args.target
    (flow_to c.args.source.now.members.now c.args.source.now.id c.args.never.now c.args.target) _ c.in-Some.path.items
    c.as_slice.result.now _ c.args.found.now.items _
    (sym c.flow_to.ensures ∙ c.if-not-flow_to.false)
    (c.in_ok-path.ensures (g.P.Allows.may c.args.source.now.policy.now) nobody c.args.source.now.id c.requires)
    (ap (λ o. option_map (λ p. p.items) o) c.in-Some.is) c.as_slice.ensures.value refl names c.in_ok-push.ensures.items
