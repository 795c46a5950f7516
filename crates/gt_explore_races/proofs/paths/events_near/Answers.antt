use Rattle.std.proofs.Common.{◌∙◌, ◌++◌, ◌∷◌, [], List, ap, rules}
use Rattle.std.specs.Prelude.{IsTrue}
use Rattle.gt_script.specs.RunContents.{run_contents}
use Rattle.gt_explore_races.specs.declared.events.EventKind.{EventKind}
use Rattle.gt_explore_races.specs.declared.events.EventKind.TheVariants as event_kinds
use Rattle.gt_explore_races.proofs.Remade.{leads-to}
use Rattle.gt_explore_races.proofs.paths.events_near.Goals as goal

pub returns : goal.returns
returns c = λ at.
    let d = run_contents c.args.script.now in
    let first : IsTrue c.in_ok-has_line.field-0 = search rules in
    let second : IsTrue c.in_ok-has_line-2.field-0 = search rules in
    let races : IsTrue c.in_ok-races.field-0 = search rules in
    let one : IsTrue c.in_ok-push_access.field-0 = search rules in
    let other : IsTrue c.in_ok-push_access-2.field-0 = search rules in
    let next = c.in_ok-races.ensures d at.happened at.walked races in
    leads-to d c.args.race c.args.first c.args.second c.args.near c.requires at next (c.in_ok-has_line.ensures first) (c.in_ok-has_line-2.ensures second) c.push_access-2.new.events.items
    (c.in_ok-push_access-2.ensures next.domain_next next.there_next other ∙ ap (λ (l : List EventKind). l ++ event_kinds.Tick next.domain_next.id ∷ []) (c.in_ok-push_access.ensures next.domain next.there one))
