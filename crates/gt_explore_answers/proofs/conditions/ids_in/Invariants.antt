use Rattle.std.proofs.Common.{◌≡◌, map, take}
use Rattle.gt_explore_answers.proofs.conditions.ids_in.Given as goal

abbrev pub invariant-domains : goal.invariant-domains
invariant-domains l = l.ids.items ≡ map (λ d. d.id) (take l.domain-index l.domains)
