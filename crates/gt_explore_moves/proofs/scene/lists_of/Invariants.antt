use Rattle.std.proofs.Common.{◌≡◌, map, take}
use Rattle.gt_script.specs.RunScripts.{list_of}
use Rattle.gt_explore_moves.proofs.scene.lists_of.Given as goal

abbrev pub invariant-domains : goal.invariant-domains
invariant-domains l =
    map (λ list. map (λ t. t.now) list.items) l.lists.items ≡ map (λ d. list_of l.script.tasks d.id) (take l.domain-index l.domains)
