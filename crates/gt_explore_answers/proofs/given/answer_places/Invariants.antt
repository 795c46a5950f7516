use Rattle.std.proofs.Common.{◌≡◌, take}
use Rattle.std.specs.List.{flat_map}
use Rattle.gt_explore_answers.specs.Given.{answer_places_of}
use Rattle.gt_explore_answers.proofs.given.answer_places.Given as goal

abbrev pub invariant-domains : goal.invariant-domains
invariant-domains l =
    l.places.items
    ≡ flat_map (λ d. flat_map (answer_places_of d.id) l.script.tasks) (take l.domain-index l.script.head.domains)
