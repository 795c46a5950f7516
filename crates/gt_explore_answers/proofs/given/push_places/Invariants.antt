use Rattle.std.proofs.Common.{◌≡◌, ◌++◌, take}
use Rattle.std.specs.List.{flat_map}
use Rattle.gt_explore_answers.specs.Given.{answer_places_of}
use Rattle.gt_explore_answers.proofs.given.push_places.Given as goal

abbrev pub invariant-tasks : goal.invariant-tasks
invariant-tasks l =
    l.places.items ≡ l.initial.places.items ++ flat_map (answer_places_of l.dom) (take l.task-index l.tasks)
