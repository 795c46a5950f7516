use Rattle.std.proofs.Common.{◌≡◌, ◌++◌, map}
use Rattle.std.specs.List.{flat_map}
use Rattle.gt_explore_choices.specs.Choosing.{open_seen, widened}
use Rattle.gt_explore_choices.specs.Kinds.{kind_seen}
use Rattle.gt_explore_choices.proofs.choosing.widened.Given as goal

-- what the choices so far become, and then what those become that are left
abbrev pub invariant-choices : goal.invariant-choices
invariant-choices l =
    map open_seen l.begun.items ++ flat_map (widened (kind_seen l.kind)) (map open_seen l.choice-iterator.rest.items)
    ≡ flat_map (widened (kind_seen l.kind)) (map open_seen l.fn.choices.items)
