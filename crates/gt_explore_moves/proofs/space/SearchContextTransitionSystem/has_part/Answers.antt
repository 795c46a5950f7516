use Rattle.std.proofs.Common.{sym, ◌∙◌, ap}
use Rattle.std.specs.Option.{option_map}
use Rattle.gt_explore_moves.specs.Parts.{part_shown}
use Rattle.gt_explore_moves.proofs.space.SearchContextTransitionSystem.has_part.Goals as goal

pub returns-in-Some : goal.returns-in-Some
returns-in-Some c = λ yes. (part_shown c.in-Some.one, sym c.part_at.ensures ∙ ap (option_map part_shown) c.in-Some.is, c.same_parts.ensures yes)
