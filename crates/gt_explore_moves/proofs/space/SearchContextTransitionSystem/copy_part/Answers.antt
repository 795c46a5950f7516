use Rattle.std.proofs.Common.{sym, ◌∙◌, ap}
use Rattle.std.specs.Option.{option_map}
use Rattle.gt_explore_moves.specs.Parts.{part_shown}
use Rattle.gt_explore_moves.proofs.space.SearchContextTransitionSystem.copy_part.Goals as goal

pub returns-in_ok-copy-in-Some : goal.returns-in_ok-copy-in-Some
returns-in_ok-copy-in-Some c = (part_shown c.in-Some.part, sym c.part_at.ensures ∙ ap (option_map part_shown) c.in-Some.is, c.in_ok-copy-in-Some.ensures)
