use Rattle.std.proofs.Common.{sym, ◌∙◌, ap}
use Rattle.std.specs.Option.{option_map}
use Rattle.gt_explore_moves.specs.Parts.{part_shown, parts_of}
use Rattle.gt_explore_moves.proofs.Joining.{past-none}
use Rattle.gt_explore_moves.proofs.space.SearchContextTransitionSystem.is_past.Goals as goal

pub returns-in-None : goal.returns-in-None
returns-in-None c = λ yes. past-none (parts_of c.args.state.now) c.args.at (sym c.part_at.ensures ∙ ap (option_map part_shown) c.in-None.is)
