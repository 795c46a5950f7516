use Rattle.std.proofs.Common.{take}
use Rattle.gt_explore_search.specs.Parts.{RepeatsPart, Pairwise}
use Rattle.gt_explore_search.proofs.parts.PartIndex.copies.Given as goal

abbrev pub invariant-numbers : goal.invariant-numbers
invariant-numbers g l = Pairwise (RepeatsPart (g.S.TransitionSystem.parts l.space) l.self.kept.items) (take l.number-index l.numbers) l.made.items
