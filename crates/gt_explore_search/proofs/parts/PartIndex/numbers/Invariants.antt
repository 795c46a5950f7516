use Rattle.std.proofs.Common.{take}
use Rattle.gt_explore_search.specs.Parts.{Extends, HasNumber, Pairwise}
use Rattle.gt_explore_search.proofs.parts.PartIndex.numbers.Given as goal

abbrev pub invariant-parts : goal.invariant-parts
invariant-parts g l = record {
  numbers : Pairwise (HasNumber (g.S.TransitionSystem.parts l.space) l.self.kept.items) (take l.at ((g.S.TransitionSystem.parts l.space).of l.state)) l.numbers.items;
  grows : Extends l.fn.self.kept.items l.self.kept.items;
}
