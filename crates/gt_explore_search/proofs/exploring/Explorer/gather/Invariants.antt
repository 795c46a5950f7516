use Rattle.std.proofs.Common.{◌≡◌, List, Some, slice_get}
use Rattle.gt_explore_search.specs.Lists.{HasItsLine}
use Rattle.gt_explore_search.specs.Exploring.{SearchHolds, TurnLeads, VisitHolds}
use Rattle.gt_explore_search.specs.Parts.{by_numbers}
use Rattle.gt_explore_search.specs.declared.exploring.Node.{Node}
use Rattle.gt_explore_search.specs.declared.spaces.Turn.{Turn}
use Rattle.gt_explore_search.proofs.Gathering.{IsGathering, with_suffixes}
use Rattle.gt_explore_search.proofs.exploring.Explorer.gather.Given as goal

abbrev pub invariant-ends : goal.invariant-ends
invariant-ends g l = record {
  gathers : (all : List _) (turn : Turn) (n : Node) → SearchHolds (by_numbers (g.S.TransitionSystem.ways l._space) (g.S.TransitionSystem.parts l._space) all) l.fn.self → VisitHolds (by_numbers (g.S.TransitionSystem.ways l._space) (g.S.TransitionSystem.parts l._space) all) l.fn.self l.fn.visit → HasItsLine l.fn.self.suffixes l.line → TurnLeads (by_numbers (g.S.TransitionSystem.ways l._space) (g.S.TransitionSystem.parts l._space) all) l.fn.self l.fn.visit turn l.node l.line
      → slice_get l.fn.self.nodes.items l.node ≡ Some n → slice_get l.fn.self.sets n.set ≡ Some l.lists
      → IsGathering (by_numbers (g.S.TransitionSystem.ways l._space) (g.S.TransitionSystem.parts l._space) all) l.fn.self l.fn.visit turn l.line l.lists (with_suffixes l.fn.self l.suffixes l.marks) l.visit l.end-index;
}
