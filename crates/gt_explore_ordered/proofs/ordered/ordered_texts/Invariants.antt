use Rattle.std.proofs.Common.{All}
use Rattle.gt_explore_search.specs.Parts.{Pairwise}
use Rattle.gt_script.specs.RunContents.{run_contents}
use Rattle.gt_explore_ordered.specs.Holding.{HoldsAs, IsNotedBy}
use Rattle.gt_explore_ordered.proofs.ordered.ordered_texts.Given as goal

-- the texts so far are those of the orders so far
abbrev pub invariant-found : goal.invariant-found
invariant-found l = record {
  possible : All (HoldsAs (run_contents l.script) l.orders) l.texts.items;
  noted : Pairwise (λ o t. IsNotedBy o.text.items t) l.yielded l.texts.items;
}
