use Rattle.std.proofs.Common.{◌++◌, ◌∷◌, [], All, List, subst, sym}
use Rattle.std.proofs.lemmas.List.Elements.{All-push}
use Rattle.gt_explore_search.specs.Parts.{Pairwise}
use Rattle.gt_explore_search.specs.declared.exploring.FoundText.{FoundText}
use Rattle.gt_script.specs.RunContents.{run_contents}
use Rattle.gt_explore_ordered.specs.Holding.{HoldsAs, IsNotedBy}
use Rattle.gt_explore_ordered.specs.declared.ordered.OrderedText.{OrderedText}
use Rattle.gt_explore_ordered.proofs.Finding.{pairs-push}
use Rattle.gt_explore_ordered.proofs.ordered.ordered_texts.Goals as goal

pub found-preserved : goal.found-preserved
found-preserved c =
    let old = c.found.texts.items in let made = c.in_ok-made.made in record {
      possible = subst (All (HoldsAs (run_contents c.args.script.now) c.args.orders.now)) (sym c.in_ok-push.ensures.items)
          (All-push (HoldsAs (run_contents c.args.script.now) c.args.orders.now) old made c.found.invariant.possible c.in_ok-made.ensures.possible);
      noted = subst (λ (ts : List OrderedText). Pairwise (λ (o : FoundText) (t : OrderedText). IsNotedBy o.text.items t) (c.found.yielded ++ c.in-Some.order ∷ []) ts) (sym c.in_ok-push.ensures.items)
          (pairs-push (λ (o : FoundText) (t : OrderedText). IsNotedBy o.text.items t) c.found.yielded old c.in-Some.order made c.found.invariant.noted c.in_ok-made.ensures.noted);
    }
