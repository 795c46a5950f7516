use Rattle.std.proofs.Common.{◌∷◌, ◌∙◌, List, ap, subst, sym}
use Rattle.gt_script.specs.RunContents.{run_contents}
use Rattle.gt_explore_replay.specs.Orders.{MayGive}
use Rattle.gt_explore_search.specs.declared.exploring.FoundText.{FoundText}
use Rattle.gt_explore.proofs.Added.{IsThere, texts_hold, there_more}
use Rattle.gt_explore.proofs.texts.distinct.Goals as goal

pub orders-preserved : goal.orders-preserved
orders-preserved c =
    let p = c.in_ok-replayed.field-0 in let old = c.orders.texts.items in let new = c.add_order.new.texts.items in record {
      possible = texts_hold (MayGive (run_contents c.args.script.now)) old p new c.orders.invariant.possible c.in_ok-replayed.ensures.possible c.in_ok-add_order.ensures.added;
      whole = λ at o is.
          there_more old new p c.next.new.self.rest.items o c.in_ok-add_order.ensures
          (subst (λ (l : List FoundText). IsThere o old l) (c.in-Some.ensures.steps.0 ∙ ap (λ (q : FoundText). q ∷ c.next.new.self.rest.items) (sym c.in_ok-replayed.ensures.same)) (c.orders.invariant.whole at o is));
      ascending = c.in_ok-add_order.ensures.ascending c.orders.invariant.ascending;
    }
