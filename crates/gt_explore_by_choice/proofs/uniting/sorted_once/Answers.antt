use Rattle.std.proofs.Common.{◌∙◌, List, ap, slice_get, subst, suc}
use Rattle.gt_explore.proofs.Added.{IsThere, texts_hold, there_more}
use Rattle.gt_explore_answers.specs.Texts.{IsTextAmong, texts_of_orders}
use Rattle.gt_explore_search.specs.declared.exploring.FoundText.{FoundText}
use Rattle.gt_explore_by_choice.proofs.United.{text_among}
use Rattle.gt_explore_by_choice.proofs.uniting.sorted_once.Goals as goal

pub orders-preserved : goal.orders-preserved
orders-preserved c =
    let p = c.in-Some.order in
    let old = c.orders.texts.items in
    let new = c.add_order.new.texts.items in
    let all = c.args.orders.items in
    let rest = c.next.new.self.rest.items in
    let step = c.in-Some.ensures.steps.0 in
    let here = c.orders.invariant.rest 0 p (ap (λ (l : List FoundText). slice_get l 0) step) in record {
      among = texts_hold (λ t. IsTextAmong t (texts_of_orders all)) old p new c.orders.invariant.among (text_among all here.0 p here.1) c.in_ok-add_order.ensures.added;
      rest = λ j o is. c.orders.invariant.rest (suc j) o (ap (λ (l : List FoundText). slice_get l (suc j)) step ∙ is);
      whole = λ at o is. there_more old new p rest o c.in_ok-add_order.ensures (subst (λ (l : List FoundText). IsThere o old l) step (c.orders.invariant.whole at o is));
      ascending = c.in_ok-add_order.ensures.ascending c.orders.invariant.ascending;
    }
