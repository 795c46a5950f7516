use Rattle.std.proofs.Common.{ℕ, List, subst}
use Rattle.gt_explore_answers.specs.Texts.{IsTextAmong, texts_of_orders}
use Rattle.gt_explore.proofs.Added.{ascending_apart, moved}
use Rattle.gt_explore.proofs.texts.texts_within.Goals as goal

pub returns : goal.returns
returns g c = record {
  possible = c.in_ok-texts.ensures.possible;
  whole = λ whole text may.
      let o = c.in_ok-partial.ensures c.requires.numbered whole text may in
      let m = moved c.in_ok-partial.partial.found.orders.items c.in_ok-orders.orders.items o.0 o.1 c.in_ok-orders.ensures o.2 in
      subst (λ (t : List ℕ). IsTextAmong t (texts_of_orders c.in_ok-texts.texts.items)) o.3 (c.in_ok-texts.ensures.whole m.0 o.1 m.1);
  apart = ascending_apart (texts_of_orders c.in_ok-texts.texts.items) c.in_ok-texts.ensures.ascending;
  ascending = c.in_ok-texts.ensures.ascending;
}
