use Rattle.gt_explore_by_choice.proofs.answering.witness.Goals as goal

pub returns : goal.returns
returns c = λ source each.
    record { text = c.in_ok-order.order.now.text.items; numbered = c.in_ok-order.ensures; shows = c.in_ok-text.ensures source each; is = c.verdict_of_all-verdict.ensures }
