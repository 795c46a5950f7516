use Rattle.gt_explore_answers.proofs.answering.witness.Goals as goal

pub returns : goal.returns
returns c = (record { text = c.in_ok-order.order.now.text.items; numbered = c.in_ok-order.ensures; gives = c.in_ok-text.ensures }, c.verdict_of_all-verdict.ensures)
