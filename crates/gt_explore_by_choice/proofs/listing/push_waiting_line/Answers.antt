use Rattle.std.proofs.Common.{codes, decimal}
use Rattle.gt_explore_answers.proofs.Shown.{three_joined}
use Rattle.gt_explore_by_choice.specs.Answering.{waiting_comment}
use Rattle.gt_explore_by_choice.proofs.listing.push_waiting_line.Goals as goal

pub returns : goal.returns
unfolding waiting_comment
returns c =
    three_joined c.push_text-2.result c.args.out.now.items (codes "# choices in which a domain waits for ever: ") (decimal c.args.waiting) (codes "\n") _ _ _
    c.in_ok-push_text.ensures.ok c.in_ok-push_number.ensures.text c.push_text-2.ensures.ok
