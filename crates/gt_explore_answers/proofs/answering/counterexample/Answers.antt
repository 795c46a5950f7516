use Rattle.std.proofs.Common.{◌≡◌, ◌+◌, arith}
use Rattle.gt_script.specs.RunContents.{run_contents}
use Rattle.gt_explore_answers.proofs.Answered.{shows_text}
use Rattle.gt_explore_answers.proofs.answering.counterexample.Goals as goal

pub returns : goal.returns
returns c =
    let many : c.in-Some-checked_add.number ≡ c.args.at + 1 = let e = c.in-Some-checked_add.ensures in omega (arith, e) in
    shows_text (run_contents c.args.script.now) c.args.found.now c.args.at c.in-Some-checked_add.number c.in-Some.order.now c.push_counterexample.new.out.items c.script_after.result many
    (rw c.as_slice.ensures.value at c.in-Some.ensures) (rw (c.new-comment.ensures.items, c.as_slice-2.ensures.value) at c.in_ok-push_counterexample.ensures)
    (rw c.as_slice-3.ensures.value at c.script_after.ensures)
