use Rattle.gt_script.specs.RunContents.{run_contents}
use Rattle.gt_explore_answers.specs.Outputs.{found_from}
use Rattle.gt_explore_by_choice.proofs.Answered.{texts_alone, witness_alone}
use Rattle.gt_explore_by_choice.proofs.scripts.script_for.Goals as goal

pub answer_request-requires-clause-texts : goal.answer_request-requires-clause-texts
answer_request-requires-clause-texts c =
    texts_alone (run_contents c.args.script.now) (found_from c.in_ok-one.one) c.args.order.now.text.items c.in_ok-one.ensures.text c.in_ok-one.ensures.whole c.requires.may

pub returns : goal.returns
returns c =
    witness_alone (run_contents c.args.script.now).head (found_from c.in_ok-one.one).texts c.args.order.now.text.items c.in_ok-made.made.text.items c.in_ok-one.ensures.text c.in_ok-made.ensures.0
