use Rattle.gt_explore_witness.proofs.Compared.{gives}
use Rattle.gt_explore_witness.proofs.checked.gives_answers.Goals as goal

pub returns : goal.returns
returns c = λ same.
    gives c.args.domains.now c.args.script.now c.args.text.now c.in_ok-out.out.items c.as_slice.result.now c.in_ok-out.ensures c.as_slice.ensures.value
    (c.in_ok-have_answers.ensures same)
