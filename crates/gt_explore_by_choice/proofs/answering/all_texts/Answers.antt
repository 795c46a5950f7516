use Rattle.std.proofs.Common.{◌≡◌, ◌∙◌, [], Bool, List, ap}
use Rattle.gt_explore_answers.specs.Exploring.{satisfied}
use Rattle.gt_explore_answers.specs.Outputs.{found_from, texts_output}
use Rattle.gt_explore_by_choice.proofs.answering.all_texts.Goals as goal

pub returns : goal.returns
returns c =
    let f = found_from c.args.found.now in
    let met : c.in_ok-met.met.items ≡ satisfied [] f = rw c.as_slice.ensures.value at c.in_ok-met.ensures in
    (c.in_ok-text.ensures ∙ ap (λ (m : List Bool). texts_output f m) (c.as_slice-2.ensures.value ∙ met), c.verdict_of_all-verdict.ensures)
