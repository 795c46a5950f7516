use Rattle.std.proofs.Common.{◌∙◌, ◌++◌, ℕ, List, ap, subst, sym}
use Rattle.gt_script.specs.RunContents.{run_contents}
use Rattle.gt_explore_answers.specs.Exploring.{AreWitnessOutputs}
use Rattle.gt_explore_answers.specs.Outputs.{found_from}
use Rattle.gt_explore_answers.proofs.answering.witnesses.Goals as goal

pub returns : goal.returns
returns c =
    let f = found_from c.args.found.now in
    let w = c.in_ok-push_witnesses.ensures in
    (subst (λ (t : List ℕ). AreWitnessOutputs (run_contents c.args.script.now) f 0 f.texts t) (sym (w.1 ∙ ap (λ (l : List ℕ). l ++ w.0) c.new-text.ensures.items)) w.2, c.verdict_of_all-verdict.ensures)
