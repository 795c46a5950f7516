use Rattle.std.proofs.Common.{◌∙◌, List, ℕ, ap, map, Bor}
use Rattle.gt_explore_witness.proofs.Compared.{carried}
use Rattle.gt_explore_witness.proofs.checked.has_answers.Goals as goal

pub returns : goal.returns
returns c = λ all.
    let v = λ (l : Bor (List ℕ)). l.now in
    carried _ _ _ _ _ _ (c.as_slice-3.ensures.value ∙ c.in_ok-ok.ensures) (ap (map v) c.as_slice.ensures.value ∙ c.in_ok-ours.ensures)
    (ap (map v) c.as_slice-2.ensures.value ∙ c.in_ok-theirs.ensures) (c.goes_on_with.ensures all)
