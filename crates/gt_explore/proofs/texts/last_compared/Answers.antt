use Rattle.std.proofs.Common.{◌≡◌, ◌∙◌, ◌+◌, ℕ, List, ap, arith, length, sym}
use Rattle.gt_explore_search.specs.declared.exploring.FoundText.{FoundText}
use Rattle.gt_explore_answers.specs.Texts.{compared}
use Rattle.gt_explore.proofs.Added.{compared_last}
use Rattle.gt_explore.proofs.texts.last_compared.Goals as goal

pub returns-in-Some : goal.returns-in-Some
returns-in-Some c =
    let many : length c.args.texts.now ≡ c.in-Some.at + 1 = let e = c.in-Some.ensures in omega (arith, e) in
    c.cmp.ensures
    ∙ ap (λ (l : List ℕ). compared l c.args.text.now) (c.as_slice.ensures.value ∙ ap (λ (q : FoundText). q.text.items) (sym c.index-texts-at.is))
    ∙ compared_last c.args.texts.now c.in-Some.at c.index-texts-at.result c.args.text.now many c.index-texts-at.is
