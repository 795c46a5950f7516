use Rattle.std.proofs.Common.{◌≡◌, ◌∙◌, ap, subst, List, ℕ, take, drop}
use Rattle.std.specs.Prelude.{IfOk}
use Rattle.gt_explore_state.specs.Pages.{page_contents}
use Rattle.gt_explore_state.specs.declared.pages.SparsePage.{SparsePage}
use Rattle.gt_explore_state.proofs.ground.SparseState.read.Goals as goal

pub returns : goal.returns
returns c = λ h shows fits.
    subst (λ (l : List ℕ). IfOk c.read.result (λ v. v.items ≡ take c.args.len (drop c.args.off l)))
    (ap (λ (ps : List SparsePage). page_contents ps c.args.owner.0 c.args.frame) c.as_slice.ensures.value ∙ shows c.args.owner.0 c.args.frame) (c.read.ensures fits)
