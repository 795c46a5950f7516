use Rattle.std.proofs.Common.{◌≡◌, ◌∙◌, ◌+◌, ◌-◌, ◌++◌, ap, List, ℕ, length, replicate, arith, rules}
use Rattle.std.proofs.lemmas.Grind.{common_steps}
use Rattle.gt_model.specs.Written.{overlay}
use Rattle.gt_explore_state.specs.Pages.{padded}
use Rattle.gt_explore_state.proofs.Padding.{laid-padded}
use Rattle.gt_explore_state.proofs.pages.lay.Goals as goal

pub returns : goal.returns
returns c = λ fits.
    let longer : c.lengthen.new.list.items ≡ c.args.held.now.items ++ replicate (c.args.off + length c.args.bytes.now - length c.args.held.now.items) 0 = first_of (search rules, grind (arith, common_steps)) in
    ap padded c.cover.ensures ∙ ap (λ (l : List ℕ). padded (overlay l c.args.off c.args.bytes.now)) longer ∙ laid-padded c.args.held.now.items c.args.off c.args.bytes.now fits
