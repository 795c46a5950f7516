use Rattle.std.proofs.Common.{◌∙◌, sym}
use Rattle.gt_explore_state.proofs.Kept.{kept-there, kept-nowhere, others}
use Rattle.gt_explore_state.proofs.pages.kept.Goals as goal

pub returns-in-Some : goal.returns-in-Some
returns-in-Some c = c.as_slice.ensures.value ∙ sym (kept-there c.args.pages.now c.args.owner.0 c.args.frame c.in-Some.at c.index-pages-at.result (sym c.place_in.ensures ∙ c.in-Some.is))

pub returns-in-None : goal.returns-in-None
returns-in-None c = sym (kept-nowhere c.args.pages.now c.args.owner.0 c.args.frame (others c.args.pages.now c.args.owner.0 c.args.frame (sym c.place_in.ensures ∙ c.in-None.is)))
