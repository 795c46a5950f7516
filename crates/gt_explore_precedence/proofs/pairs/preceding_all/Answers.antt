use Rattle.std.proofs.Common.{◌∙◌, ap, sym}
use Rattle.gt_script.specs.Preceding.{preceding}
use Rattle.gt_script.specs.RunContents.{run_contents}
use Rattle.gt_explore_precedence.proofs.PairLemmas.{one-more}
use Rattle.gt_explore_precedence.proofs.pairs.preceding_all.Goals as goal

pub pairs-preserved : goal.pairs-preserved
pairs-preserved c = (
  c.in_ok-made.ensures.contents ∙ ap (preceding c.in-Some.pair) c.pairs.invariant.0 ∙ sym (one-more c.pairs.yielded c.in-Some.pair (run_contents c.args.script)),
  c.in_ok-made.ensures.head ∙ c.pairs.invariant.1,
  λ h. c.in_ok-made.ensures.numbered (c.pairs.invariant.2 h),
)
