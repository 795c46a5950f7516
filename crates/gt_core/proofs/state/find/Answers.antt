use Rattle.gt_core.proofs.Words.{◌∙◌}
use Rattle.gt_core.proofs.Placed.{place-by-id}
use Rattle.gt_core.proofs.state.find.Goals as goal

pub returns : goal.returns
returns c = c.position.ensures ∙ place-by-id c.args.domains.now c.args.config.now.domains.items c.args.dom.0 c.requires
