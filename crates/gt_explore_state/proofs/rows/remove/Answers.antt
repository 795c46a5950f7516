use Rattle.std.proofs.Common.{◌==◌, ◌∙◌, ap, not, rules}
use Rattle.std.proofs.lemmas.Fn.{filter_same}
use Rattle.gt_explore_state.specs.Rows.{value_at}
use Rattle.gt_explore_state.proofs.OwnRows.{but-one}
use Rattle.gt_explore_state.proofs.rows.remove.Goals as goal

pub returns : goal.returns
returns g c = λ r. ap (λ l. value_at l r) (filter_same _ (λ x. not (x.gref.0 == c.args.gref.0)) _ (λ x b f' k. search rules) _ _ c.retain.ensures.filtered)
    ∙ but-one c.args.rows.now.items c.args.gref.0 r
