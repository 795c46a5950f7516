use Rattle.std.proofs.Common.{◌≡◌, false, List, subst}
use Rattle.gt_types.specs.Names.{is_permission}
use Rattle.gt_policy.specs.Rows.{Lane, lanes_reach, lanes}
use Rattle.gt_policy.proofs.RowLemmas.{no_lane}
use Rattle.gt_policy.proofs.row.TypeRow.answers_one_permission.Goals as goal

pub returns : goal.returns
unfolding is_permission
returns c = λ t perm e.
    let kept : List Lane = lanes c.self.inside.map_read c.self.inside.map_write c.self.inside.unmap c.self.inside.transfer c.self.inside.setup c.self.inside.copy c.self.inside.query in
    subst (λ (ls : List Lane). lanes_reach ls t perm ≡ false) c.self.view_is (no_lane kept t perm e)
