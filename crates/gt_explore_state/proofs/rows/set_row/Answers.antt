use Rattle.std.proofs.Common.{◌==◌, ◌∙◌, cond, sym, ap}
use Rattle.gt_explore_state.specs.Rows.{value_at}
use Rattle.gt_explore_state.proofs.OwnRows.{replaced}
use Rattle.gt_explore_state.proofs.rows.set_row.Goals as goal

pub returns-in_ok-insert : goal.returns-in_ok-insert
returns-in_ok-insert g c = λ r. let old = c.args.rows.now.items in
    replaced old c.remove.new.rows.items c.insert.new.self.items c.place_of-place.result (record { gref = c.args.gref; value = c.in-Some.value }) c.remove.ensures c.in_ok-insert.ensures.items r
    ∙ ap (λ v. cond (c.args.gref.0 == r) v (value_at old r)) (sym c.in-Some.is)
