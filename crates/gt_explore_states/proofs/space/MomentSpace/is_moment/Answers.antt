use Rattle.std.proofs.Common.{List, subst, sym}
use Rattle.gt_core.specs.Shown.{shown_at}
use Rattle.gt_explore_replay.specs.Abreast.{history_in}
use Rattle.gt_explore_state.specs.Shows.{TablesShow}
use Rattle.gt_explore_state.specs.declared.table.SparseTable.{SparseTable}
use Rattle.gt_script_runs.specs.Playing.{setting_of_script}
use Rattle.gt_explore_states.proofs.space.MomentSpace.is_moment.Goals as goal

pub returns : goal.returns
returns c = λ p shows.
    let s = setting_of_script p.script.head in let h = history_in p.happened in
    c.holds.ensures (shown_at s h) (λ dom r v is. is s h shows.0.setting (subst (λ (ts : List SparseTable). TablesShow s h ts) (sym c.as_slice.ensures.value) shows.1.tables))
