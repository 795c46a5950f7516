use Rattle.std.proofs.Common.{◌∙◌, ap, List}
use Rattle.gt_explore_state.specs.Tables.{step_sees}
use Rattle.gt_explore_state.specs.declared.table.SparseTable.{SparseTable}
use Rattle.gt_explore_state.proofs.Looking.{saw}
use Rattle.gt_explore_state.proofs.ground.SparseState.see.Goals as goal

pub returns : goal.returns
returns c = λ s h set shows run. c.see_in.ensures ∙ ap (λ (l : List SparseTable). step_sees c.args.config.now.domains.items c.args.config.now.first_gen l c.args.actor c.args.step) c.as_slice.ensures.value
    ∙ saw s h c.args.config.now c.args.self.now.tables.items set shows c.args.actor c.args.step run
