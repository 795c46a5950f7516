use Rattle.std.proofs.Common.{◌∷◌, sym, subst, arith, List}
use Rattle.std.proofs.lemmas.Result.{on_ok_weaker}
use Rattle.gt_explore_state.specs.Shows.{TablesShow}
use Rattle.gt_explore_state.specs.Tables.{TablesAfter}
use Rattle.gt_explore_state.specs.declared.table.SparseTable.{SparseTable}
use Rattle.gt_explore_state.proofs.Becoming.{many-after, written-back}
use Rattle.gt_explore_state.proofs.Showing.{tables-shown}
use Rattle.gt_explore_state.proofs.ground.SparseState.apply.Goals as goal

pub returns-clause-shows : goal.returns-clause-shows
returns-clause-shows c = λ s h i set shows item.
    let config = c.args.config.now in let old = c.args.self.now.tables.items in let new = c.apply_to.new.tables in let all = c.args.self.now.tables.ok.0 in
    on_ok_weaker c.apply_to.result (λ made.
    let after = subst (λ (l : List SparseTable). TablesAfter config.domains.items config.first_gen c.args.at c.args.step c.args.seen l new) c.as_mut_slice.ensures.value made in
    subst (TablesShow s (i ∷ h)) (sym (written-back c.args.self.now.tables.len new old (many-after config.domains.items config.first_gen c.args.at c.args.step c.args.seen old new after) (omega (arith, all))))
    (tables-shown config s h i c.args.at c.args.step c.args.seen old new set shows item after)) c.apply_to.ensures
