use Rattle.std.proofs.Common.{◌∙◌, sym}
use Rattle.std.proofs.Common.{subst}
use Rattle.std.specs.Prelude.{OnOk}
use Rattle.std.proofs.lemmas.Result.{on_ok_weaker}
use Rattle.gt_explore_state.specs.declared.table.SparseTable.{SparseTable}
use Rattle.gt_explore_state.specs.Tables.{OwnChangeOf}
use Rattle.gt_explore_state.proofs.Becoming.{one-set, none-set}
use Rattle.gt_explore_state.proofs.effects.change_own.Goals as goal

pub returns-in-Some : goal.returns-in-Some
returns-in-Some c = on_ok_weaker c.change_own.result (λ becomes. one-set c.args.tables.now c.args.place c.in-Some.at c.index-tables-at.result c.change_own.new.self (OwnChangeOf c.args.first_gen c.args.gref.0 c.args.change) (sym c.place_among.ensures ∙ c.in-Some.is) c.index-tables-at.is becomes) (subst (λ (z : SparseTable). OnOk c.change_own.result (OwnChangeOf c.args.first_gen c.args.gref.0 c.args.change z c.change_own.new.self)) (sym c.index-tables-at.is) c.change_own.ensures)

pub returns-in-None : goal.returns-in-None
returns-in-None c = none-set c.args.tables.now c.args.place (OwnChangeOf c.args.first_gen c.args.gref.0 c.args.change) (sym c.place_among.ensures ∙ c.in-None.is)
