use Rattle.std.proofs.Common.{◌∙◌, sym}
use Rattle.std.proofs.Common.{subst}
use Rattle.gt_explore_state.specs.declared.table.SparseTable.{SparseTable}
use Rattle.gt_explore_state.specs.Tables.{HeaderStored}
use Rattle.gt_explore_state.proofs.Becoming.{one-set, none-set}
use Rattle.gt_explore_state.proofs.effects.store_header.Goals as goal

pub returns-in-Some : goal.returns-in-Some
returns-in-Some c = one-set c.args.tables.now c.args.place c.in-Some.at c.index-tables-at.result c.store_header.new.self (HeaderStored c.args.version c.args.frames) (sym c.place_among.ensures ∙ c.in-Some.is) c.index-tables-at.is (subst (λ (z : SparseTable). HeaderStored c.args.version c.args.frames z c.store_header.new.self) (sym c.index-tables-at.is) c.store_header.ensures)

pub returns-in-None : goal.returns-in-None
returns-in-None c = none-set c.args.tables.now c.args.place (HeaderStored c.args.version c.args.frames) (sym c.place_among.ensures ∙ c.in-None.is)
