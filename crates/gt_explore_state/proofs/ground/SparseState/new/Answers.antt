use Rattle.gt_explore_state.proofs.Copying.{first-shown, nothing-written}
use Rattle.std.proofs.Common.{sym, subst}
use Rattle.gt_explore_state.specs.Shows.{PagesShow}
use Rattle.gt_explore_state.proofs.ground.SparseState.new.Goals as goal
use Rattle.std.proofs.Common.{[]}

pub returns-clause-tables : goal.returns-clause-tables
returns-clause-tables c = λ config s set limits same. first-shown config s c.args.domains.now c.in_ok-tables.tables.items set limits same c.in_ok-tables.ensures

pub returns-clause-pages : goal.returns-clause-pages
returns-clause-pages c = subst (PagesShow []) (sym c.new-pages.ensures.items) nothing-written
