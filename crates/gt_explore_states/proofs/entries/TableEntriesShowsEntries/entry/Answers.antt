use Rattle.std.proofs.Common.{◌∙◌, Option, ap, subst, sym}
use Rattle.gt_explore_state.specs.declared.table.SparseTable.{SparseTable}
use Rattle.gt_types.specs.declared.config.Config.{Config}
use Rattle.gt_explore_states.specs.Tables.{ShowsTableOf}
use Rattle.gt_explore_states.proofs.Showing.{has-table, nowhere-shown, table-shown}
use Rattle.gt_explore_states.proofs.entries.TableEntriesShowsEntries.entry.Goals as goal

pub returns-in-Some : goal.returns-in-Some
returns-in-Some c = λ s h set shows.
    let t = subst (λ (o : Option SparseTable). ShowsTableOf s h c.args.dom o) (sym c.in-Some.ensures) (has-table s h c.args.self.now.roster.now c.args.self.now.tables.now c.args.dom set shows) in
    c.shown_in_table.ensures s h c.args.dom t.1 (ap (λ (z : Config). z.first_gen) c.config.ensures ∙ set.first) ∙ table-shown s h c.args.dom c.args.gref.0 t.0

pub returns-in-None : goal.returns-in-None
returns-in-None c = λ s h set shows.
    nowhere-shown s h c.args.dom c.args.gref.0 (subst (λ (o : Option SparseTable). ShowsTableOf s h c.args.dom o) (sym c.in-None.ensures) (has-table s h c.args.self.now.roster.now c.args.self.now.tables.now c.args.dom set shows))
