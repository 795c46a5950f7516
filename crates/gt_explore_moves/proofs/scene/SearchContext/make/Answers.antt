use Rattle.std.proofs.Common.{◌≡◌, ◌∷◌, Vec, Global, sym, ap, ◌∙◌, subst}
use Rattle.gt_types.specs.declared.DomId.{DomId}
use Rattle.gt_model.specs.declared.action.Observation.{Observation}
use Rattle.gt_model.specs.History.{seen_by}
use Rattle.gt_explore_state.specs.Shows.{IsGivenTo, IsItemOfStep, LooksInRun, PagesShow, TablesShow}
use Rattle.gt_explore_state.specs.declared.ground.SparseState.{SparseState}
use Rattle.gt_explore_state.specs.declared.pages.SparsePage.{SparsePage}
use Rattle.gt_explore_state.specs.declared.table.SparseTable.{SparseTable}
use Rattle.gt_explore_moves.proofs.SameStep.{step-of}
use Rattle.gt_explore_moves.proofs.scene.SearchContext.make.Goals as goal

pub returns : goal.returns
returns c = λ s h before k a i tick ground. let scene = c.args.self.now in let at = c.args.at in let o = c.args.open in
    let step = step-of s h scene before at k a o i tick in
    let given = subst (IsGivenTo h i.actor o.step) (sym (c.as_slice.ensures.value ∙ c.in_ok-given.ensures)) step.given in
    let written : PagesShow (i ∷ h) c.write.new.self.pages.items = c.in_ok-write.ensures.shows s h i at (seen_by s h k.dom o.step)
    (subst (λ (g : SparseState). PagesShow h g.pages.items) (sym ground) tick.shows.pages) step.item given in
    let tables : TablesShow s h c.write.new.self.tables.items = subst (λ (ts : Vec SparseTable Global). TablesShow s h ts.items) (sym c.in_ok-write.ensures.tables)
    (subst (λ (g : SparseState). TablesShow s h g.tables.items) (sym ground) tick.shows.tables) in
    let saw : c.see-seen.result ≡ seen_by s h k.dom o.step =
    c.see-seen.ensures s h tick.shows.setting tables (subst (λ (d : DomId). LooksInRun s d o.step) (sym step.caller) step.looks) ∙ ap (λ (d : DomId). seen_by s h d o.step) step.caller in
    record {
      saw = saw;
      tables_show = c.in_ok-apply.ensures.shows s h i tick.shows.setting tables (subst (λ (v : Observation). IsItemOfStep s h i at o.step v) (sym saw) step.item);
      pages_show = subst (λ (ps : Vec SparsePage Global). PagesShow (i ∷ h) ps.items) (sym c.in_ok-apply.ensures.pages) written;
    }
