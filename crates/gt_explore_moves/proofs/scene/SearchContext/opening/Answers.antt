use Rattle.std.proofs.Common.{refl, sym, subst}
use Rattle.gt_model.specs.Rules.{CallerKnowledge}
use Rattle.gt_explore_state.specs.Rows.{ListsEntries}
use Rattle.gt_explore_moves.specs.Beginnings.{BeginsAlike}
use Rattle.gt_explore_moves.proofs.scene.SearchContext.opening.Goals as goal

pub returns : goal.returns
returns c = λ k alike. let t = c.args.table.now in
    let lists = subst (λ l. ListsEntries c.args.self.now.roster.first_gen t.own.items l) (sym c.as_slice.ensures.value) c.in_ok-own.ensures in
    c.open_call.ensures k (subst (λ (z : CallerKnowledge). BeginsAlike k z c.args.dom c.args.request) (sym (c.known.ensures t lists refl)) alike)
