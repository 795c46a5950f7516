use Rattle.std.proofs.Common.{refl, sym, ap, ◌∙◌, subst}
use Rattle.gt_calls.specs.Following.{IsLeftAlike}
use Rattle.gt_model.specs.Rules.{CallerKnowledge}
use Rattle.gt_explore_state.specs.Rows.{ListsEntries}
use Rattle.gt_explore_moves.specs.Calls.{known_in}
use Rattle.gt_explore_moves.proofs.OpenAlong.{goes-on-as-run}
use Rattle.gt_explore_moves.proofs.scene.SearchContext.next.Goals as goal

pub returns : goal.returns
returns c = λ s h d u z along below rising is saw still. let t = c.args.table.now in
    let lists = subst (λ l. ListsEntries c.args.self.now.roster.first_gen t.own.items l) (sym c.as_slice.ensures.value) c.in_ok-own.ensures in
    goes-on-as-run s h d u c.args.last z c.args.seen c.args.self.now t c.go_on.result.0 c.go_on.result.1 along below rising is saw still
    c.go_on.ensures.caller c.go_on.ensures.request
    (λ k alike. c.go_on.ensures.goes k (subst (λ (x : CallerKnowledge). IsLeftAlike k x c.args.last.call c.args.seen)
    (sym (c.known.ensures t lists refl ∙ ap (known_in c.args.self.now t) c.new-mappings.ensures)) alike))
