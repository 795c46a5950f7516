use Rattle.std.proofs.Common.{◌≡◌, List, Some, sym, ap, ◌∙◌, subst}
use Rattle.std.specs.Prelude.{slice_get}
use Rattle.gt_model.specs.declared.handle.Handle.{Handle}
use Rattle.gt_model.specs.declared.request.Request.TheVariants.{Release}
use Rattle.gt_explore_moves.specs.Beginnings.{OpensSo}
use Rattle.gt_explore_moves.specs.Placing.{ArePlaced}
use Rattle.gt_explore_moves.specs.declared.actor.LabelledMapping.{LabelledMapping}
use Rattle.gt_explore_moves.proofs.CallBegins.{given-line, given-open}
use Rattle.gt_explore_moves.proofs.MappingFound.{at-copied}
use Rattle.gt_explore_moves.proofs.scene.SearchContext.releasing.Goals as goal

pub returns-in-Open : goal.returns-in-Open
returns-in-Open c = λ s h tasks k handle show short table dom rest held.
    let g = c.get.ensures.lookup in let xs = c.deref.result.now in
    let here : slice_get xs c.args.choice ≡ Some c.in-Some.handle = at-copied xs c.args.choice c.get.result c.in-Some.handle g.0 g.1 (sym c.copied.ensures ∙ c.in-Some.is) in
    given-line s h tasks k c.args.self.now c.args.actor.now c.args.table.now c.args.dom c.in_ok-names.names c.args.choice handle dom show short table
    (subst (λ (ms : List LabelledMapping). ArePlaced c.args.dom ms c.in_ok-names.names) c.as_slice.ensures.value c.in_ok-names.ensures) rest held
    c.in-Some.handle c.in-Open.call c.in-Open.step (ap (λ (l : List Handle). slice_get l c.args.choice) (sym c.deref.ensures.value) ∙ here)
    (λ z alike. subst (OpensSo z c.args.dom (Release c.in-Some.handle)) c.in-Open.is (c.in_ok-opened.ensures z alike))

pub returns : goal.returns
returns c = λ s h tasks k handle show short table dom rest held.
    let g = c.get.ensures.lookup in let xs = c.deref.result.now in
    let here : slice_get xs c.args.choice ≡ Some c.in-Some.handle = at-copied xs c.args.choice c.get.result c.in-Some.handle g.0 g.1 (sym c.copied.ensures ∙ c.in-Some.is) in
    given-open s h tasks k c.args.self.now c.args.actor.now c.args.table.now c.args.dom c.in_ok-names.names c.args.choice handle dom show short table
    (subst (λ (ms : List LabelledMapping). ArePlaced c.args.dom ms c.in_ok-names.names) c.as_slice.ensures.value c.in_ok-names.ensures) rest held
    c.in-Some.handle c.in-Done.field-0 (ap (λ (l : List Handle). slice_get l c.args.choice) (sym c.deref.ensures.value) ∙ here)
    (λ z alike. subst (OpensSo z c.args.dom (Release c.in-Some.handle)) c.in-Done.is (c.in_ok-opened.ensures z alike))
