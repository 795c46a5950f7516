use Rattle.std.proofs.Common.{List, ◌∙◌, subst}
use Rattle.gt_explore_moves.specs.Placing.{ArePlaced}
use Rattle.gt_explore_moves.specs.declared.actor.LabelledMapping.{LabelledMapping}
use Rattle.gt_explore_moves.proofs.CallBegins.{begun-line}
use Rattle.gt_explore_moves.proofs.scene.SearchContext.begun.Goals as goal

pub returns : goal.returns
returns c = λ s h tasks k q show short table dom says. let d = c.args.task.now.dom in let n = c.in_ok-names.names in
    begun-line s h tasks k c.args.self.now c.args.actor.now c.args.table.now d n c.args.call.now q c.request_of-request.result c.as_slice-2.result c.in_ok-opening.field-0 dom show short table
    (subst (λ (ms : List LabelledMapping). ArePlaced d ms n) c.as_slice.ensures.value c.in_ok-names.ensures) says
    (c.as_slice-2.ensures.value ∙ c.in_ok-bytes.ensures) c.request_of-request.ensures.makes c.in_ok-opening.ensures
