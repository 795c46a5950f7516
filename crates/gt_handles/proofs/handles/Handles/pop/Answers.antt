use Rattle.std.proofs.Common.{ap, ◌∙◌, None, slice_index_or}
use Rattle.gt_handles.proofs.Vacant.{none_below, in_order_after}
use Rattle.gt_handles.proofs.handles.Handles.pop.Goals as goal

pub invariant_of-self : goal.invariant_of-self
invariant_of-self g c =
    let updates = c.remove-slot.ensures.updates in
    in_order_after _ _ _ updates.others updates.changed _ _ c.self.invariant
    (λ key below.
    ap (λ s. slice_index_or s.slots key None) c.self.view_is
    ∙ none_below c.args.self.now c.in_ok-key.key c.in_ok-key.ensures.least key below)
