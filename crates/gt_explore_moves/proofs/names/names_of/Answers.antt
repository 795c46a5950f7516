use Rattle.std.proofs.Common.{[], sym, subst}
use Rattle.gt_handles.specs.Handles.{HandleMap}
use Rattle.gt_handles.specs.Listing.{HasJust}
use Rattle.gt_model.specs.declared.held.HeldPin.{HeldPin}
use Rattle.gt_explore_moves.proofs.Placing.{none-placed, placed-step}
use Rattle.gt_explore_moves.proofs.names.names_of.Goals as goal

pub loop-mapping-init : goal.loop-mapping-init
loop-mapping-init c =
    none-placed c.args.dom (record { mappings = c.new-mappings.result; handles = c.new-handles.result; labels = c.new-labels.result })
    (subst (λ (m : HandleMap HeldPin). HasJust m [] 0) (sym c.new-mappings.ensures) c.nothing_is_listed.ensures) c.new-handles.ensures.items c.new-labels.ensures

pub loop-mapping-preserved : goal.loop-mapping-preserved
loop-mapping-preserved c = let l = c.loop-mapping in let e = c.insert-handle.ensures in
    placed-step c.args.dom c.args.held.now l.mapping-index _ (record { mappings = l.mappings; handles = l.handles; labels = l.labels })
    (record { mappings = c.insert-handle.new.self; handles = c.push.new.self; labels = c.name_mapping.new.labels })
    c.reserve.new.self c.insert-handle.result c.loop-mapping-test.true c.inserted_is_listed.ensures l.invariant c.in_ok-reserve.ensures.kept e.serial
    (record { fresh = e.fresh; updates = e.updates; count = e.count; given = e.given }) c.in_ok-push.ensures.items c.in_ok-name_mapping.ensures
