use Rattle.std.proofs.Common.{ℕ, refl, subst, sym}
use Rattle.gt_calls.specs.Known.{knows}
use Rattle.gt_model.specs.declared.action.Observation.TheVariants as observations
use Rattle.gt_model.specs.declared.action.Step.TheVariants as call_steps
use Rattle.gt_model.specs.declared.action.CallValue.TheVariants.{Frames}
use Rattle.gt_model.specs.declared.action.CallResult.TheVariants.{Given}
use Rattle.gt_calls.specs.declared.call.Phase.TheVariants as phases
use Rattle.gt_model.specs.declared.request.OpenRequest.TheVariants as asks
use Rattle.gt_live.specs.Driving.{CanMake}
use Rattle.gt_live.specs.Walks.{Made}
use Rattle.gt_live.proofs.Stepping.{can-only, only}
use Rattle.gt_live.proofs.headers.drive_setup.Goals as goal

pub store_header-requires-clause-can : goal.store_header-requires-clause-can
store_header-requires-clause-can g c =
    let known = knows g.P.Allows.may c.args.known.now in let law = c.every_call_goes_on_by_its_phase.ensures known in
    let k = c.args.words.now.layout in let v = c.args.seat.now.view in let a = c.args in let r = c.requires in
    subst (λ (n : ℕ). CanMake k v (call_steps.StoreHeader n a.frames)) (sym c.from.ensures)
    (can-only known law k v a.caller (asks.SetupTable a.frames) (phases.Last (call_steps.StoreHeader known.header.version a.frames) (Given (Frames a.frames)))
    (call_steps.StoreHeader known.header.version a.frames) r.knows tt r.unanswered refl refl)

pub returns-clause-called : goal.returns-clause-called
returns-clause-called g c =
    let known = knows g.P.Allows.may c.args.known.now in let law = c.every_call_goes_on_by_its_phase.ensures known in
    let k = c.args.words.now.layout in let v = c.args.seat.now.view in let a = c.args in let r = c.requires in
    (only known law k v a.caller (asks.SetupTable a.frames) (phases.Last (call_steps.StoreHeader known.header.version a.frames) (Given (Frames a.frames)))
    (call_steps.StoreHeader known.header.version a.frames) observations.Nothing (Given (Frames a.frames)) c.store_header.new.seat.view r.knows tt r.unanswered refl refl
    (subst (λ (n : ℕ). Made k (call_steps.StoreHeader n a.frames) observations.Nothing v c.store_header.new.seat.view) c.from.ensures c.store_header.ensures.made) refl).called

pub returns-clause-same : goal.returns-clause-same
returns-clause-same g c =
    let known = knows g.P.Allows.may c.args.known.now in let law = c.every_call_goes_on_by_its_phase.ensures known in
    let k = c.args.words.now.layout in let v = c.args.seat.now.view in let a = c.args in let r = c.requires in
    (only known law k v a.caller (asks.SetupTable a.frames) (phases.Last (call_steps.StoreHeader known.header.version a.frames) (Given (Frames a.frames)))
    (call_steps.StoreHeader known.header.version a.frames) observations.Nothing (Given (Frames a.frames)) c.store_header.new.seat.view r.knows tt r.unanswered refl refl
    (subst (λ (n : ℕ). Made k (call_steps.StoreHeader n a.frames) observations.Nothing v c.store_header.new.seat.view) c.from.ensures c.store_header.ensures.made) refl).left.0
