use Rattle.std.proofs.Common.{rules, ◌<◌, false, length, refl, sym, ap}
use Rattle.std.specs.Prelude.{is_err, is_some}
use Rattle.gt_run.specs.declared.lists.JobAtGate.{JobAtGate}
use Rattle.gt_run.proofs.JobLemmas.{gate_pushed, jobs_pushed, pushed_items, ready_rest}
use Rattle.gt_run.proofs.threads.start_each.Goals as goal

pub parts-preserved : goal.parts-preserved
parts-preserved g c =
    let within : c.parts.part-index < length c.args.parts.now = search rules in
    let more = pushed_items c.push.result _ _ _ false c.push.ensures.items refl (sym (ap is_err c.in_default-push.is)) in (
      jobs_pushed c.args.monitor.now c.args.parts.now c.parts.part-index c.part-item.result (is_some c.args.context.now.log) _ _ c.in-Ok.handle _ within c.part-item.is (ap (λ (x : JobAtGate g.row.P.Denot g.row.G.Denot). x.job) c.in-Ok.ensures.ok) refl refl refl
          more c.parts.invariant.0,
      ready_rest g.P.Allows.may c.args.monitor.now _ _ c.in-Some.domain c.args.parts.now c.parts.part-index c.part-item.result within c.part-item.is c.in-Some.ensures.items c.parts.invariant.1,
      gate_pushed c.args.context.now.gate.now _ _ c.in-Ok.handle (ap (λ (x : JobAtGate g.row.P.Denot g.row.G.Denot). x.gate.now) c.in-Ok.ensures.ok) more c.parts.invariant.2,
    )
