use Rattle.std.proofs.Common.{◌≡◌, ◌<◌, length, refl, arith}
use Rattle.gt_types.specs.declared.TypeId.{TypeId}
use Rattle.gt_allow.specs.Looking.{looks_up}
use Rattle.gt_policy_list.specs.Lines.{pair_text}
use Rattle.gt_text.specs.Laws.{OnErr-all}
use Rattle.gt_text.proofs.PieceLemmas.{begins_pieces, has_begun, sends_nothing, sent_all, step_begun, step_sent}
use Rattle.gt_policy_list.proofs.sources.write_source.Goals as goal

pub targets-init : goal.targets-init
targets-init g c = (c.requires, sends_nothing _ c.args.waiting.now.items)

pub targets-preserved : goal.targets-preserved
targets-preserved g c =
    let within : c.targets.target-index < length c.args.ids.now = omega arith in (
      c.in_ok-send.ensures.few,
      step_sent (λ (t : TypeId). pair_text c.args.policy.now.types (looks_up c.args.table.now) c.args.source t) c.args.ids.now c.targets.target-index _ c.args.waiting.now.items _ _ _ _ _ _ _
          within refl c.targets.invariant.1 c.in_ok-push_pair.ensures c.in_ok-send.ensures.ok,
    )

pub returns-in_err-push_pair-clause-err : goal.returns-in_err-push_pair-clause-err
returns-in_err-push_pair-clause-err g c =
    OnErr-all _ _ (begins_pieces (λ (t : TypeId). pair_text c.args.policy.now.types (looks_up c.args.table.now) c.args.source t) c.args.ids.now c.targets.target-index c.args.waiting.now.items _ _
    (has_begun _ _ _ _ c.targets.invariant.1))

pub returns-in_err-send-clause-err : goal.returns-in_err-send-clause-err
returns-in_err-send-clause-err g c =
    let within : c.targets.target-index < length c.args.ids.now = omega arith in
    OnErr-all _ _ (step_begun (λ (t : TypeId). pair_text c.args.policy.now.types (looks_up c.args.table.now) c.args.source t) c.args.ids.now c.targets.target-index _ c.args.waiting.now.items _ _ _ _ _ _
    within refl c.targets.invariant.1 c.in_ok-push_pair.ensures c.in_err-send.ensures.err)

pub returns-clause-ok : goal.returns-clause-ok
returns-clause-ok g c =
    let all : c.targets.target-index ≡ length c.args.ids.now = omega arith in
    sent_all (λ (t : TypeId). pair_text c.args.policy.now.types (looks_up c.args.table.now) c.args.source t) c.args.ids.now c.targets.target-index c.args.waiting.now.items _ _ _ all c.targets.invariant.1
