use Rattle.std.proofs.Common.{◌≡◌, ◌<◌, [], length, refl, arith}
use Rattle.gt_allow.specs.Looking.{looks_up}
use Rattle.gt_policy_list.specs.Lines.{source_text}
use Rattle.gt_policy_list.proofs.LineLemmas.{begins_listing, finished}
use Rattle.gt_text.specs.Laws.{OnErr-all}
use Rattle.gt_text.proofs.PieceLemmas.{begins_all, sends_start, sent_all, step_begun, step_sent}
use Rattle.gt_policy_list.proofs.sources.write_sources.Goals as goal

pub sources-init : goal.sources-init
sources-init g c = (rw c.new-waiting.ensures.items (omega arith), sends_start _ _ c.new-waiting.ensures.items)

pub sources-preserved : goal.sources-preserved
sources-preserved g c =
    let within : c.sources.source-index < length c.args.ids.now = omega arith in (
      c.in_ok-write_source.ensures.few,
      step_sent (source_text c.args.policy.now.types (looks_up c.args.table.now) c.args.ids.now) c.args.ids.now c.sources.source-index _ [] _ _ _ _ _ _ _ within
          refl c.sources.invariant.1 refl c.in_ok-write_source.ensures.ok,
    )

pub returns-in_err-write_source-clause-beginning : goal.returns-in_err-write_source-clause-beginning
returns-in_err-write_source-clause-beginning g c =
    let within : c.sources.source-index < length c.args.ids.now = omega arith in
    OnErr-all _ _ (begins_listing c.args.policy.now.types (looks_up c.args.table.now) c.args.ids.now _ _ (step_begun (source_text c.args.policy.now.types (looks_up c.args.table.now) c.args.ids.now) c.args.ids.now c.sources.source-index _ [] _ _ _ _ _ _ within
    refl c.sources.invariant.1 refl c.in_err-write_source.ensures.err))

pub returns-clause-whole : goal.returns-clause-whole
returns-clause-whole g c =
    let all : c.sources.source-index ≡ length c.args.ids.now = omega arith in
    let sent = sent_all (source_text c.args.policy.now.types (looks_up c.args.table.now) c.args.ids.now) c.args.ids.now c.sources.source-index [] _ _ _ all c.sources.invariant.1 in
    finished c.args.policy.now.types (looks_up c.args.table.now) c.args.ids.now _ _ _ _ sent (rw c.as_slice.ensures.value at c.in_ok-finish.ensures.whole)

pub returns-in_err-finish-clause-beginning : goal.returns-in_err-finish-clause-beginning
returns-in_err-finish-clause-beginning g c =
    let all : c.sources.source-index ≡ length c.args.ids.now = omega arith in
    let sent = sent_all (source_text c.args.policy.now.types (looks_up c.args.table.now) c.args.ids.now) c.args.ids.now c.sources.source-index [] _ _ _ all c.sources.invariant.1 in
    OnErr-all _ _ (begins_listing c.args.policy.now.types (looks_up c.args.table.now) c.args.ids.now _ _ (begins_all _ _ _ _ _ sent (rw c.as_slice.ensures.value at c.in_err-finish.ensures.beginning)))
