use Rattle.std.proofs.Common.{◌≡◌, ◌<◌, ◌∙◌, ap, length, refl, arith}
use Rattle.gt_script.specs.Contents.{KeptContents, contents_of, type_names}
use Rattle.gt_script_runs.specs.Rights.{may_by}
use Rattle.gt_script_runs.proofs.StartLemmas.{same_setting}
use Rattle.gt_text.specs.Laws.{keeps_same}
use Rattle.gt_text.specs.Laws.{OnErr-all}
use Rattle.gt_host.proofs.PlayLemmas.{few_wait, not_begun, begins_end, begins_step, ends, goes_on, has_begun, ready}
use Rattle.gt_host.proofs.PlayLemmas.{same_setting_of_script, starts_underway}
use Rattle.gt_host.proofs.playing.run_lines.Goals as goal

pub steps-init : goal.steps-init
steps-init g c = (
  refl,
  refl,
  starts_underway (contents_of c.args.script.now) c.args.audit c.args.core.now _ _ _ c.requires.starts c.new-kept.ensures.kept c.new-kept.ensures.on c.new-kept.ensures.records c.new-waiting.ensures.items,
  few_wait _ c.new-waiting.ensures.items,
)

pub returns-in_err-run_step-clause-beginning : goal.returns-in_err-run_step-clause-beginning
returns-in_err-run_step-clause-beginning g c =
    OnErr-all _ _ (has_begun (contents_of c.args.script.now) c.args.audit c.steps-steps.result.now c.steps.step-index c.steps.core.state c.steps.kept _ _ _ c.steps-steps.ensures c.steps.invariant.2)

pub returns-in_err-send-clause-beginning : goal.returns-in_err-send-clause-beginning
returns-in_err-send-clause-beginning g c =
    let within : c.steps.step-index < length c.steps-steps.result.now = omega arith in
    let setting = same_setting may_by _ _ _ _ c.steps.invariant.0 c.steps.invariant.1 ∙ same_setting_of_script (contents_of c.args.script.now) c.args.core.now c.requires.starts in
    OnErr-all _ _ (begins_step (contents_of c.args.script.now) c.args.audit _ c.as_slice.result.now c.steps-steps.result.now c.steps.step-index c.step-item.result c.steps.core.state c.run_step.new.core.state c.steps.kept c.run_step.new.kept _ _ _ _ _
    setting c.steps-steps.ensures c.steps.invariant.2 within c.step-item.is (c.as_slice.ensures.value ∙ c.in_ok-types.ensures ∙ ap (λ (k : KeptContents). type_names (contents_of k)) c.head-head.ensures) c.in_ok-run_step.ensures.leads c.in_err-send.ensures.err)

pub steps-preserved : goal.steps-preserved
steps-preserved g c =
    let within : c.steps.step-index < length c.steps-steps.result.now = omega arith in
    let setting = same_setting may_by _ _ _ _ c.steps.invariant.0 c.steps.invariant.1 ∙ same_setting_of_script (contents_of c.args.script.now) c.args.core.now c.requires.starts in (
      c.run_step.ensures.config ∙ c.steps.invariant.0,
      c.run_step.ensures.rights ∙ c.steps.invariant.1,
      goes_on (contents_of c.args.script.now) c.args.audit _ c.as_slice.result.now c.steps-steps.result.now c.steps.step-index c.step-item.result c.steps.core.state c.run_step.new.core.state c.steps.kept c.run_step.new.kept _ _ _ _ _ _
          setting c.steps.invariant.2 within c.step-item.is (c.as_slice.ensures.value ∙ c.in_ok-types.ensures ∙ ap (λ (k : KeptContents). type_names (contents_of k)) c.head-head.ensures) c.in_ok-run_step.ensures.leads c.in_ok-send.ensures.ok,
      c.in_ok-send.ensures.few,
    )

pub run_step-requires : goal.run_step-requires
run_step-requires g c =
    let within : c.steps.step-index < length c.steps-steps.result.now = omega arith in
    let setting = same_setting may_by _ _ _ _ c.steps.invariant.0 c.steps.invariant.1 ∙ same_setting_of_script (contents_of c.args.script.now) c.args.core.now c.requires.starts in
    ready (contents_of c.args.script.now) c.args.audit _ c.steps-steps.result.now c.steps.step-index c.step-item.result c.steps.core.state c.steps.kept _ _ _
    setting c.steps-steps.ensures c.requires.can.3 c.steps.invariant.2 within c.step-item.is

pub returns-in_err-push_open_lines-clause-beginning : goal.returns-in_err-push_open_lines-clause-beginning
returns-in_err-push_open_lines-clause-beginning g c =
    OnErr-all _ _ (has_begun (contents_of c.args.script.now) c.args.audit c.steps-steps.result.now c.steps.step-index c.steps.core.state c.steps.kept _ _ _ c.steps-steps.ensures c.steps.invariant.2)

pub returns-in_err-push_lines-clause-beginning : goal.returns-in_err-push_lines-clause-beginning
returns-in_err-push_lines-clause-beginning g c =
    OnErr-all _ _ (has_begun (contents_of c.args.script.now) c.args.audit c.steps-steps.result.now c.steps.step-index c.steps.core.state c.steps.kept _ _ _ c.steps-steps.ensures c.steps.invariant.2)

pub returns-clause-whole : goal.returns-clause-whole
returns-clause-whole g c =
    let all : c.steps.step-index ≡ length c.steps-steps.result.now = omega arith in
    ends (contents_of c.args.script.now) c.args.audit c.steps-steps.result.now c.steps.step-index c.steps.core.state c.steps.kept c.domains.result.now c.as_slice-2.result.now _ _ _ _ _ _ c.steps-steps.ensures all (c.domains.ensures ∙ ap (λ (k : KeptContents). k.domains) c.head-head.ensures) (c.as_slice-2.ensures.value ∙ c.in_ok-types.ensures ∙ ap (λ (k : KeptContents). type_names (contents_of k)) c.head-head.ensures) c.in_ok-push_open_lines.ensures c.in_ok-push_lines.ensures c.steps.invariant.2
    (rw c.as_slice-3.ensures.value at c.in_ok-finish.ensures.whole)

pub returns-in_err-finish-clause-beginning : goal.returns-in_err-finish-clause-beginning
returns-in_err-finish-clause-beginning g c =
    let all : c.steps.step-index ≡ length c.steps-steps.result.now = omega arith in
    OnErr-all _ _ (begins_end (contents_of c.args.script.now) c.args.audit c.steps-steps.result.now c.steps.step-index c.steps.core.state c.steps.kept c.domains.result.now c.as_slice-2.result.now _ _ _ _ _ _ c.steps-steps.ensures all (c.domains.ensures ∙ ap (λ (k : KeptContents). k.domains) c.head-head.ensures) (c.as_slice-2.ensures.value ∙ c.in_ok-types.ensures ∙ ap (λ (k : KeptContents). type_names (contents_of k)) c.head-head.ensures) c.in_ok-push_open_lines.ensures c.in_ok-push_lines.ensures c.steps.invariant.2
    (rw c.as_slice-3.ensures.value at c.in_err-finish.ensures.beginning))

pub returns-in_err-types-clause-beginning : goal.returns-in_err-types-clause-beginning
returns-in_err-types-clause-beginning g c = OnErr-all _ _ (not_begun (contents_of c.args.script.now) c.args.audit _ _ (keeps_same _))
