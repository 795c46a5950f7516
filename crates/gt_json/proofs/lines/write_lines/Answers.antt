use Rattle.std.proofs.Common.{◌≡◌, ◌<◌, [], length, refl, arith}
use Rattle.gt_text.specs.Laws.{OnErr-all}
use Rattle.gt_json.specs.Lines.{object_line}
use Rattle.gt_text.proofs.PieceLemmas.{begins_all, begins_pieces, has_begun, sends_all, sends_start, sent_all}
use Rattle.gt_text.proofs.PieceLemmas.{step_begun, step_sent}
use Rattle.gt_json.proofs.lines.write_lines.Goals as goal

pub lines-init : goal.lines-init
lines-init g c = sends_start _ _ c.new-waiting.ensures.items

pub lines-preserved : goal.lines-preserved
lines-preserved g c =
    let within : c.lines.line-index < length c.args.lines.now = omega arith in
    step_sent (λ l. object_line c.args.printed l.now) c.args.lines.now c.lines.line-index _ [] _ _ _ _ _ _ _ within
    refl c.lines.invariant c.in_ok-push_object.ensures c.in_ok-send.ensures.ok

pub returns-in_err-push_object-clause-beginning : goal.returns-in_err-push_object-clause-beginning
returns-in_err-push_object-clause-beginning g c =
    OnErr-all _ _ (begins_pieces (λ l. object_line c.args.printed l.now) c.args.lines.now c.lines.line-index [] _ _
    (has_begun _ _ _ _ c.lines.invariant))

pub returns-in_err-send-clause-beginning : goal.returns-in_err-send-clause-beginning
returns-in_err-send-clause-beginning g c =
    let within : c.lines.line-index < length c.args.lines.now = omega arith in
    OnErr-all _ _ (step_begun (λ l. object_line c.args.printed l.now) c.args.lines.now c.lines.line-index _ [] _ _ _ _ _ _ within
    refl c.lines.invariant c.in_ok-push_object.ensures c.in_err-send.ensures.err)

pub returns-clause-whole : goal.returns-clause-whole
returns-clause-whole g c =
    let all : c.lines.line-index ≡ length c.args.lines.now = omega arith in
    let sent = sent_all (λ l. object_line c.args.printed l.now) c.args.lines.now c.lines.line-index [] _ _ _ all c.lines.invariant in
    sends_all _ _ _ _ _ sent (rw c.as_slice.ensures.value at c.in_ok-finish.ensures.whole)

pub returns-in_err-finish-clause-beginning : goal.returns-in_err-finish-clause-beginning
returns-in_err-finish-clause-beginning g c =
    let all : c.lines.line-index ≡ length c.args.lines.now = omega arith in
    let sent = sent_all (λ l. object_line c.args.printed l.now) c.args.lines.now c.lines.line-index [] _ _ _ all c.lines.invariant in
    OnErr-all _ _ (begins_all _ _ _ _ _ sent (rw c.as_slice.ensures.value at c.in_err-finish.ensures.beginning))
