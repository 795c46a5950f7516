use Rattle.std.proofs.Common.{refl}
use Rattle.gt_model.specs.History.{setting_of}
use Rattle.gt_script_runs.specs.Runs.{history_of}
use Rattle.gt_host.proofs.LineLemmas.{do_answered, do_busy}
use Rattle.gt_host.proofs.run.run_do.Goals as goal

pub returns-in_ok-answer_call-in-Some-clause-leads : goal.returns-in_ok-answer_call-in-Some-clause-leads
returns-in_ok-answer_call-in-Some-clause-leads g c = λ p audit come.
    do_answered (setting_of c.args.core.now.config (g.P.Allows.may c.args.core.now.rights)) audit c.args.types.now c.args.step.now c.args.given.call.now p c.args.core.now.state _ c.args.kept.now
    (record { alloc = c.args.kept.now.alloc; labels = c.answer_call.new.labels; calls = c.args.kept.now.calls; audit = c.record.new.self }) c.args.out.now.items _ c.request_of-request.result c.in_ok-answer.field-0 c.in-Some.answer c.about-hypercall.result
    (c.args.given.bytes, c.requires.said, c.request_of-request.ensures.makes p.named come.keeps.names) c.in-Some.is come (c.in_ok-answer.ensures.calls (history_of p) come.stands)
    c.about-hypercall.ensures (record { is_on = c.record.ensures.on; records = c.in_ok-record-in-Some.ensures.records })
    (c.in_ok-answer_call-in-Some.ensures.named p.named come.keeps.names) refl c.in_ok-answer_call-in-Some.ensures.line

pub returns-in_ok-push_busy_line-in-None-clause-leads : goal.returns-in_ok-push_busy_line-in-None-clause-leads
returns-in_ok-push_busy_line-in-None-clause-leads g c = λ p audit come.
    do_busy (setting_of c.args.core.now.config (g.P.Allows.may c.args.core.now.rights)) audit c.args.types.now c.args.step.now c.args.given.call.now p c.args.core.now.state _ c.args.kept.now c.args.out.now.items _ c.request_of-request.result c.in_ok-answer.field-0
    (c.args.given.bytes, c.requires.said, c.request_of-request.ensures.makes p.named come.keeps.names) c.in-None.is come (c.in_ok-answer.ensures.calls (history_of p) come.stands) c.in_ok-push_busy_line-in-None.ensures
