use Rattle.std.proofs.Common.{refl}
use Rattle.gt_model.specs.History.{setting_of}
use Rattle.gt_script_runs.specs.Runs.{history_of}
use Rattle.gt_host.proofs.LineLemmas.{begin_answered, begin_busy, begin_open}
use Rattle.gt_host.proofs.run.run_begin.Goals as goal

pub returns-in_ok-answer_call-in-Done-clause-leads : goal.returns-in_ok-answer_call-in-Done-clause-leads
returns-in_ok-answer_call-in-Done-clause-leads g c = λ p audit come.
    begin_answered (setting_of c.args.core.now.config (g.P.Allows.may c.args.core.now.rights)) audit c.args.types.now c.args.step.now c.args.given.call.now p c.args.core.now.state _ c.args.kept.now
    (record { alloc = c.args.kept.now.alloc; labels = c.answer_call.new.labels; calls = c.args.kept.now.calls; audit = c.record.new.self }) c.args.out.now.items _ c.request_of-request.result c.in_ok-answer.field-0 c.in-Done.answer c.about-hypercall.result
    (c.args.given.bytes, c.requires.said, c.request_of-request.ensures.makes p.named come.keeps.names) c.in-Done.is come c.about-hypercall.ensures (record { is_on = c.record.ensures.on; records = c.in_ok-record-in-Done.ensures.records }) (c.in_ok-answer.ensures.stands (history_of p) come.stands)
    (c.in_ok-answer_call-in-Done.ensures.named p.named come.keeps.names) refl c.in_ok-answer_call-in-Done.ensures.line

pub returns-in_ok-push_busy_line-in-Busy-clause-leads : goal.returns-in_ok-push_busy_line-in-Busy-clause-leads
returns-in_ok-push_busy_line-in-Busy-clause-leads g c = λ p audit come.
    begin_busy (setting_of c.args.core.now.config (g.P.Allows.may c.args.core.now.rights)) audit c.args.types.now c.args.step.now c.args.given.call.now p c.args.core.now.state _ c.args.kept.now c.args.out.now.items _ c.request_of-request.result c.in_ok-answer.field-0
    (c.args.given.bytes, c.requires.said, c.request_of-request.ensures.makes p.named come.keeps.names) c.in-Busy.is come (c.in_ok-answer.ensures.stands (history_of p) come.stands) c.in_ok-push_busy_line-in-Busy.ensures

pub returns-in_ok-begin_call-in-Open-clause-leads : goal.returns-in_ok-begin_call-in-Open-clause-leads
returns-in_ok-begin_call-in-Open-clause-leads g c = λ p audit come.
    begin_open (setting_of c.args.core.now.config (g.P.Allows.may c.args.core.now.rights)) audit c.args.types.now c.args.step.now c.args.given.call.now p c.args.core.now.state _ c.args.kept.now
    (record { alloc = c.args.kept.now.alloc; labels = c.args.kept.now.labels; calls = c.begin_call.new.self; audit = c.args.kept.now.audit }) c.args.out.now.items _ c.request_of-request.result c.in_ok-answer.field-0 c.about-hypercall.result
    (c.args.given.bytes, c.requires.said, c.request_of-request.ensures.makes p.named come.keeps.names) c.requires.known c.in-Open.is come c.about-hypercall.ensures refl c.in_ok-begin_call-in-Open.ensures.hypercalls (c.in_ok-answer.ensures.stands (history_of p) come.stands)
    refl c.in_ok-begin_call-in-Open.ensures.calls refl
