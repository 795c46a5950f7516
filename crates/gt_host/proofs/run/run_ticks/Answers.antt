use Rattle.std.proofs.Common.{refl, ap, sym, ◌∙◌, Option}
use Rattle.std.specs.Option.{option_map}
use Rattle.std.specs.Prelude.{option_and_then}
use Rattle.gt_host.specs.declared.open_calls.Opened.{Opened}
use Rattle.gt_model.specs.History.{setting_of}
use Rattle.gt_script_runs.specs.Runs.{history_of}
use Rattle.gt_host.proofs.LineLemmas.{ticks_answered, ticks_idle, ticks_open}
use Rattle.gt_host.proofs.run.run_ticks.Goals as goal

pub returns-in_default-clause-leads : goal.returns-in_default-clause-leads
returns-in_default-clause-leads g c = λ p audit come.
    ticks_idle (setting_of c.args.core.now.config (g.P.Allows.may c.args.core.now.rights)) audit c.args.types.now c.args.step.now c.args.most p c.args.core.now.state c.args.kept.now c.args.out.now.items _
    (sym c.of.ensures.call ∙ ap (λ (o : Option Opened). option_map (λ (s : Opened). s.step.now) o) c.in_default.is) come c.in_ok-push_idle_line.ensures

pub returns-in_ok-answer_call-clause-leads : goal.returns-in_ok-answer_call-clause-leads
returns-in_ok-answer_call-clause-leads g c = λ p audit come.
    ticks_answered (setting_of c.args.core.now.config (g.P.Allows.may c.args.core.now.rights)) audit c.args.types.now c.args.step.now c.args.most c.in-Some.begun.step.now p c.args.core.now.state _ c.args.kept.now
    (record { alloc = c.args.kept.now.alloc; labels = c.answer_call.new.labels; calls = c.end.new.self; audit = c.record.new.self }) c.args.out.now.items _ c.in_ok-answer.field-0 c.in-Some-2.answer c.in-Some.begun.hypercall
    (sym (ap (λ (o : Option Opened). option_and_then (λ (s : Opened). s.hypercall) o) c.in-Some.is) ∙ c.of.ensures.hypercalls) (record { is_on = c.record.ensures.on; records = c.in_ok-record.ensures.records }) c.end.ensures.hypercalls
    (sym c.of.ensures.call ∙ ap (λ (o : Option Opened). option_map (λ (s : Opened). s.step.now) o) c.in-Some.is) c.in-Some-2.is come (c.in_ok-answer.ensures.ticks (history_of p) come.stands)
    (c.in_ok-answer_call.ensures.named p.named come.keeps.names) c.end.ensures.calls c.in_ok-answer_call.ensures.line

pub returns-in_default-2-clause-leads : goal.returns-in_default-2-clause-leads
returns-in_default-2-clause-leads g c = λ p audit come.
    ticks_open (setting_of c.args.core.now.config (g.P.Allows.may c.args.core.now.rights)) audit c.args.types.now c.args.step.now c.args.most c.in-Some.begun.step.now p c.args.core.now.state _ c.args.kept.now c.args.out.now.items _ c.in_ok-answer.field-0
    c.requires (sym c.of.ensures.call ∙ ap (λ (o : Option Opened). option_map (λ (s : Opened). s.step.now) o) c.in-Some.is) c.in_default-2.is come (c.in_ok-answer.ensures.ticks (history_of p) come.stands) refl
