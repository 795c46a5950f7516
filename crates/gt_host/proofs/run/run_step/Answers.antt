use Rattle.std.proofs.Common.{subst, sym, OnOk}
use Rattle.gt_model.specs.History.{setting_of}
use Rattle.gt_script.specs.declared.actions.ScriptAction.{ScriptAction}
use Rattle.gt_script_runs.specs.Runs.{RunsLine}
use Rattle.gt_host.specs.Ticking.{Leads}
use Rattle.gt_host.proofs.LineLemmas.{shows}
use Rattle.gt_host.proofs.run.run_step.Goals as goal

pub returns-in_ok-push_show_line-in-Show-clause-leads : goal.returns-in_ok-push_show_line-in-Show-clause-leads
returns-in_ok-push_show_line-in-Show-clause-leads g c = λ p audit come.
    let led = shows (setting_of c.args.core.now.config (g.P.Allows.may c.args.core.now.rights)) audit c.args.step.now c.in-Show.gref p c.args.core.now.state c.args.kept.now c.args.out.now.items c.push_show_line.new.out.items c.show-shown.result come c.show-shown.ensures c.in_ok-push_show_line-in-Show.ensures in
    (led.0, subst (λ (a : ScriptAction). RunsLine (setting_of c.args.core.now.config (g.P.Allows.may c.args.core.now.rights)) c.args.types.now c.args.step.now a p led.0) (sym c.in-Show.is) led.1, led.2, led.3)

pub returns-in_ok-bytes-in-Do-clause-leads : goal.returns-in_ok-bytes-in-Do-clause-leads
returns-in_ok-bytes-in-Do-clause-leads g c =
    let s = setting_of c.args.core.now.config (g.P.Allows.may c.args.core.now.rights) in
    subst (λ (a : ScriptAction). OnOk c.run_do.result (Leads s (λ p q. RunsLine s c.args.types.now c.args.step.now a p q) c.args.core.now.state c.run_do.new.core.state c.args.kept.now c.run_do.new.kept c.args.out.now.items c.run_do.new.out.items))
    (sym c.in-Do.is) c.run_do.ensures.leads

pub returns-in_ok-bytes-in-Begin-clause-leads : goal.returns-in_ok-bytes-in-Begin-clause-leads
returns-in_ok-bytes-in-Begin-clause-leads g c =
    let s = setting_of c.args.core.now.config (g.P.Allows.may c.args.core.now.rights) in
    subst (λ (a : ScriptAction). OnOk c.run_begin.result (Leads s (λ p q. RunsLine s c.args.types.now c.args.step.now a p q) c.args.core.now.state c.run_begin.new.core.state c.args.kept.now c.run_begin.new.kept c.args.out.now.items c.run_begin.new.out.items))
    (sym c.in-Begin.is) c.run_begin.ensures.leads

pub returns-in-Tick-clause-leads : goal.returns-in-Tick-clause-leads
returns-in-Tick-clause-leads g c =
    let s = setting_of c.args.core.now.config (g.P.Allows.may c.args.core.now.rights) in
    subst (λ (a : ScriptAction). OnOk c.run_ticks.result (Leads s (λ p q. RunsLine s c.args.types.now c.args.step.now a p q) c.args.core.now.state c.run_ticks.new.core.state c.args.kept.now c.run_ticks.new.kept c.args.out.now.items c.run_ticks.new.out.items))
    (sym c.in-Tick.is) c.run_ticks.ensures.leads
