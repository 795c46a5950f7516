use Rattle.std.proofs.Common.{◌≡◌, ◌<◌, refl, ◌∙◌, arith}
use Rattle.gt_host.proofs.RunLemmas.{no_tick, tick_more, tick_last, tick_none}
use Rattle.gt_script_runs.proofs.StartLemmas.{same_setting}
use Rattle.gt_host.proofs.run.tick_up_to.Goals as goal

pub ticks-init : goal.ticks-init
ticks-init g c = (refl, refl, λ h stands. no_tick _ h c.args.dom _ stands)

pub ticks-preserved : goal.ticks-preserved
ticks-preserved g c = (
  c.tick.ensures.config ∙ c.ticks.invariant.0,
  c.tick.ensures.rights ∙ c.ticks.invariant.1,
  λ h stands. tick_more _ _ h c.args.dom _ _ _ c.in_ok-answer.field-0 (same_setting g.P.Allows.may _ _ _ _ c.ticks.invariant.0 c.ticks.invariant.1) c.in_default.not-Done c.in_ok-answer.ensures.stands (c.ticks.invariant.2 h stands),
)

pub returns-in-Done-clause-ticks : goal.returns-in-Done-clause-ticks
returns-in-Done-clause-ticks g c = λ h stands.
    let few : c.ticks.counter < c.args.most = omega arith in
    tick_last _ _ h c.args.dom _ _ _ _ c.in_ok-answer.field-0 c.in-Done.field-0 c.in-Done.field-1 c.in-Done.answer (same_setting g.P.Allows.may _ _ _ _ c.ticks.invariant.0 c.ticks.invariant.1) few c.in-Done.is c.in_ok-answer.ensures.stands (c.ticks.invariant.2 h stands)

pub returns-clause-ticks : goal.returns-clause-ticks
returns-clause-ticks g c = λ h stands.
    let all : c.ticks.counter ≡ c.args.most = omega arith in
    tick_none _ h c.args.dom _ _ _ all (c.ticks.invariant.2 h stands)
