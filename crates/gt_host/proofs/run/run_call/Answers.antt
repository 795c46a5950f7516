use Rattle.std.proofs.Common.{refl}
use Rattle.gt_model.specs.Asking.{asked}
use Rattle.gt_model.specs.declared.bounds.TheConstants.{MAX_STEPS}
use Rattle.gt_model.specs.History.{Setting, setting_of}
use Rattle.gt_host.proofs.OpenLemmas.{begins_open, unanswered}
use Rattle.gt_host.proofs.RunLemmas.{call_busy, call_done, call_ticked}
use Rattle.gt_script_runs.proofs.StartLemmas.{same_setting}
use Rattle.gt_host.proofs.run.run_call.Goals as goal

pub returns-in-Done-clause-calls : goal.returns-in-Done-clause-calls
returns-in-Done-clause-calls g c = λ h stands. call_done _ h c.args.dom c.args.request c.in_ok-answer.field-0 c.in-Done.answer _ c.in-Done.is (c.in_ok-answer.ensures.stands h stands)

pub returns-in-Busy-clause-calls : goal.returns-in-Busy-clause-calls
returns-in-Busy-clause-calls g c = λ h stands. call_busy _ h c.args.dom c.args.request c.in_ok-answer.field-0 _ c.in-Busy.is (c.in_ok-answer.ensures.stands h stands)

pub unreachable-requires : goal.unreachable-requires
unreachable-requires g c =
    let s : Setting = setting_of c.args.core.now.config (g.P.Allows.may c.args.core.now.rights) in
    let told = c.in_ok-answer.ensures.stands c.requires.history c.requires.stands in
    unanswered s _ _ c.args.dom MAX_STEPS (asked c.args.request) _ _ _ refl (same_setting g.P.Allows.may _ _ _ _ c.begin.ensures.config c.begin.ensures.rights) c.requires.known
    (begins_open s c.requires.history c.args.dom c.args.request c.in_ok-answer.field-0 c.requires.known c.in-Open.is told.0) told.1 c.in_ok-answer-in-Open.ensures.ticks c.in-None.is

pub returns-in-Some-clause-calls : goal.returns-in-Some-clause-calls
returns-in-Some-clause-calls g c = λ h stands.
    call_ticked _ _ h c.args.dom MAX_STEPS c.args.request c.in_ok-answer.field-0 _ _ c.in-Some.answer _ (same_setting g.P.Allows.may _ _ _ _ c.begin.ensures.config c.begin.ensures.rights) c.requires.known
    c.in-Open.is (c.in_ok-answer.ensures.stands h stands) c.in_ok-answer-in-Open.ensures.ticks c.in-Some.is
