use Rattle.std.proofs.Common.{◌∙◌, refl, subst}
use Rattle.gt_calls.specs.Following.{Starts}
use Rattle.gt_calls.specs.Known.{knows}
use Rattle.gt_calls.specs.declared.asking.Judged.{Judged}
use Rattle.gt_calls.specs.declared.call.Call.{Call}
use Rattle.gt_explore_moves.proofs.Beginnings.{left-same, not-done, opened}
use Rattle.gt_explore_moves.proofs.calls.open_call.Goals as goal

pub returns-in-Answered : goal.returns-in-Answered
returns-in-Answered g c = λ k alike. let e = c.in-Answered.ensures {u = tt} in alike.begins ∙ e.0

pub returns-in-Step : goal.returns-in-Step
returns-in-Step g c = λ k alike. let l = knows g.P.Allows.may c.args.known.now in
    let starts = subst (λ (z : Judged Call). Starts l c.args.dom c.args.request z) c.in-Open.is c.begin.ensures in
    opened k l c.args.dom c.args.request c.in-Open.first c.next.new.self c.next.result c.in-Step.step starts alike
    (c.next.ensures.goes k (left-same k l c.args.dom c.args.request c.in-Open.first starts alike)) c.in-Step.is c.next.ensures.caller c.next.ensures.request

pub returns-in-Done : goal.returns-in-Done
returns-in-Done g c = λ k alike. let l = knows g.P.Allows.may c.args.known.now in
    absurd (not-done l c.args.dom c.args.request c.in-Open.first c.next.new.self c.next.result c.in-Done.verdict
    (subst (λ (z : Judged Call). Starts l c.args.dom c.args.request z) c.in-Open.is c.begin.ensures)
    (c.next.ensures.goes l refl) c.in-Done.is)
