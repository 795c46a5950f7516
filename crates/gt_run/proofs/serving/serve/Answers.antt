use Rattle.std.proofs.Common.{rules, ◌<◌, ◌∙◌, length, refl, subst, sym, arith}
use Rattle.std.proofs.lemmas.Bool.{eq-eqb, ne_eqb}
use Rattle.gt_live.specs.declared.domain.Domain.{Domain}
use Rattle.gt_live.specs.declared.monitor.Monitor.{Monitor}
use Rattle.gt_word_history.specs.declared.view.FlagStep.TheVariants.{Passed}
use Rattle.gt_run.specs.Asking.{MakesFlagStep, RaisesFlag}
use Rattle.gt_run.specs.Serving.{HasCome}
use Rattle.gt_run.proofs.ListLemmas.{await_more, come_none, do_more, gate_stops, list_ends, other_more, tell_more}
use Rattle.gt_run.proofs.serving.serve.Goals as goal
use Rattle.gt_run.proofs.serving.serve.Goals.{then-task-dom+in-Do, then-task-dom+in-Tell}
use Rattle.gt_run.proofs.serving.serve.Goals.{then-task-dom+in-Await+else-not-has_passed, else-task-dom}

pub tasks-init : goal.tasks-init
tasks-init g c = (c.requires.monitor, refl, come_none g.P.Allows.may _ _ _ _ _ c.requires.text c.requires.recorded c.new-labels.ensures)

pub returns-then-not-has_passed-clause-served : goal.returns-then-not-has_passed-clause-served
returns-then-not-has_passed-clause-served g c =
    let within : c.tasks.task-index < length c.args.job.part.tasks.now = search rules in
    let refused = c.if-not-has_passed.ensures.passed in
    gate_stops g.P.Allows.may (g.G.Gate.refuses c.args.gate.now) (λ v. v.items) c.args.job _ _ _ _ _ _ _ _ _ _ _ _ within c.task-item.is (eq-eqb _ _ c.if-task-dom.true) c.in-Await.is refused.1 c.gate_line.ensures
    (subst (λ (d : Domain). HasCome g.P.Allows.may c.args.job c.args.domain.now.domain c.tasks.whole c.tasks.task-index c.tasks.text.items d c.tasks.labels c.tasks.logger) (sym refused.0) c.tasks.invariant.2)
    c.has_appended.ensures.appended c.has_appended.ensures.kept

pub tasks-preserved : goal.tasks-preserved
tasks-preserved g c =
    let within : c.tasks.task-index < length c.args.job.part.tasks.now = search rules in
    elim c.if-task-dom.branch [
      | then-task-dom+in-Do w ↦ rw (w.whole-is, w.text-is, w.domain-is, w.labels-is, w.logger-is) (
        w.call_line-printed.ensures.same.0 ∙ c.tasks.invariant.0,
        w.call_line-printed.ensures.same.1 ∙ c.tasks.invariant.1,
        do_more g.P.Allows.may (λ v. v.items) c.args.job _ _ _ _ _ _ _ _ _ _ _ _ _ _ w.in-Do.call within c.task-item.is (eq-eqb _ _ w.if-task-dom.true) w.in-Do.is
            w.call_line-printed.ensures.calls c.tasks.invariant.2 w.has_appended-whole.ensures.appended w.has_appended-whole.ensures.kept,
      )
      | then-task-dom+in-Tell w ↦ rw (w.whole-is, w.text-is, w.domain-is, w.labels-is, w.logger-is) (
        w.raise_flag.ensures.same.0 ∙ c.tasks.invariant.0,
        w.raise_flag.ensures.same.1 ∙ c.tasks.invariant.1,
        tell_more g.P.Allows.may c.args.job _ _ _ _ _ _ _ _ _ w.in-Tell.flag within c.task-item.is (eq-eqb _ _ w.if-task-dom.true) w.in-Tell.is
            (subst (λ (m : Monitor g.row.P.Denot). RaisesFlag g.P.Allows.may m w.in-Tell.flag c.tasks.domain.domain w.raise_flag.new.self.domain) c.tasks.invariant.0 w.raise_flag.ensures.raised) c.tasks.invariant.2,
      )
      | then-task-dom+in-Await+else-not-has_passed w ↦ rw (w.whole-is, w.text-is, w.domain-is, w.labels-is, w.logger-is) (
        w.has_passed.ensures.same.0 ∙ c.tasks.invariant.0,
        w.has_passed.ensures.same.1 ∙ c.tasks.invariant.1,
        await_more g.P.Allows.may c.args.job _ _ _ _ _ _ _ _ _ w.in-Await.flag within c.task-item.is (eq-eqb _ _ w.if-task-dom.true) w.in-Await.is
            (subst (λ (m : Monitor g.row.P.Denot). MakesFlagStep g.P.Allows.may m w.in-Await.flag Passed c.tasks.domain.domain w.has_passed.new.domain.domain) c.tasks.invariant.0 w.if-not-has_passed.ensures.passed) c.tasks.invariant.2,
      )
      | else-task-dom w ↦ rw (w.whole-is, w.text-is, w.domain-is, w.labels-is, w.logger-is) (
        c.tasks.invariant.0,
        c.tasks.invariant.1,
        other_more g.P.Allows.may c.args.job _ _ _ _ _ _ _ _ within c.task-item.is (ne_eqb _ _ w.if-task-dom.false) c.tasks.invariant.2,
      )
    ]

pub returns-clause-same : goal.returns-clause-same
returns-clause-same g c = (c.tasks.invariant.0 ∙ sym c.requires.monitor, c.tasks.invariant.1)

pub returns-clause-served : goal.returns-clause-served
returns-clause-served g c =
    list_ends g.P.Allows.may (g.G.Gate.refuses c.args.gate.now) c.args.job _ _ _ _ _ _ _ (omega (arith, c.tasks-test.false, c.tasks.auto.task-index-end)) c.tasks.invariant.2
