use Rattle.std.proofs.Common.{◌≡◌}
use Rattle.gt_run.specs.Serving.{HasCome}
use Rattle.gt_run.proofs.serving.serve.Given as goal

abbrev pub invariant-tasks : goal.invariant-tasks
invariant-tasks g l =
    (l.domain.monitor ≡ l.job.monitor.now) × (l.domain.domain.seat.dom ≡ l.initial.domain.domain.seat.dom)
    × HasCome g.P.Allows.may l.job l.initial.domain.domain l.whole l.task-index l.text.items l.domain.domain l.labels l.logger
