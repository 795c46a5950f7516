use Rattle.std.proofs.Common.{All}
use Rattle.std.specs.Vec.Iter.{into_iter_items, into_iter_len}
use Rattle.gt_live.specs.Domains.{BelongsTo}
use Rattle.test_monitor.proofs.running.all_running.Given as goal

abbrev pub invariant-rest : goal.invariant-rest
invariant-rest g l = All (λ d. BelongsTo g.P.Allows.may l.monitor d) (into_iter_items l.rest)

abbrev pub decreases-rest : goal.decreases-rest
decreases-rest g l = into_iter_len l.rest
