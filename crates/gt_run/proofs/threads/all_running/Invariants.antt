use Rattle.std.proofs.Common.{◌+◌, ◌++◌, ◌≤◌, ◌≡◌, vec_len, map, All}
use Rattle.std.specs.Prelude.{vec_capacity}
use Rattle.std.specs.Vec.Iter.{into_iter_items, into_iter_len}
use Rattle.gt_live.specs.Domains.{BelongsTo}
use Rattle.gt_run.proofs.threads.all_running.Given as goal

abbrev pub invariant-rest : goal.invariant-rest
invariant-rest g l =
    All (BelongsTo g.P.Allows.may l.monitor) (into_iter_items l.rest) × (vec_len l.all + into_iter_len l.rest ≤ vec_capacity l.all)
    × (l.all.items ++ map (λ d. record { monitor = l.monitor; domain = d }) (into_iter_items l.rest) ≡ map (λ d. record { monitor = l.monitor; domain = d }) l.fn.domains.items)

abbrev pub decreases-rest : goal.decreases-rest
decreases-rest g l = into_iter_len l.rest
