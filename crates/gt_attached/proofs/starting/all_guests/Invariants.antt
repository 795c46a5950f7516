use Rattle.std.proofs.Common.{◌≡◌, ◌+◌, ◌≤◌, ◌++◌, vec_len, All, map}
use Rattle.std.specs.Prelude.{vec_capacity}
use Rattle.std.specs.Arc.{arc_value}
use Rattle.std.specs.Vec.Iter.{into_iter_items, into_iter_len}
use Rattle.gt_live.specs.Domains.{BelongsTo}
use Rattle.gt_attached.specs.Starting.{attached_to}
use Rattle.gt_attached.proofs.starting.all_guests.Given as goal

abbrev pub invariant-rest : goal.invariant-rest
invariant-rest g l = record {
  mine : All (λ d. BelongsTo g.P.Allows.may (arc_value l.monitor) d) (into_iter_items l.rest);
  room : vec_len l.all + into_iter_len l.rest ≤ vec_capacity l.all;
  few : vec_len l.all + into_iter_len l.rest ≤ l.count;
  made : vec_len l.all + into_iter_len l.rest ≡ l.count
      → l.all.items ++ map (attached_to (arc_value l.monitor)) (into_iter_items l.rest)
      ≡ map (attached_to (arc_value l.monitor)) l.fn.domains.items;
}

abbrev pub decreases-rest : goal.decreases-rest
decreases-rest g l = into_iter_len l.rest
