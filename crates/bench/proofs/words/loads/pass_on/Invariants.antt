use Rattle.std.proofs.Common.{All}
use Rattle.gt_words.specs.Conditions.{IsSeatOf}
use Rattle.bench.specs.Mapping.{CanMap, IsUnusedFrom}
use Rattle.bench.proofs.words.loads.pass_on.Given as goal

abbrev pub invariant-loop-gref : goal.invariant-loop-gref
invariant-loop-gref l = record {
  middle : IsSeatOf l.words l.middle;
  unused : IsUnusedFrom l.gref l.middle.view;
  seats : All (λ s. IsSeatOf l.words s) l.seats.items;
  mappers : All (λ m. CanMap l.words m.seat m.target) l.mappers.items;
}
