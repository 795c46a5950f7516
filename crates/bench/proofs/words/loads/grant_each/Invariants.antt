use Rattle.std.proofs.Common.{All}
use Rattle.gt_words.specs.Conditions.{IsSeatOf}
use Rattle.bench.specs.Mapping.{CanMap, IsUnusedFrom}
use Rattle.bench.proofs.words.loads.grant_each.Given as goal

abbrev pub invariant-loop : goal.invariant-loop
invariant-loop l = record {
  owner : IsSeatOf l.words l.owner;
  unused : IsUnusedFrom l.gref.0 l.owner.view;
  seats : All (λ s. IsSeatOf l.words s) l.seats.items;
  mappers : All (λ m. CanMap l.words m.seat m.target) l.mappers.items;
}
