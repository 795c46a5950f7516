use Rattle.gt_words.specs.Conditions.{IsSeatOf}
use Rattle.bench.specs.Mapping.{MayMap}
use Rattle.bench.proofs.words.mapper.map_and_unmap.Given as goal

abbrev pub invariant-loop : goal.invariant-loop
invariant-loop l = record {
  seat : IsSeatOf l.words l.seat;
  may : MayMap l.words l.target l.seat.view;
}
