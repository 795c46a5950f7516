use Rattle.std.proofs.Common.{Some}
use Rattle.std.proofs.lemmas.List.Elements.{All-pop, All-push, All-same}
use Rattle.gt_words.specs.Conditions.{IsSeatOf, SeatOf}
use Rattle.bench.specs.Mapping.{CanMap}
use Rattle.bench.specs.declared.words.mapper.Mapper.{Mapper}
use Rattle.bench.proofs.Vias.{still_seat}
use Rattle.bench.proofs.words.loads.pass_on.Goals as goal

pub loop-gref-preserved : goal.loop-gref-preserved
loop-gref-preserved c = let b = c.args.words.now in let inv = c.loop-gref.invariant in
    let popped = All-pop (λ (s : SeatOf). IsSeatOf b s) c.loop-gref.seats.items c.pop.new.self.items (Some c.in-Some.seat) c.in-Some.ensures.items inv.seats in record {
      middle = still_seat b _ _ inv.middle c.passed_on.ensures.middle.0;
      unused = c.passed_on.ensures.middle.1;
      seats = popped.0;
      mappers = All-same (λ (m : Mapper). CanMap b m.seat m.target) _ _ c.in_ok-push.ensures.items (All-push (λ (m : Mapper). CanMap b m.seat m.target) _ _ inv.mappers c.in-Some-passed_on.ensures.mapper);
    }
