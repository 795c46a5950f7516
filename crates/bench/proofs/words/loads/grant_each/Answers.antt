use Rattle.std.proofs.Common.{◌∙◌, sym, arith, inl, Some}
use Rattle.std.proofs.lemmas.List.Elements.{All-pop, All-push, All-same}
use Rattle.gt_words.specs.Conditions.{IsSeatOf, SeatOf}
use Rattle.bench.specs.Mapping.{CanMap}
use Rattle.bench.specs.declared.words.mapper.Mapper.{Mapper}
use Rattle.bench.proofs.Vias.{still_seat}
use Rattle.bench.proofs.words.loads.grant_each.Goals as goal

pub loop-preserved : goal.loop-preserved
loop-preserved c = let b = c.args.words.now in let inv = c.loop.invariant in
    let popped = All-pop (λ (s : SeatOf). IsSeatOf b s) c.loop.seats.items c.pop.new.self.items (Some c.in-Some.seat) c.in-Some.ensures.items inv.seats in record {
      owner = still_seat b _ _ inv.owner c.publish.ensures.owner.0;
      unused = λ r from. c.publish.ensures.others r (omega (arith, c.requires.stride.0)) ∙ inv.unused r (omega (arith, from));
      seats = popped.0;
      mappers = All-same (λ (m : Mapper). CanMap b m.seat m.target) _ _ c.in_ok-push.ensures.items (All-push (λ (m : Mapper). CanMap b m.seat m.target) _ _ inv.mappers (record {
        seat = popped.1;
        entry = (c.requires.domain, c.if-gref-ge-TABLE_ENTRIES.false);
        may = inl (popped.1.named ∙ sym c.dom-named.ensures);
      }));
    }
