use Rattle.std.proofs.Common.{ap, ◌∙◌}
use Rattle.gt_model.specs.declared.held.HeldPin.{HeldPin}
use Rattle.gt_handles.specs.Handles.{HandleMap}
use Rattle.gt_live.proofs.DomainKept.{looked}
use Rattle.gt_live.proofs.Making.{same_seat-then, still_seat}
use Rattle.gt_live.proofs.Taking.{all-back}
use Rattle.gt_live.proofs.domain.Domain.end_pending.Goals as goal

pub give_back-requires : goal.give_back-requires
give_back-requires g c =
    let m = c.args.monitor.now in let e = c.args.self.now in let d = c.requires.pending.0 in
    let mine = c.requires.pending.1 in let h = c.requires.pending.2 in
    record {
      seat = still_seat m.words d.seat e.seat mine.seat h.kept.seat;
      taken = (d.seat.view, h.access.taken);
      of_run = h.access.of_run;
    }

pub returns-clause-mine : goal.returns-clause-mine
returns-clause-mine g c =
    let m = c.args.monitor.now in let e = c.args.self.now in let f = c.give_back.new.self in let d = c.requires.pending.0 in let mine = c.requires.pending.1 in let h = c.requires.pending.2 in
    let one = h.kept in let two = c.give_back.ensures.kept in let may = g.P.Allows.may m.rights in
    let same = all-back m.words.layout d.seat.view f.seat.view (c.give_back.ensures.gives.back d.seat.view h.access.taken) in
    let seat = same_seat-then d.seat e.seat f.seat one.seat two.seat in
    looked m.words m.config may d f mine (still_seat m.words d.seat f.seat mine.seat seat) seat.dom (ap (λ v. v.items) (two.own ∙ one.own)) (ap (λ (z : HandleMap HeldPin). z.slots) (two.mappings ∙ one.mappings)) same

pub returns-clause-ends : goal.returns-clause-ends
returns-clause-ends g c =
    let two = c.give_back.ensures.kept in
    record { gives = c.give_back.ensures.gives; seat = two.seat; own = two.own; mappings = two.mappings }
