use Rattle.std.proofs.Common.{◌<◌, sym, subst, refl, [], ◌∷◌}
use Rattle.gt_types.specs.declared.limits.TheConstants.{TABLE_ENTRIES}
use Rattle.gt_words.specs.Conditions.{HasDomain, Holds}
use Rattle.gt_words.specs.Answers.{Unpins}
use Rattle.gt_word_history.specs.Controls.{generation_of}
use Rattle.gt_word_history.specs.Rule.{position_in}
use Rattle.gt_words.specs.declared.words.Pin.{Pin}
use Rattle.gt_live.specs.declared.domain.Domain.{Domain}
use Rattle.gt_live.proofs.DomainKept.{some-pins, unmapped}
use Rattle.gt_live.proofs.Making.{same_seat-self, same_seat-then, still_seat}
use Rattle.gt_live.proofs.domain.Domain.release_all.Goals as goal

pub mappings-init : goal.mappings-init
mappings-init g c = record { mine = c.requires.mine; seat = same_seat-self c.args.self.now.seat; silent = refl; released = ([], (refl, refl)) }

pub unpin-requires-clause-entry : goal.unpin-requires-clause-entry
unpin-requires-clause-entry g c =
    let pin = (c.mappings.invariant.mine.mapped c.in-Some.field-0-0 c.in-Some.held c.in-Some.ensures.value).pin in
    subst (λ (x : Pin). HasDomain c.args.monitor.now.words.layout x.dom × (x.gref.0 < TABLE_ENTRIES)) (sym c.pin_of.ensures) (pin.run, pin.inside)

pub unpin-requires-clause-held : goal.unpin-requires-clause-held
unpin-requires-clause-held g c =
    let inv = c.mappings.invariant in let k = c.args.monitor.now.words.layout in let v = c.mappings.self.seat.view in
    subst (λ (x : Pin). Holds (position_in k.ids x.dom) x.gref.0 x.dir (generation_of x.word) v) (sym c.pin_of.ensures)
    (some-pins k v c.mappings.self.mappings inv.mine.pins c.in-Some.field-0-0 c.in-Some.held c.in-Some.ensures.value)

pub mappings-preserved : goal.mappings-preserved
mappings-preserved g c =
    let m = c.args.monitor.now in let may = g.P.Allows.may m.rights in let inv = c.mappings.invariant in let d = c.mappings.self in let x = c.in-Some.held in let h = c.in-Some.field-0-0 in let e = c.in-Some.ensures in
    let k = m.words.layout in
    let step = subst (λ (p : Pin). Unpins k (position_in k.ids p.dom) p.gref.0 p.dir (generation_of p.word) d.seat.view c.unpin.new.seat.view) c.pin_of.ensures c.unpin.ensures.step in
    let new : Domain = record d { seat = c.unpin.new.seat; mappings = c.pop.new.self } in
    record {
      mine = unmapped m.words m.config may d new h x inv.mine (still_seat m.words d.seat c.unpin.new.seat inv.mine.seat c.unpin.ensures.seat) c.unpin.ensures.seat.dom refl (record { value = e.value; updates = e.updates; count = e.count; given = e.given }) step;
      seat = same_seat-then c.args.self.now.seat d.seat c.unpin.new.seat inv.seat c.unpin.ensures.seat;
      silent = inv.silent;
      released = (h ∷ inv.released.0, (x, d.mappings, d.seat.view, inv.released.1, record { taken = record { value = e.value; updates = e.updates; count = e.count; given = e.given }; spent = e.still_spent }, step));
    }
