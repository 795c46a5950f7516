use Rattle.std.proofs.Common.{◌≡◌, ◌∙◌, ◌+◌, ◌<◌, ap, sym, subst, refl, Some, None, Option}
use Rattle.gt_types.specs.declared.limits.TheConstants.{TABLE_ENTRIES}
use Rattle.std.specs.Option.{IsSome}
use Rattle.std.specs.Prelude.{OnSome}
use Rattle.gt_model.specs.declared.handle.Handle.{Handle}
use Rattle.gt_handles.specs.Handles.{HandleMap, Updates, count_of, value_of}
use Rattle.gt_handles.specs.Listing.{IsTaken}
use Rattle.gt_words.specs.Conditions.{HasDomain, Holds, position_at}
use Rattle.gt_words.specs.Answers.{Unpins, UnpinsTo}
use Rattle.gt_word_history.specs.Controls.{generation_of}
use Rattle.gt_word_history.specs.Rule.{position_in}
use Rattle.gt_words.specs.declared.words.Pin.{Pin}
use Rattle.gt_model.specs.declared.held.HeldPin.{HeldPin}
use Rattle.gt_live.proofs.DomainKept.{some-pins, unmapped}
use Rattle.gt_live.proofs.Making.{still_seat}
use Rattle.gt_live.proofs.domain.Domain.drop_mapping.Goals as goal

-- what was taken out under this handle
taken-out : (old new : HandleMap HeldPin) (h : Handle) (m : HeldPin) (r : Option HeldPin) → value_of old h ≡ Some m → r ≡ value_of old h
    → Updates old new h None → OnSome r (count_of new + 1 ≡ count_of old) → new.given ≡ old.given → IsTaken old new h m
taken-out old new h m r there value updates count given = record {
  value = there;
  updates = updates;
  count = subst (λ (o : Option HeldPin). OnSome o (count_of new + 1 ≡ count_of old)) (value ∙ there) count;
  given = given;
}

pub unwrap-held-requires : goal.unwrap-held-requires
unwrap-held-requires g c = subst (λ (x : Option HeldPin). IsSome x) (sym c.take.ensures.value) c.requires.there

pub unpin_at-word-requires-clause-entry : goal.unpin_at-word-requires-clause-entry
unpin_at-word-requires-clause-entry g c =
    let m = c.args.monitor.now in let d = c.args.self.now in let held = c.unwrap-held.result in
    let there : value_of d.mappings c.args.handle ≡ Some held = sym c.take.ensures.value ∙ c.unwrap-held.ensures in
    let pin = (c.requires.mine.mapped c.args.handle held there).pin in
    subst (λ (x : Pin). HasDomain m.words.layout x.dom × (x.gref.0 < TABLE_ENTRIES)) (sym c.pin_of.ensures) (pin.run, pin.inside)

pub unpin_at-word-requires-clause-held : goal.unpin_at-word-requires-clause-held
unpin_at-word-requires-clause-held g c =
    let m = c.args.monitor.now in let d = c.args.self.now in let k = m.words.layout in let held = c.unwrap-held.result in
    let there : value_of d.mappings c.args.handle ≡ Some held = sym c.take.ensures.value ∙ c.unwrap-held.ensures in
    subst (λ (x : Pin). Holds (position_in k.ids x.dom) x.gref.0 x.dir (generation_of x.word) d.seat.view) (sym c.pin_of.ensures)
    (some-pins k d.seat.view d.mappings c.requires.mine.pins c.args.handle held there)

pub unpin_at-word-requires-clause-place : goal.unpin_at-word-requires-clause-place
unpin_at-word-requires-clause-place g c =
    let m = c.args.monitor.now in let held = c.unwrap-held.result in
    c.position_under-at.ensures held (sym c.take.ensures.value ∙ c.unwrap-held.ensures)
    ∙ sym (ap (λ (x : Pin). position_at m.words x.dom) c.pin_of.ensures)

pub returns : goal.returns
returns g c =
    let m = c.args.monitor.now in let d = c.args.self.now in let k = m.words.layout in
    let held = c.unwrap-held.result in let new = c.take.new.self in let seat = c.unpin_at-word.new.seat in let t = c.take.ensures in
    let there : value_of d.mappings c.args.handle ≡ Some held = sym t.value ∙ c.unwrap-held.ensures in
    let step = subst (λ (p : Pin). Unpins k (position_in k.ids p.dom) p.gref.0 p.dir (generation_of p.word) d.seat.view seat.view) c.pin_of.ensures c.unpin_at-word.ensures.step in
    let taken = taken-out d.mappings new c.args.handle held c.take.result there t.value t.updates t.count t.given in
    let to = subst (λ (p : Pin). UnpinsTo k (position_in k.ids p.dom) p.gref.0 p.dir (generation_of p.word) c.unpin_at-word.result d.seat.view seat.view) c.pin_of.ensures c.unpin_at-word.ensures.left in
    record {
      mine = unmapped m.words m.config (g.P.Allows.may m.rights) d (record d { seat = seat; mappings = new }) c.args.handle held c.requires.mine (still_seat m.words d.seat seat c.requires.mine.seat c.unpin_at-word.ensures.seat) c.unpin_at-word.ensures.seat.dom refl taken step;
      seat = c.unpin_at-word.ensures.seat;
      dropped = (held, record { taken = taken; spent = t.still_spent }, step);
      left = (held, record { taken = taken; spent = t.still_spent }, refl, refl, to);
      silent = refl;
    }
