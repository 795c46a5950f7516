use Rattle.std.proofs.Common.{◌∙◌, Bool, ap, refl, subst, sym}
use Rattle.gt_model.specs.Words.{is_kind}
use Rattle.gt_model.specs.declared.control.Control.{Control}
use Rattle.gt_model.specs.declared.control.EntryKind.{EntryKind}
use Rattle.gt_model.specs.declared.control.EntryKind.TheVariants.{Sub}
use Rattle.gt_live.specs.Walks.{ReadsSecond}
use Rattle.gt_live.proofs.Making.{same_seat-then}
use Rattle.gt_live.proofs.Legs.{no-sub}
use Rattle.gt_live.proofs.driving.look_at_body.Goals as goal

pub returns-in-Sub : goal.returns-in-Sub
returns-in-Sub c =
    let kind = ap (λ (x : Control). x.kind) (sym c.unpack.ensures.holds) ∙ c.in-Sub.is in
    record {
      seat = same_seat-then _ _ _ c.load_body_at-first.ensures.seat c.load_body_at-second.ensures.seat;
      read = (
        c.load_body_at-first.new.seat.view,
        c.load_body_at-first.ensures.look,
        subst (λ (b : Bool). ReadsSecond b c.args.words.now.layout c.args.leg.now c.load_body_at-second.result
            c.load_body_at-first.new.seat.view c.load_body_at-second.new.seat.view)
            (sym (ap (λ (x : EntryKind). is_kind x Sub) kind)) c.load_body_at-second.ensures.look,
      );
    }

pub returns-in_default : goal.returns-in_default
returns-in_default c =
    let kind = ap (λ (x : Control). is_kind x.kind Sub) (sym c.unpack.ensures.holds)
    ∙ no-sub c.unpack.result.kind c.in_default.not-Sub in
    record {
      seat = c.load_body_at-first.ensures.seat;
      read = (
        c.load_body_at-first.new.seat.view,
        c.load_body_at-first.ensures.look,
        subst (λ (b : Bool). ReadsSecond b c.args.words.now.layout c.args.leg.now 0
            c.load_body_at-first.new.seat.view c.load_body_at-first.new.seat.view)
            (sym kind) (refl, refl),
      );
    }
