use Rattle.std.proofs.Common.{◌∙◌, arith, inl, inr, refl, sym}
use Rattle.gt_c.specs.Starting.{c_domain_of}
use Rattle.gt_c.proofs.Starting.{all-idle, are-right, handed-over, same-length}
use Rattle.gt_c.proofs.beginning.gthost_start_at.Goals as goal

pub hand_out-requires : goal.hand_out-requires
hand_out-requires c =
    let boxes = same-length (λ b. b.value) (c_domain_of c.args.run) c.in-Ok-boxed.all.items c.in-Ok.guests.items c.in-Ok-boxed.ensures in
    let count = c.in-Ok.ensures.count in let same = c.if-out-settings.false in
    record {
      idle = all-idle c.args.out.now (sym c.is_any_live.ensures ∙ c.if-is_any_live.false);
      count = omega (arith, boxes, count, same);
    }

pub returns-in-Err : goal.returns-in-Err
returns-in-Err c =
    let right = are-right c.args.settings.now c.args.out.now c.if-out-settings.false (sym c.is_any_live.ensures ∙ c.if-is_any_live.false) in
    inr (refl, inr (right, c.in-Err.ensures.fault))

pub returns-in_default : goal.returns-in_default
returns-in_default c =
    let right = are-right c.args.settings.now c.args.out.now c.if-out-settings.false (sym c.is_any_live.ensures ∙ c.if-is_any_live.false) in
    inr (refl, inr (right, inl (inl refl)))

pub returns : goal.returns
returns c =
    inl (
      refl,
      record {
        guests = c.in-Ok.guests.items;
        begun = c.in-Ok.ensures.begun;
        handed = handed-over (λ b. b.value) (c_domain_of c.args.run) c.in-Ok-boxed.all.items c.in-Ok.guests.items _ c.hand_out.ensures
            c.in-Ok-boxed.ensures;
      },
    )
