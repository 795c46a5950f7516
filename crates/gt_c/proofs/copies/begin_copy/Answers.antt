use Rattle.std.proofs.Common.{◌≡◌, ◌∙◌, ap, refl, subst, sym, Result, Ok, Err}
use Rattle.gt_types.specs.declared.copies.CopyArgs.{CopyArgs}
use Rattle.gt_types.specs.declared.denial.Denial.{Denial}
use Rattle.gt_types.specs.declared.denial.Rule.{Rule}
use Rattle.gt_attached.specs.Encoding.{encoded}
use Rattle.gt_attached.specs.declared.answer.AttachedOutcome.TheVariants as outcomes
use Rattle.gt_c.specs.Reports.{BeginsAsked, no_copy_places, copy_asked}
use Rattle.gt_c.proofs.Made.{idle-there, made-telling}
use Rattle.gt_c.proofs.copies.begin_copy.Goals as goal

pub copy_begin_at-requires : goal.copy_begin_at-requires
copy_begin_at-requires g c = record { idle = idle-there c.args.domain.now.held.value (c.is_turned_away.ensures.may c.if-is_turned_away.false) c.lent_mut-lent.ensures.value }

pub returns-in-Ok-copy_begin_at : goal.returns-in-Ok-copy_begin_at
returns-in-Ok-copy_begin_at g c =
    let x = c.lent_mut-lent.result.now in
    let answer = c.store_begun.new.begun.answer in
    let places = c.store_begun.new.begun.places in
    made-telling answer (places ≡ no_copy_places) (BeginsAsked (copy_asked c.args.copy.now) places answer) (c.is_turned_away.ensures.may c.if-is_turned_away.false) c.lent_mut-lent.ensures.value
    (subst (λ (r : Result CopyArgs Rule). BeginsAsked r places answer x (record x { attached = c.copy_begin_at.new.self })) (sym c.in-Ok.is ∙ c.copy_asked.ensures)
    (record {
      result = Ok c.in-Ok-copy_begin_at.places;
      encodes = c.store_begun.ensures.answer;
      shown = c.store_begun.ensures.places;
      begins = c.in-Ok-copy_begin_at.ensures.begins;
    }))

pub returns-in-Err : goal.returns-in-Err
returns-in-Err g c =
    let x = c.lent_mut-lent.result.now in
    let answer = c.store_refused_copy.new.begun.answer in
    let places = c.store_refused_copy.new.begun.places in
    made-telling {x = x} {g = x.attached} answer (places ≡ no_copy_places) (BeginsAsked (copy_asked c.args.copy.now) places answer) (c.is_turned_away.ensures.may c.if-is_turned_away.false) c.lent_mut-lent.ensures.value
    (subst (λ (r : Result CopyArgs Rule). BeginsAsked r places answer x x) (sym c.in-Err.is ∙ c.copy_asked.ensures)
    (refl, c.store_refused_copy.ensures.answer ∙ ap (λ (d : Denial). encoded (outcomes.Denied d)) c.new.ensures, c.store_refused_copy.ensures.places))

pub returns-in-Err-copy_begin_at : goal.returns-in-Err-copy_begin_at
returns-in-Err-copy_begin_at g c =
    let x = c.lent_mut-lent.result.now in
    let answer = c.store_refused_copy-in-Err-copy_begin_at.new.begun.answer in
    let places = c.store_refused_copy-in-Err-copy_begin_at.new.begun.places in
    made-telling answer (places ≡ no_copy_places) (BeginsAsked (copy_asked c.args.copy.now) places answer) (c.is_turned_away.ensures.may c.if-is_turned_away.false) c.lent_mut-lent.ensures.value
    (subst (λ (r : Result CopyArgs Rule). BeginsAsked r places answer x (record x { attached = c.copy_begin_at.new.self })) (sym c.in-Ok.is ∙ c.copy_asked.ensures)
    (record {
      result = Err c.in-Err-copy_begin_at.denial;
      encodes = c.store_refused_copy-in-Err-copy_begin_at.ensures.answer;
      shown = c.store_refused_copy-in-Err-copy_begin_at.ensures.places;
      begins = c.in-Err-copy_begin_at.ensures.begins;
    }))
