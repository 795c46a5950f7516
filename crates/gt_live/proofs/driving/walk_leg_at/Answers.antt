use Rattle.std.proofs.Common.{◌≡◌, ◌∙◌, Option, None, Some, ap, subst, sym}
use Rattle.std.proofs.lemmas.Bool.{eq-eqb, ne_eqb}
use Rattle.gt_types.specs.declared.denial.Rule.{Rule}
use Rattle.gt_model.specs.declared.action.Observation.TheVariants.{Taken, Word}
use Rattle.gt_model.specs.declared.action.Step.TheVariants.{Pin}
use Rattle.gt_model.specs.declared.held.HeldPin.{HeldPin}
use Rattle.gt_calls.specs.declared.leg.LegNext.TheVariants.{Refused, Pinned}
use Rattle.gt_calls.specs.declared.leg.LegPhase.TheVariants.{Body, Header, Look, Pinning, Relook}
use Rattle.gt_calls.specs.Legs.{after_miss}
use Rattle.gt_live.specs.Driving.{CanMake}
use Rattle.gt_live.specs.Legs.{WalksLeg}
use Rattle.gt_live.specs.Walks.{Made}
use Rattle.gt_words.specs.Conditions.{IsSameSeat, position_at}
use Rattle.gt_live.proofs.Making.{same_seat-then, still_seat}
use Rattle.gt_live.proofs.Legs.{control-made}
use Rattle.gt_live.proofs.Legs.{header-passes, header-refuses, last-miss, look-refuses, looked, next-try, pin-missed}
use Rattle.gt_live.proofs.Legs.{relook-missed, relook-refuses, tried, walk-begins, walk-on, walk-to}
use Rattle.gt_live.proofs.driving.walk_leg_at.Goals as goal
use Rattle.gt_live.proofs.driving.walk_leg_at.Goals.{in-Some-judge_words+else-found-word, in-None+in-Err}

pub load_header_at-header-requires-clause-domain : goal.load_header_at-header-requires-clause-domain
load_header_at-header-requires-clause-domain c =
    let k = c.args.words.now.layout in let v = c.args.seat.now.view in let leg = c.args.leg.now in
    c.requires.can Header v (walk-begins k leg v)

pub returns-then-not-has_entry : goal.returns-then-not-has_entry
returns-then-not-has_entry c =
    let k = c.args.words.now.layout in let v = c.args.seat.now.view in let leg = c.args.leg.now in
    let seen = c.load_header_at-header in
    record {
      seat = seen.ensures.seat;
      walked = walk-to k leg v _ (Refused c.header_refusal.result) seen.new.seat.view
          (header-refuses leg seen.result c.has_entry.result c.header_refusal.result c.has_entry.ensures
          c.if-not-has_entry.true c.header_refusal.ensures)
          (walk-on k leg v Header (Word seen.result) v seen.new.seat.view (walk-begins k leg v) seen.ensures.look);
    }

pub tries-init : goal.tries-init
tries-init c =
    let k = c.args.words.now.layout in let v = c.args.seat.now.view in let leg = c.args.leg.now in
    let seen = c.load_header_at-header in
    record {
      seat = still_seat c.args.words.now _ _ c.requires.seat seen.ensures.seat;
      same = seen.ensures.seat;
      going = walk-to k leg v _ _ seen.new.seat.view
          (header-passes leg seen.result c.has_entry.result c.has_entry.ensures c.if-not-has_entry.false)
          (walk-on k leg v Header (Word seen.result) v seen.new.seat.view (walk-begins k leg v) seen.ensures.look);
    }

pub load_control_at-word-requires-clause-entry : goal.load_control_at-word-requires-clause-entry
load_control_at-word-requires-clause-entry c =
    c.requires.can (Look c.tries.more) c.tries.seat.view c.tries.invariant.going

pub returns-in-Some : goal.returns-in-Some
returns-in-Some c =
    let k = c.args.words.now.layout in let v = c.args.seat.now.view in let leg = c.args.leg.now in
    let word = c.load_control_at-word in
    let made = control-made c.args.words.now leg word.result c.tries.seat word.new.seat.view c.tries.invariant.seat
    word.ensures.look word.ensures.own in
    record {
      seat = same_seat-then _ _ _ c.tries.invariant.same word.ensures.seat;
      walked = walk-to k leg v _ (Refused c.entry_refusal.result) word.new.seat.view
          (look-refuses leg c.tries.more word.result c.judge_control.result _ c.in-Some.rule c.entry_refusal.result
          c.judge_control.ensures c.in-Some.is c.entry_refusal.ensures)
          (walk-on k leg v (Look c.tries.more) (Word word.result) c.tries.seat.view word.new.seat.view
          c.tries.invariant.going made);
    }

pub look_at_body-body-requires-clause-can : goal.look_at_body-body-requires-clause-can
look_at_body-body-requires-clause-can c =
    let k = c.args.words.now.layout in let v = c.args.seat.now.view in let leg = c.args.leg.now in
    let word = c.load_control_at-word in
    let made = control-made c.args.words.now leg word.result c.tries.seat word.new.seat.view c.tries.invariant.seat
    word.ensures.look word.ensures.own in
    c.requires.can (Body c.tries.more word.result) word.new.seat.view
    (looked k leg v c.tries.more word.result c.judge_control.result c.tries.seat.view word.new.seat.view
    c.tries.invariant.going made c.judge_control.ensures c.in_default.is)

pub load_control_at-found-requires-clause-entry : goal.load_control_at-found-requires-clause-entry
load_control_at-found-requires-clause-entry c =
    let k = c.args.words.now.layout in let v = c.args.seat.now.view in let leg = c.args.leg.now in
    let word = c.load_control_at-word in
    let made = control-made c.args.words.now leg word.result c.tries.seat word.new.seat.view c.tries.invariant.seat
    word.ensures.look word.ensures.own in
    let body = c.look_at_body-body in let rule = c.in-Some-judge_words.rule in
    c.requires.can (Relook c.tries.more word.result rule) body.new.seat.view
    (tried k leg v c.tries.more word.result body.result.first body.result.second c.judge_control.result
    c.judge_words.result (Some rule) c.tries.seat.view word.new.seat.view body.new.seat.view c.tries.invariant.going
    made c.judge_control.ensures c.in_default.is body.ensures.read c.judge_words.ensures
    c.in-Some-judge_words.is)

pub returns-then-found-word : goal.returns-then-found-word
returns-then-found-word c =
    let k = c.args.words.now.layout in let v = c.args.seat.now.view in let leg = c.args.leg.now in
    let word = c.load_control_at-word in
    let made = control-made c.args.words.now leg word.result c.tries.seat word.new.seat.view c.tries.invariant.seat
    word.ensures.look word.ensures.own in
    let body = c.look_at_body-body in let rule = c.in-Some-judge_words.rule in
    let found = c.load_control_at-found in
    record {
      seat = same_seat-then _ _ _ (same_seat-then _ _ _ (same_seat-then _ _ _ c.tries.invariant.same word.ensures.seat)
          body.ensures.seat) found.ensures.seat;
      walked = walk-to k leg v _ (Refused c.entry_refusal-then-found-word.result) found.new.seat.view
          (relook-refuses leg c.tries.more word.result rule found.result c.entry_refusal-then-found-word.result
          (eq-eqb _ _ c.if-found-word.true) c.entry_refusal-then-found-word.ensures)
          (walk-on k leg v (Relook c.tries.more word.result rule) (Word found.result) body.new.seat.view
          found.new.seat.view
          (tried k leg v c.tries.more word.result body.result.first body.result.second c.judge_control.result
          c.judge_words.result (Some rule) c.tries.seat.view word.new.seat.view body.new.seat.view
          c.tries.invariant.going made c.judge_control.ensures c.in_default.is body.ensures.read
          c.judge_words.ensures c.in-Some-judge_words.is)
          (control-made c.args.words.now leg found.result body.new.seat found.new.seat.view
          (still_seat c.args.words.now _ _ word.ensures.fits body.ensures.seat) found.ensures.look found.ensures.own));
    }

pub take_pin-requires-clause-can : goal.take_pin-requires-clause-can
take_pin-requires-clause-can c =
    let k = c.args.words.now.layout in let v = c.args.seat.now.view in let leg = c.args.leg.now in
    let word = c.load_control_at-word in
    let made = control-made c.args.words.now leg word.result c.tries.seat word.new.seat.view c.tries.invariant.seat
    word.ensures.look word.ensures.own in
    let body = c.look_at_body-body in
    subst (λ (p : HeldPin). CanMake k body.new.seat.view (Pin p)) (sym c.pinned-held.ensures)
    (c.requires.can (Pinning c.tries.more word.result body.result.first body.result.second) body.new.seat.view
    (tried k leg v c.tries.more word.result body.result.first body.result.second c.judge_control.result
    c.judge_words.result None c.tries.seat.view word.new.seat.view body.new.seat.view c.tries.invariant.going
    made c.judge_control.ensures c.in_default.is body.ensures.read c.judge_words.ensures c.in-None.is))

pub returns-in-Ok : goal.returns-in-Ok
returns-in-Ok c =
    let k = c.args.words.now.layout in let v = c.args.seat.now.view in let leg = c.args.leg.now in
    let word = c.load_control_at-word in
    let made = control-made c.args.words.now leg word.result c.tries.seat word.new.seat.view c.tries.invariant.seat
    word.ensures.look word.ensures.own in
    let body = c.look_at_body-body in let pin = c.take_pin in
    record {
      seat = same_seat-then _ _ _ (same_seat-then _ _ _ (same_seat-then _ _ _ c.tries.invariant.same word.ensures.seat)
          body.ensures.seat) pin.ensures.seat;
      walked = subst (λ (p : HeldPin). WalksLeg k leg v (Pinned p) pin.new.seat.view) (sym c.pinned-held.ensures)
          (walk-on k leg v (Pinning c.tries.more word.result body.result.first body.result.second) Taken
          body.new.seat.view pin.new.seat.view
          (tried k leg v c.tries.more word.result body.result.first body.result.second c.judge_control.result
          c.judge_words.result None c.tries.seat.view word.new.seat.view body.new.seat.view c.tries.invariant.going
          made c.judge_control.ensures c.in_default.is body.ensures.read c.judge_words.ensures
          c.in-None.is)
          (subst (λ (p : HeldPin). Made k (Pin p) Taken body.new.seat.view pin.new.seat.view) c.pinned-held.ensures
          c.in-Ok.ensures.made));
    }

pub returns-then-more-eq0 : goal.returns-then-more-eq0
returns-then-more-eq0 c =
    let k = c.args.words.now.layout in let v = c.args.seat.now.view in let leg = c.args.leg.now in
    let word = c.load_control_at-word in
    let made = control-made c.args.words.now leg word.result c.tries.seat word.new.seat.view c.tries.invariant.seat
    word.ensures.look word.ensures.own in
    let body = c.look_at_body-body in
    let here = same_seat-then _ _ _ (same_seat-then _ _ _ c.tries.invariant.same word.ensures.seat) body.ensures.seat in
    let words = λ (next : Option Rule) (is : c.judge_words.result ≡ next).
    tried k leg v c.tries.more word.result body.result.first body.result.second c.judge_control.result
    c.judge_words.result next c.tries.seat.view word.new.seat.view body.new.seat.view c.tries.invariant.going
    made c.judge_control.ensures c.in_default.is body.ensures.read c.judge_words.ensures is in
    let missed : IsSameSeat c.args.seat.now c.match-judge_words.seat
    × WalksLeg k leg v (after_miss leg c.tries.more c.match-judge_words.found) c.match-judge_words.seat.view =
    elim c.match-judge_words.branch [
      | in-Some-judge_words+else-found-word w ↦ rw (w.seat-is, w.found-is) (
        same_seat-then _ _ _ here w.load_control_at-found.ensures.seat,
        relook-missed k leg v c.tries.more word.result w.in-Some-judge_words.rule w.load_control_at-found.result
            body.new.seat.view w.load_control_at-found.new.seat.view
            (words (Some w.in-Some-judge_words.rule) w.in-Some-judge_words.is)
            (control-made c.args.words.now leg w.load_control_at-found.result body.new.seat
            w.load_control_at-found.new.seat.view
            (still_seat c.args.words.now _ _ word.ensures.fits body.ensures.seat) w.load_control_at-found.ensures.look
            w.load_control_at-found.ensures.own)
            (ne_eqb _ _ w.if-found-word.false),
      )
      | in-None+in-Err w ↦ rw (w.seat-is, w.found-is) (
        same_seat-then _ _ _ here w.take_pin.ensures.seat,
        pin-missed k leg v c.tries.more word.result body.result.first body.result.second w.in-Err.found
            c.pinned-held.result body.new.seat.view w.take_pin.new.seat.view (words None w.in-None.is)
            c.pinned-held.ensures w.in-Err.ensures.made,
      )
    ] in
    record {
      seat = missed.0;
      walked = walk-to k leg v _ (Refused c.entry_refusal-then-more-eq0.result) c.match-judge_words.seat.view
          (last-miss leg c.tries.more c.match-judge_words.found c.entry_refusal-then-more-eq0.result c.if-more-eq0.true
          c.entry_refusal-then-more-eq0.ensures) missed.1;
    }

pub tries-preserved : goal.tries-preserved
tries-preserved c =
    let k = c.args.words.now.layout in let v = c.args.seat.now.view in let leg = c.args.leg.now in
    let word = c.load_control_at-word in
    let made = control-made c.args.words.now leg word.result c.tries.seat word.new.seat.view c.tries.invariant.seat
    word.ensures.look word.ensures.own in
    let body = c.look_at_body-body in
    let here = same_seat-then _ _ _ (same_seat-then _ _ _ c.tries.invariant.same word.ensures.seat) body.ensures.seat in
    let words = λ (next : Option Rule) (is : c.judge_words.result ≡ next).
    tried k leg v c.tries.more word.result body.result.first body.result.second c.judge_control.result
    c.judge_words.result next c.tries.seat.view word.new.seat.view body.new.seat.view c.tries.invariant.going
    made c.judge_control.ensures c.in_default.is body.ensures.read c.judge_words.ensures is in
    let missed : IsSameSeat c.args.seat.now c.match-judge_words.seat
    × WalksLeg k leg v (after_miss leg c.tries.more c.match-judge_words.found) c.match-judge_words.seat.view =
    elim c.match-judge_words.branch [
      | in-Some-judge_words+else-found-word w ↦ rw (w.seat-is, w.found-is) (
        same_seat-then _ _ _ here w.load_control_at-found.ensures.seat,
        relook-missed k leg v c.tries.more word.result w.in-Some-judge_words.rule w.load_control_at-found.result
            body.new.seat.view w.load_control_at-found.new.seat.view
            (words (Some w.in-Some-judge_words.rule) w.in-Some-judge_words.is)
            (control-made c.args.words.now leg w.load_control_at-found.result body.new.seat
            w.load_control_at-found.new.seat.view
            (still_seat c.args.words.now _ _ word.ensures.fits body.ensures.seat) w.load_control_at-found.ensures.look
            w.load_control_at-found.ensures.own)
            (ne_eqb _ _ w.if-found-word.false),
      )
      | in-None+in-Err w ↦ rw (w.seat-is, w.found-is) (
        same_seat-then _ _ _ here w.take_pin.ensures.seat,
        pin-missed k leg v c.tries.more word.result body.result.first body.result.second w.in-Err.found
            c.pinned-held.result body.new.seat.view w.take_pin.new.seat.view (words None w.in-None.is)
            c.pinned-held.ensures w.in-Err.ensures.made,
      )
    ] in
    record {
      seat = still_seat c.args.words.now _ _ c.requires.seat missed.0;
      same = missed.0;
      going = walk-to k leg v _ _ c.match-judge_words.seat.view
          (next-try leg c.tries.more c.match-judge_words.found c.if-more-eq0.false) missed.1;
    }

pub take_pin-requires-clause-place : goal.take_pin-requires-clause-place
take_pin-requires-clause-place c =
    c.requires.place ∙ ap (λ (p : HeldPin). position_at c.args.words.now p.dom) (sym c.pinned-held.ensures)
