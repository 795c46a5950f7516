-- A call that was made on the domains of two handles, as its export states it.
use Rattle.std.proofs.Common.{◌≡◌, ◌∙◌, ap, refl, subst, inr, Option, Some, None}
use Rattle.std.proofs.lemmas.Option.{same_Some}
use Rattle.gt_attached.specs.declared.answer.EncodedAnswer.{EncodedAnswer}
use Rattle.gt_c.specs.declared.c_domain.CDomain.{CDomain}
use Rattle.gt_c.specs.Calling.{MadeOn, MayBeCalled}
use Rattle.gt_c.specs.Prelude.{Seated, Table}
use Rattle.gt_c.specs.Renewing.{CallsOnBoth}

-- the call is made on the domain x that the handle lends, whose guest is g afterwards
made-on : {before between : Option CDomain} {x : CDomain} {g : Seated Table} (Q : CDomain → CDomain → Type 0)
    → MayBeCalled before between → Some x ≡ between → Q x (record x { attached = g })
    → MadeOn before (Some (record x { attached = g })) Q
made-on {before = None} Q may lent holds = absurd may
made-on {before = Some d} {between} {x} {g} Q may lent holds =
    record {
      was = d;
      is = record x { attached = g };
      before_is = refl;
      after_is = refl;
      idle = may.1;
      run = ap (λ (y : CDomain). y.run) (same_Some x d (lent ∙ may.0));
      holds = subst (λ (y : CDomain). Q y (record x { attached = g })) (same_Some x d (lent ∙ may.0)) holds;
    }

-- the same where the domain is y afterwards
made-then : {before between : Option CDomain} {x y : CDomain} (Q : CDomain → CDomain → Type 0)
    → MayBeCalled before between → Some x ≡ between → y.run ≡ x.run → Q x y → MadeOn before (Some y) Q
made-then {before = None} Q may lent run holds = absurd may
made-then {before = Some d} {between} {x} {y} Q may lent run holds =
    record {
      was = d;
      is = y;
      before_is = refl;
      after_is = refl;
      idle = may.1;
      run = run ∙ ap (λ (z : CDomain). z.run) (same_Some x d (lent ∙ may.0));
      holds = subst (λ (z : CDomain). Q z y) (same_Some x d (lent ∙ may.0)) holds;
    }

-- the same for two handles, of which the first one's domain is k afterwards
pub made-both-then : {before between other_before other_between : Option CDomain} {x y k : CDomain} {h : Seated Table}
    (answer : EncodedAnswer) (Q : CDomain → CDomain → CDomain → CDomain → Type 0) → MayBeCalled before between
    → Some x ≡ between → MayBeCalled other_before other_between → Some y ≡ other_between → k.run ≡ x.run
    → Q x k y (record y { attached = h })
    → CallsOnBoth answer before (Some k) other_before (Some (record y { attached = h })) Q
made-both-then {x = x} {y = y} {k = k} {h = h} answer Q may lent other-may other-lent run holds =
    inr (made-then (λ d e. MadeOn _ _ (λ f m. Q d e f m)) may lent run
    (made-on (λ f m. Q x k f m) other-may other-lent holds))

-- the same for two handles
pub made-both : {before between other_before other_between : Option CDomain} {x y : CDomain} {g h : Seated Table}
    (answer : EncodedAnswer) (Q : CDomain → CDomain → CDomain → CDomain → Type 0) → MayBeCalled before between
    → Some x ≡ between → MayBeCalled other_before other_between → Some y ≡ other_between
    → Q x (record x { attached = g }) y (record y { attached = h })
    → CallsOnBoth answer before (Some (record x { attached = g })) other_before (Some (record y { attached = h })) Q
made-both {x = x} {y = y} {g = g} {h = h} answer Q may lent other-may other-lent holds =
    inr (made-on (λ d e. MadeOn _ _ (λ f k. Q d e f k)) may lent
    (made-on (λ f k. Q x (record x { attached = g }) f k) other-may other-lent holds))
