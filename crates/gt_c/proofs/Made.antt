-- A call that was made on a handle's domain, as its export states it.
use Rattle.std.proofs.Common.{◌≡◌, ◌∙◌, ap, refl, subst, sym, inr, Option, Some, None}
use Rattle.std.specs.Prelude.{is_some, false}
use mathlib.Core.Bool.{true≢false}
use Rattle.std.proofs.lemmas.Option.{same_Some}
use Rattle.gt_attached.specs.declared.answer.EncodedAnswer.{EncodedAnswer}
use Rattle.gt_c.specs.declared.c_domain.CDomain.{CDomain}
use Rattle.gt_types.specs.declared.GrantRef.{GrantRef}
use Rattle.gt_c.specs.Calling.{CallsAttached, CallsGranting, CallsReporting, MayBeCalled}
use Rattle.gt_c.specs.Grantees.{NotesEntry, noted_at}
use Rattle.gt_c.specs.Prelude.{Seated, Table}

-- the call is made on the domain x that the handle lends, whose guest is g afterwards
pub made : {before between : Option CDomain} {x : CDomain} {g : Seated Table} (answer : EncodedAnswer) (Q : CDomain → CDomain → Type 0)
    → MayBeCalled before between → Some x ≡ between → Q x (record x { attached = g })
    → CallsAttached before (Some (record x { attached = g })) answer Q
made {before = None} answer Q may lent holds = absurd may
made {before = Some d} {between} {x} {g} answer Q may lent holds =
    inr (record {
      was = d;
      is = record x { attached = g };
      before_is = refl;
      after_is = refl;
      idle = may.1;
      run = ap (λ (y : CDomain). y.run) (same_Some x d (lent ∙ may.0));
      holds = (
        ap (λ (y : CDomain). y.granted) (same_Some x d (lent ∙ may.0)),
        subst (λ (y : CDomain). Q y (record x { attached = g })) (same_Some x d (lent ∙ may.0)) holds,
      );
    })

-- the same of a call about an entry, which is noted
pub made-granting : {before between : Option CDomain} {x y : CDomain} {g : Seated Table} (gref : GrantRef) (answer : EncodedAnswer)
    (Q : CDomain → CDomain → Type 0) → MayBeCalled before between → Some x ≡ between
    → y ≡ noted_at gref (record x { attached = g }) → Q x (noted_at gref (record x { attached = g }))
    → CallsGranting gref before (Some y) answer Q
made-granting {before = None} gref answer Q may lent is holds = absurd may
made-granting {before = Some d} {between} {x} {y} {g} gref answer Q may lent is holds =
    inr (record {
      was = d;
      is = y;
      before_is = refl;
      after_is = refl;
      idle = may.1;
      run = ap (λ (z : CDomain). z.run) is ∙ ap (λ (z : CDomain). z.run) (same_Some x d (lent ∙ may.0));
      holds = subst (λ (z : CDomain). NotesEntry gref d z × Q d z) (sym is)
          (subst (λ (z : CDomain). NotesEntry gref z (noted_at gref (record x { attached = g })) × Q z (noted_at gref (record x { attached = g })))
          (same_Some x d (lent ∙ may.0)) (refl, holds));
    })

-- the same of a call that tells more than its answer
pub made-telling : {before between : Option CDomain} {x : CDomain} {g : Seated Table} (answer : EncodedAnswer) (N : Type 0)
    (Q : CDomain → CDomain → Type 0) → MayBeCalled before between → Some x ≡ between → Q x (record x { attached = g })
    → CallsReporting before (Some (record x { attached = g })) answer N Q
made-telling {before = None} answer N Q may lent holds = absurd may
made-telling {before = Some d} {between} {x} {g} answer N Q may lent holds =
    inr (record {
      was = d;
      is = record x { attached = g };
      before_is = refl;
      after_is = refl;
      idle = may.1;
      run = ap (λ (y : CDomain). y.run) (same_Some x d (lent ∙ may.0));
      holds = (
        ap (λ (y : CDomain). y.granted) (same_Some x d (lent ∙ may.0)),
        subst (λ (y : CDomain). Q y (record x { attached = g })) (same_Some x d (lent ∙ may.0)) holds,
      );
    })

-- a call that changes nothing was made on the domain
pub unmade : {before after : Option CDomain} (answer : EncodedAnswer) (Q : CDomain → CDomain → Type 0)
    → MayBeCalled before after → ((d : CDomain) → Q d d) → CallsAttached before after answer Q
unmade {before = None} answer Q may holds = absurd may
unmade {before = Some d} answer Q may holds =
    inr (record {
      was = d;
      is = d;
      before_is = refl;
      after_is = may.0;
      idle = may.1;
      run = refl;
      holds = (refl, holds d);
    })

-- the same of a call that tells more than its answer
pub unmade-telling : {before after : Option CDomain} (answer : EncodedAnswer) (N : Type 0) (Q : CDomain → CDomain → Type 0)
    → MayBeCalled before after → ((d : CDomain) → Q d d) → CallsReporting before after answer N Q
unmade-telling {before = None} answer N Q may holds = absurd may
unmade-telling {before = Some d} answer N Q may holds =
    inr (record {
      was = d;
      is = d;
      before_is = refl;
      after_is = may.0;
      idle = may.1;
      run = refl;
      holds = (refl, holds d);
    })

pub idle-there : (before : Option CDomain) {between : Option CDomain} {x : CDomain} → MayBeCalled before between → Some x ≡ between
    → x.attached.copying ≡ None
idle-there None may lent = absurd may
idle-there (Some d) {between} {x} may lent = ap (λ (y : CDomain). y.attached.copying) (same_Some x d (lent ∙ may.0)) ∙ may.1

pub none-of : {A : Type 0} (o : Option A) → is_some o ≡ false → o ≡ None
none-of None e = refl
none-of (Some a) e = absurd (true≢false e)
