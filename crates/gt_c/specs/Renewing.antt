-- What is promised of the domains of two handles, before and after.
use Rattle.std.specs.Prelude.{◌≡◌, ◌⊎◌, Option}
use Rattle.gt_attached.specs.Renewing.{FindsDifference, GrantsAllOf}
use Rattle.gt_c.specs.Calling.{EncodesResult, MadeOn, MayBeCalled, TurnedAway, outcome}
use Rattle.gt_c.specs.Prelude.{CDomain, EncodedAnswer, GrantRef, StaysIdle, encoded, may}
use Rattle.gt_c.specs.Grantees.{KeepsGrantees, NotesAll}
use Rattle.gt_c.specs.Reports.{outcome_reference}

-- no call was made, since one of two handles has no domain, or one in a copy: both are unchanged, and the answer gives
-- the reason of the first such handle
abbrev pub BothTurnedAway : EncodedAnswer → Option CDomain → Option CDomain → Option CDomain → Option CDomain → Type 0
BothTurnedAway answer before after other_before other_after =
    (TurnedAway before after answer × (other_after ≡ other_before))
    ⊎ (MayBeCalled before after × TurnedAway other_before other_after answer)

-- the same; or a call was made, and this holds of the domains of both handles, before and after
abbrev pub CallsOnBoth : EncodedAnswer → Option CDomain → Option CDomain → Option CDomain → Option CDomain
    → (CDomain → CDomain → CDomain → CDomain → Type 0) → Type 0
CallsOnBoth answer before after other_before other_after Holds =
    BothTurnedAway answer before after other_before other_after
    ⊎ MadeOn before after (λ d e. MadeOn other_before other_after (λ f g. Holds d e f g))

-- the domain granted each valid entry of the other, which is unchanged, and noted to whom; the answer encodes the result
abbrev pub EncodesGrants : EncodedAnswer → CDomain → CDomain → CDomain → CDomain → Type 0
EncodesGrants answer d e f g =
    NotesAll d e × (g ≡ f)
    × EncodesResult outcome
    (λ r. GrantsAllOf may d.attached.monitor d.attached.domain f.attached.domain r e.attached.domain) answer d e

abbrev pub GrantsAllOfHandle : EncodedAnswer → Option CDomain → Option CDomain → Option CDomain → Option CDomain → Type 0
GrantsAllOfHandle answer before after other_before other_after =
    CallsOnBoth answer before after other_before other_after (EncodesGrants answer)

-- the entries of two domains were compared, and the answer encodes the least reference that is not alike in both
pub record EncodesDifference (answer : EncodedAnswer) (d e f g : CDomain) : Type 0 where
  pub grantees : KeepsGrantees d e
  pub other_grantees : KeepsGrantees f g
  pub found : Option GrantRef
  pub encodes : answer ≡ encoded (outcome_reference found)
  pub stays : StaysIdle d.attached e.attached
  pub other_stays : StaysIdle f.attached g.attached
  pub finds : FindsDifference d.attached.monitor.words.layout f.attached.monitor.words.layout
      (record { one = d.attached.domain; other = f.attached.domain }) found
      (record { one = e.attached.domain; other = g.attached.domain })

abbrev pub ComparesHandles : EncodedAnswer → Option CDomain → Option CDomain → Option CDomain → Option CDomain → Type 0
ComparesHandles answer before after other_before other_after =
    CallsOnBoth answer before after other_before other_after (EncodesDifference answer)
