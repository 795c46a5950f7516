-- How the domains of a new run take over what those of another run have.
use Rattle.std.specs.Prelude.{◌≡◌, ◌⊎◌, ◌<◌, ℕ, zero, suc, true, false, Option, Some, None, Result, Ok, Err}
use Rattle.gt_types.specs.declared.GrantRef.{GrantRef}
use Rattle.gt_types.specs.declared.denial.Denial.{Denial}
use Rattle.gt_types.specs.declared.limits.TheConstants.{TABLE_ENTRIES}
use Rattle.gt_model.specs.declared.control.Control.{Control}
use Rattle.gt_model.specs.declared.entry.Entry.{Entry}
use Rattle.gt_model.specs.Entries.{is_invalid}
use Rattle.gt_model.specs.declared.request.Request.TheVariants as requests
use Rattle.gt_live.specs.Closing.{LooksAtOwn}
use Rattle.gt_live.specs.Domains.{AllowRelation, AnswersQuietly, verdict_of}
use Rattle.gt_live.specs.Following.{own_entry_at}
use Rattle.gt_live.specs.Prelude.{Layout}
use Rattle.gt_live.specs.declared.domain.Domain.{Domain}
use Rattle.gt_live.specs.declared.monitor.Monitor.{Monitor}
use Rattle.gt_attached.specs.declared.renewing.EntrySeen.{EntrySeen}

-- the reference with this number
abbrev pub reference : ℕ → GrantRef
reference r = record { 0 = r }

-- this entry was granted under this reference, with this result; an Invalid one was not, which is Ok
abbrev pub GrantsValid : {P : Type 0} → (P → AllowRelation) → Monitor P → Domain → GrantRef → Entry
    → Result (Unit {0}) Denial → Domain → Type 0
GrantsValid may m d gref entry result e =
    ((is_invalid entry ≡ true) × (result ≡ Ok tt) × (e ≡ d))
    ⊎ ((is_invalid entry ≡ false) × AnswersQuietly may m d (requests.Grant gref entry) (verdict_of result) e)

-- the valid ones of the other domain's first n entries were granted, one after another, and nothing else was done
abbrev pub GrantsFirst : {P : Type 0} → (P → AllowRelation) → Monitor P → Domain → Domain → ℕ → Domain → Type 0
GrantsFirst may m d other zero e = e ≡ d
GrantsFirst may m d other (suc n) e =
    (c : Domain) × GrantsFirst may m d other n c
    × GrantsValid may m c (reference n) (own_entry_at other (reference n)) (Ok tt) e

-- each valid entry of the other domain was granted; or those before the first that was refused
abbrev pub GrantsAllOf : {P : Type 0} → (P → AllowRelation) → Monitor P → Domain → Domain → Result (Unit {0}) Denial
    → Domain → Type 0
GrantsAllOf may m d other (Ok done) e = GrantsFirst may m d other TABLE_ENTRIES e
GrantsAllOf may m d other (Err denial) e =
    (n : ℕ) × (c : Domain) × GrantsFirst may m d other n c
    × GrantsValid may m c (reference n) (own_entry_at other (reference n)) (Err denial) e

-- the parts of a control word, with the generation 0
abbrev pub without_generation : Option Control → Option Control
without_generation None = None
without_generation (Some c) = Some (record c { generation = 0 })

-- one look at this entry found its control word, and this is the entry as the domain last changed it
abbrev pub Sees : Layout → Domain → GrantRef → EntrySeen → Domain → Type 0
Sees k d gref seen e = LooksAtOwn k d gref seen.found e × (seen.entry ≡ own_entry_at e gref)

-- two domains have the same entry, with the same pins of each kind; or neither table has it
abbrev pub IsSameEntry : EntrySeen → EntrySeen → Type 0
IsSameEntry one other = (one.entry ≡ other.entry) × (without_generation one.found ≡ without_generation other.found)

-- two domains, of two runs
pub record Both : Type 0 where
  pub one : Domain
  pub other : Domain

-- one look was made at this entry of each, and this holds of what they found
abbrev pub SeesBoth : Layout → Layout → Both → ℕ → (EntrySeen → EntrySeen → Type 0) → Both → Type 0
SeesBoth k l p r Holds q =
    (mine : EntrySeen) × (theirs : EntrySeen) × Sees k p.one (reference r) mine q.one
    × Sees l p.other (reference r) theirs q.other × Holds mine theirs

-- the first n entries were looked at, one after another, each is alike in both, and nothing else was done
abbrev pub SeesAlike : Layout → Layout → Both → ℕ → Both → Type 0
SeesAlike k l p zero q = q ≡ p
SeesAlike k l p (suc n) q = (c : Both) × SeesAlike k l p n c × SeesBoth k l c n IsSameEntry q

-- the least reference whose entry is not alike in both; none, if each entry that a table may have is
abbrev pub FindsDifference : Layout → Layout → Both → Option GrantRef → Both → Type 0
FindsDifference k l p None q = SeesAlike k l p TABLE_ENTRIES q
FindsDifference k l p (Some gref) q =
    (c : Both) × SeesAlike k l p gref.0 c × SeesBoth k l c gref.0 (λ mine theirs. ¬ IsSameEntry mine theirs) q

-- two domains without a difference have the same entry under each reference that a table may have
abbrev pub NoDifferenceIsTheSame : Type 0
NoDifferenceIsTheSame =
    (k l : Layout) (p q : Both) → FindsDifference k l p None q → (r : ℕ) → r < TABLE_ENTRIES
    → own_entry_at q.one (reference r) ≡ own_entry_at q.other (reference r)
