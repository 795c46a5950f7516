-- The entries of two domains, compared by one look at each.
use Rattle.std.proofs.Common.{◌≡◌, ◌∙◌, ◌<◌, ℕ, zero, suc, ap, arith, inl, inr, subst, sym, ◌⊎◌, Option, Some, None}
use Rattle.std.proofs.Common.{List, Result, Ok, Err}
use Rattle.std.proofs.Math.Nat.{eq-or-lt_of_le}
use Rattle.gt_types.specs.declared.denial.Denial.{Denial}
use Rattle.gt_types.specs.declared.limits.TheConstants.{TABLE_ENTRIES}
use Rattle.gt_model.specs.declared.control.Control.{Control}
use Rattle.gt_model.specs.declared.entry.Entry.{Entry}
use Rattle.gt_calls.specs.Known.{entry_in}
use Rattle.gt_calls.specs.declared.known.OwnerEntry.{OwnerEntry}
use Rattle.gt_live.specs.Closing.{LooksAtOwn}
use Rattle.gt_live.specs.Domains.{AllowRelation}
use Rattle.gt_live.specs.Following.{own_entry_at}
use Rattle.gt_live.specs.Prelude.{GrantRef, Layout}
use Rattle.gt_live.specs.declared.domain.Domain.{Domain}
use Rattle.gt_live.specs.declared.monitor.Monitor.{Monitor}
use Rattle.gt_attached.specs.Renewing.{IsSameEntry, Both, FindsDifference, GrantsAllOf, GrantsFirst, GrantsValid, Sees}
use Rattle.gt_attached.specs.Renewing.{SeesAlike, SeesBoth, reference}
use Rattle.gt_attached.specs.declared.renewing.EntrySeen.{EntrySeen}

-- a look by the same layout, at the same entry
sees-so : (k m : Layout) (d e : Domain) (r at : ℕ) (seen : EntrySeen) → m ≡ k → at ≡ r → Sees m d (reference at) seen e
    → Sees k d (reference r) seen e
sees-so k m d e r at seen same here sees =
    subst (λ (y : Layout). Sees y d (reference r) seen e) same (subst (λ (z : ℕ). Sees m d (reference z) seen e) here sees)

-- both looks of a comparison
pub both-so : (k l m n : Layout) (c q : Both) (r at : ℕ) (mine theirs : EntrySeen) (Holds : EntrySeen → EntrySeen → Type 0)
    → m ≡ k → n ≡ l → at ≡ r → Sees m c.one (reference at) mine q.one → Sees n c.other (reference at) theirs q.other
    → Holds mine theirs → SeesBoth k l c r Holds q
both-so k l m n c q r at mine theirs Holds same other-same here sees other-sees holds =
    (mine, theirs, sees-so k m c.one q.one r at mine same here sees, sees-so l n c.other q.other r at theirs other-same here other-sees, holds)

-- the comparison came to an entry that is not alike
pub differs-here : (k l : Layout) (p c q : Both) (count at : ℕ) → at ≡ count → SeesAlike k l p count c
    → SeesBoth k l c at (λ mine theirs. ¬ IsSameEntry mine theirs) q → FindsDifference k l p (Some (reference at)) q
differs-here k l p c q count at here passed seen = (c, subst (λ (n : ℕ). SeesAlike k l p n c) (sym here) passed, seen)

-- the comparison came to the end
pub alike-all : (k l : Layout) (p q : Both) (count : ℕ) → count ≡ TABLE_ENTRIES → SeesAlike k l p count q
    → FindsDifference k l p None q
alike-all k l p q count end passed = subst (λ (n : ℕ). SeesAlike k l p n q) end passed

-- an entry was granted of this domain's entries, on the monitor of the run
valid-so : {P : Type 0} (may : P → AllowRelation) (m n : Monitor P) (other c e : Domain) (count at : ℕ) (entry : Entry)
    (result : Result (Unit {0}) Denial) → n ≡ m → at ≡ count → entry ≡ own_entry_at other (reference at)
    → GrantsValid may n c (reference at) entry result e
    → GrantsValid may m c (reference count) (own_entry_at other (reference count)) result e
valid-so {P} may m n other c e count at entry result same here is grants =
    subst (λ (z : ℕ). GrantsValid may m c (reference z) (own_entry_at other (reference z)) result e) here
    (subst (λ (x : Entry). GrantsValid may m c (reference at) x result e) is
    (subst (λ (y : Monitor P). GrantsValid may y c (reference at) entry result e) same grants))

pub granted-more : {P : Type 0} (may : P → AllowRelation) (m n : Monitor P) (d other c e : Domain) (count at : ℕ) (entry : Entry)
    → n ≡ m → at ≡ count → entry ≡ own_entry_at other (reference at) → GrantsFirst may m d other count c
    → GrantsValid may n c (reference at) entry (Ok tt) e → GrantsFirst may m d other (suc count) e
granted-more may m n d other c e count at entry same here is granted grants =
    (c, granted, valid-so may m n other c e count at entry (Ok tt) same here is grants)

pub refused-here : {P : Type 0} (may : P → AllowRelation) (m n : Monitor P) (d other c e : Domain) (count at : ℕ) (entry : Entry)
    (denial : Denial) → n ≡ m → at ≡ count → entry ≡ own_entry_at other (reference at) → GrantsFirst may m d other count c
    → GrantsValid may n c (reference at) entry (Err denial) e → GrantsAllOf may m d other (Err denial) e
refused-here may m n d other c e count at entry denial same here is granted grants =
    (count, c, granted, valid-so may m n other c e count at entry (Err denial) same here is grants)

pub granted-all : {P : Type 0} (may : P → AllowRelation) (m : Monitor P) (d other e : Domain) (count : ℕ) → count ≡ TABLE_ENTRIES
    → GrantsFirst may m d other count e → GrantsAllOf may m d other (Ok tt) e
granted-all may m d other e count end granted = subst (λ (n : ℕ). GrantsFirst may m d other n e) end granted

-- a look leaves the entries of its domain as they are
keeps-entry : (k : Layout) (d e : Domain) (gref at : GrantRef) (found : Option Control) → LooksAtOwn k d gref found e
    → own_entry_at e at ≡ own_entry_at d at
keeps-entry k d e gref at None looks = ap (λ (x : Domain). own_entry_at x at) looks.1
keeps-entry k d e gref at (Some control) looks =
    ap (λ (own : List OwnerEntry). entry_in own at.0) (ap (λ v. v.items) looks.1.own)

-- one more entry is alike in both domains
one-more : (k l : Layout) (c q : Both) (n r : ℕ) → SeesBoth k l c n IsSameEntry q
    → (r < n → own_entry_at c.one (reference r) ≡ own_entry_at c.other (reference r)) → ((r ≡ n) ⊎ (r < n))
    → own_entry_at q.one (reference r) ≡ own_entry_at q.other (reference r)
one-more k l c q n r (mine, theirs, sees, other-sees, alike) before (inl is) =
    subst (λ (z : ℕ). own_entry_at q.one (reference z) ≡ own_entry_at q.other (reference z)) (sym is)
    (sym sees.1 ∙ alike.0 ∙ other-sees.1)
one-more k l c q n r (mine, theirs, sees, other-sees, alike) before (inr less) =
    keeps-entry k c.one q.one (reference n) (reference r) mine.found sees.0 ∙ before less
    ∙ sym (keeps-entry l c.other q.other (reference n) (reference r) theirs.found other-sees.0)

same-entry : (k l : Layout) (p q : Both) (n : ℕ) → SeesAlike k l p n q → (r : ℕ) → r < n
    → own_entry_at q.one (reference r) ≡ own_entry_at q.other (reference r)
same-entry k l p q zero seen r low = absurd (omega (arith, low))
same-entry k l p q (suc n) (c, before, seen) r low =
    one-more k l c q n r seen (same-entry k l p c n before r) (eq-or-lt_of_le (omega (arith, low)))

pub no-difference : (k l : Layout) (p q : Both) → FindsDifference k l p None q → (r : ℕ) → r < TABLE_ENTRIES
    → own_entry_at q.one (reference r) ≡ own_entry_at q.other (reference r)
no-difference k l p q none = same-entry k l p q TABLE_ENTRIES none
