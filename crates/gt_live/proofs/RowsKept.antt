-- An owner's rows after a change.
use Rattle.std.proofs.Common.{◌≡◌, ℕ, ◌<◌, ◌≤◌, refl, ap, List, [], ◌∷◌, length, get_or, zero, suc, Some, arith}
use Rattle.std.proofs.Math.ListN.{set}
use Rattle.std.specs.Prelude.{slice_get}
use Rattle.gt_model.specs.declared.change.EntryChange.{EntryChange}
use Rattle.gt_calls.specs.declared.known.OwnerEntry.{OwnerEntry}
use Rattle.gt_calls.specs.Known.{own_after}
use Rattle.gt_live.specs.Rows.{row_changed}

pub row-set : (os : List OwnerEntry) (r : ℕ) (d : OwnerEntry) (ch : EntryChange) → r < length os → set os r (own_after ch (get_or os r d)) ≡ row_changed os r ch
row-set [] r d ch lt = refl
row-set (o ∷ os) zero d ch lt = refl
row-set (o ∷ os) (suc r) d ch lt = ap (λ (xs : List OwnerEntry). o ∷ xs) (row-set os r d ch (omega arith))

pub row-past : (os : List OwnerEntry) (r : ℕ) (ch : EntryChange) → length os ≤ r → row_changed os r ch ≡ os
row-past [] r ch le = refl
row-past (o ∷ os) zero ch le = absurd (omega arith)
row-past (o ∷ os) (suc r) ch le = ap (λ (xs : List OwnerEntry). o ∷ xs) (row-past os r ch (omega arith))

pub row-length : (os : List OwnerEntry) (r : ℕ) (ch : EntryChange) → length (row_changed os r ch) ≡ length os
row-length [] r ch = refl
row-length (o ∷ os) zero ch = refl
row-length (o ∷ os) (suc r) ch = ap (λ (n : ℕ). suc n) (row-length os r ch)

pub row-other : (os : List OwnerEntry) (r q : ℕ) (ch : EntryChange) → (r ≡ q → ⊥) → slice_get (row_changed os r ch) q ≡ slice_get os q
row-other [] r q ch ne = refl
row-other (o ∷ os) zero zero ch ne = absurd (ne refl)
row-other (o ∷ os) zero (suc q) ch ne = refl
row-other (o ∷ os) (suc r) zero ch ne = refl
row-other (o ∷ os) (suc r) (suc q) ch ne = row-other os r q ch (λ e. ne (ap (λ (n : ℕ). suc n) e))

pub row-there : (os : List OwnerEntry) (r : ℕ) → r < length os → (o : OwnerEntry) × (slice_get os r ≡ Some o)
row-there [] r lt = absurd (omega arith)
row-there (o ∷ os) zero lt = (o, refl)
row-there (o ∷ os) (suc r) lt = row-there os r (omega arith)

pub row-here : (os : List OwnerEntry) (r : ℕ) (o : OwnerEntry) (ch : EntryChange) → slice_get os r ≡ Some o → slice_get (row_changed os r ch) r ≡ Some (own_after ch o)
row-here [] r o ch e = cc
row-here (x ∷ os) zero o ch e = let same : x ≡ o = cc in ap (λ (y : OwnerEntry). Some (own_after ch y)) same
row-here (x ∷ os) (suc r) o ch e = row-here os r o ch e
