use Rattle.std.proofs.Common.{◌≡◌, ◌≢◌, ◌⊎◌, ℕ, Bool, true, false, List, refl, ap, sym, ◌∙◌, inl, inr, Bor}
use Rattle.std.proofs.lemmas.Cmp.{nat_cmp_total, nat_list_cmp_total, on_total, then_total}
use Rattle.std.proofs.lemmas.Map.Lookups.{exact_unsigned, exact_bytes}
use Rattle.std.specs.Cmp.{IsTotalOrder, Equal-is}
use Rattle.std.specs.Cmp.Lexicographic.{slice_cmp}
use Rattle.std.specs.Map.{KeepsOthers, lookup}
use Rattle.std.specs.Ordering.{nat_cmp, ordering_then, is_eq}
use Rattle.std.specs.declared.cmp.Ordering.{Ordering}
use Rattle.std.specs.declared.cmp.Ordering.TheVariants.{Less, Equal, Greater}
use Rattle.gt_model.specs.declared.handle.Handle.{Handle}
use Rattle.gt_script_runs.specs.Labels.{is_label}

-- the order of the keys, by their numbers and their texts
abbrev key_cmp : (ℕ × List ℕ) → (ℕ × List ℕ) → Ordering
key_cmp p q = ordering_then (nat_cmp p.0 q.0) (slice_cmp nat_cmp p.1 q.1)

key_total : IsTotalOrder key_cmp
key_total = then_total (on_total (λ (p : ℕ × List ℕ). p.0) nat_cmp_total) (on_total (λ (p : ℕ × List ℕ). p.1) nat_list_cmp_total)

both_equal : (a b : Ordering) → ordering_then a b ≡ Equal → (a ≡ Equal) × (b ≡ Equal)
both_equal Less b e = cc
both_equal Equal b e = (refl, e)
both_equal Greater b e = cc

abbrev plain : (ℕ × Bor (List ℕ)) → ℕ × List ℕ
plain key = (key.0, key.1.now)

is_equal : (o : Ordering) → is_eq o ≡ true → o ≡ Equal
is_equal o e = (Equal-is o).0 e

same_key : (p q : ℕ × List ℕ) → key_cmp p q ≡ Equal → (p.0 ≡ q.0) × (p.1 ≡ q.1)
same_key p q e = let both = both_equal (nat_cmp p.0 q.0) (slice_cmp nat_cmp p.1 q.1) e in
    (exact_unsigned p.0 q.0 both.0, exact_bytes p.1 q.1 both.1)

not_true : (b : Bool) → (b ≡ true → ⊥) → b ≡ false
not_true true h = absurd (h refl)
not_true false h = refl

-- a map that took a value at one key has at every other label what it had
pub others_kept : (old new : List ((ℕ × Bor (List ℕ)) × Handle)) (key : ℕ × Bor (List ℕ)) (d : ℕ) (l : List ℕ)
    → KeepsOthers (λ x y. is_eq (key_cmp (plain x) (plain y))) (λ x. is_eq (key_cmp (plain key) (plain x))) old new
    → (d ≢ key.0) ⊎ (l ≢ key.1.now) → lookup (is_label d l) new ≡ lookup (is_label d l) old
unfolding KeepsOthers
others_kept old new key d l kept other =
    kept (is_label d l)
    (λ x y e. ap is_eq (key_total.congr (d, l) (plain x) (plain y) (is_equal _ e)))
    (λ x e. not_true _ (λ f.
    let p = same_key (plain key) (plain x) (is_equal _ e) in
    let q = same_key (d, l) (plain x) (is_equal _ f) in
    elim other [
      | inl h ↦ h (q.0 ∙ sym p.0)
      | inr h ↦ h (q.1 ∙ sym p.1)
    ]))
