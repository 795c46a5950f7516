-- Sets row by row.
use Rattle.std.proofs.Common.{◌≡◌, ◌<◌, ◌≤◌, ℕ, ◌+◌, ◌*◌, Bool, true, false, ◌&&◌, inl, inr, List, [], ◌∷◌, ◌++◌}
use Rattle.std.proofs.Common.{length, arith, refl, sym, ap, ◌∙◌}
use Rattle.std.specs.Prelude.{nat_lt}
use Rattle.std.proofs.Math.Path.{fun_ext}
use Rattle.std.proofs.Math.Nat.{mul-le-mul_right}
use Rattle.std.proofs.Math.ListN.{get_or-append}
use Rattle.std.proofs.Math.Seq.{get_or-append_seam}
use Rattle.std.proofs.lemmas.Bool.{cases_lt}
use Rattle.std.proofs.lemmas.Bool.Decides.{nat_tests}
use Rattle.std.proofs.lemmas.List.{length-append, get_or-append-add}
use Rattle.gt_types.specs.declared.perms.Perms.{Perms}
use Rattle.gt_types.specs.Names.{is_permission}
use Rattle.gt_policy.specs.Allowing.{lists_perm}
use Rattle.gt_policy.specs.Rows.{Lane, lanes_reach}
use Rattle.gt_allow.specs.Looking.{holds_at, looks_up, IsRow, AreRows}
use Rattle.gt_policy.specs.Resolving.{no_perms}

abbrev holds_set : Perms → Perms → Bool
holds_set set perm = is_permission perm && lists_perm set perm

-- one more target
pub row_more : (row : List Lane) (n : ℕ) (sets : List Perms) (set : Perms) → IsRow row n sets → ((perm : Perms) → (is_permission perm && lists_perm set perm) ≡ lanes_reach row n perm) → IsRow row (n + 1) (sets ++ set ∷ [])
row_more row n sets set so_far here = (
  length-append sets (set ∷ []) ∙ ap (λ (k : ℕ). k + 1) so_far.0,
  λ t perm low.
      elim (cases_lt t n) [
        | inl before ↦
            let within : t < length sets = omega (arith, so_far.0) in
            ap (λ (p : Perms). holds_set p perm) (get_or-append sets (set ∷ []) no_perms t within) ∙ so_far.1 t perm before
        | inr behind ↦
            let last : t ≡ n = omega arith in
            let place : t ≡ length sets = last ∙ sym so_far.0 in
            ap (λ (k : ℕ). holds_at (sets ++ set ∷ []) k perm) place ∙ ap (λ (p : Perms). holds_set p perm) (get_or-append_seam sets set [] no_perms) ∙ here perm
            ∙ ap (λ (k : ℕ). lanes_reach row k perm) (sym last)
      ],
)

-- one more source
pub rows_more : (may : ℕ → ℕ → Perms → Bool) (count n : ℕ) (sets added new : List Perms) (row : List Lane) → AreRows may count n sets → new ≡ sets ++ added → IsRow row count added → lanes_reach row ≡ may n → AreRows may count (n + 1) new
rows_more may count n sets added new row so_far grown is same = (
  ap (λ (xs : List Perms). length xs) grown ∙ length-append sets added ∙ (let e : length sets + length added ≡ (n + 1) * count = omega (arith, so_far.0, is.0) in e),
  λ s t perm low within.
      ap (λ (xs : List Perms). holds_at xs (s * count + t) perm) grown
      ∙ elim (cases_lt s n) [
        | inl before ↦
            let rows : (s + 1) * count ≤ n * count = mul-le-mul_right count (omega arith) in
            let inside : s * count + t < length sets = omega (arith, so_far.0, rows) in
            ap (λ (p : Perms). holds_set p perm) (get_or-append sets added no_perms (s * count + t) inside) ∙ so_far.1 s t perm before within
        | inr behind ↦
            let last : s ≡ n = omega arith in
            let place : s * count + t ≡ length sets + t = ap (λ (k : ℕ). k * count + t) last ∙ ap (λ (k : ℕ). k + t) (sym so_far.0) in
            ap (λ (k : ℕ). holds_at (sets ++ added) k perm) place ∙ ap (λ (p : Perms). holds_set p perm) (get_or-append-add sets added t no_perms) ∙ is.1 t perm within
            ∙ ap (λ (f : ℕ → Perms → Bool). f t perm) same ∙ ap (λ (k : ℕ). may k t perm) (sym last)
      ],
)

not_true : (b : Bool) → (b ≡ true → ⊥) → b ≡ false
not_true true h = absurd (h refl)
not_true false h = refl

-- all rows make the table
pub table_is : (may : ℕ → ℕ → Perms → Bool) (count n m : ℕ) (sets : List Perms) → m ≡ count → n ≡ count → AreRows may count n sets → ((s t : ℕ) (perm : Perms) → may s t perm ≡ true → (s < m) × (t < m))
    → looks_up (record { count = count; sets = sets }) ≡ may
table_is may count n m sets types all rows among = fun_ext (λ s. fun_ext (λ t. fun_ext (λ perm. go s t perm (nat_lt s count) (nat_lt t count) refl refl)))
  where
    go : (s t : ℕ) (perm : Perms) (a b : Bool) → nat_lt s count ≡ a → nat_lt t count ≡ b → ((a && b) && holds_at sets (s * count + t) perm) ≡ may s t perm
    go s t perm true true e f =
        let low : s < n = grind (arith, nat_tests) in
        let within : t < count = grind (arith, nat_tests) in
        rows.1 s t perm low within
    go s t perm false b e f = sym (not_true (may s t perm) (λ yes. let low = (among s t perm yes).0 in let high : count ≤ s = grind (arith, nat_tests) in omega (arith, low, high, types)))
    go s t perm true false e f = sym (not_true (may s t perm) (λ yes. let low = (among s t perm yes).1 in let high : count ≤ t = grind (arith, nat_tests) in omega (arith, low, high, types)))
