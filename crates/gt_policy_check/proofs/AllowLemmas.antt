-- The columns of statements.
use Rattle.std.proofs.Common.{◌≡◌, ◌∙◌, ◌⊎◌, ℕ, ◌+◌, ◌<◌, ◌≤◌, List, [], ◌∷◌, ◌++◌, get_or, codes, length, sym, ap, subst}
use Rattle.std.proofs.Common.{arith, inl, inr}
use Rattle.std.proofs.lemmas.Bool.{cases_lt}
use Rattle.std.proofs.lemmas.List.{get_or_push, length_push}
use Rattle.std.proofs.lemmas.Option.{get_or_from_slice_get, slice_get-get_or}
use Rattle.std.proofs.Math.ListN.{get_or-append}
use Rattle.gt_policy.specs.declared.lined.LinedStatement.{LinedStatement}
use Rattle.gt_findings.specs.Columns.{IsColumnOf}
use Rattle.gt_policy_check.specs.AllowColumns.{AreStatementColumns}

module _ (text : List ℕ) (xs : List LinedStatement) where
  -- the first columns are those of their statements
  abbrev pub AreFirst : List ℕ → Type 0
  AreFirst columns = (k : ℕ) (y : LinedStatement) → k < length columns → IsColumnOf text (get_or xs k y).line (codes "allow") (get_or columns k 0)

  -- one more
  pub columns_more : (columns more : List ℕ) (i column : ℕ) (x : LinedStatement) → i < length xs → x ≡ get_or xs i x → length columns ≡ i → AreFirst columns
      → IsColumnOf text x.line (codes "allow") column → more ≡ columns ++ column ∷ [] → AreFirst more × (length more ≡ i + 1)
  columns_more columns more i column x within is many first there added =
      (subst (λ (l : List ℕ). AreFirst l) (sym added) each, ap length added ∙ length_push columns column ∙ ap (λ (n : ℕ). n + 1) many)
    where
      here : (y : LinedStatement) → IsColumnOf text (get_or xs i y).line (codes "allow") (get_or (columns ++ column ∷ []) i 0)
      here y =
          let same : x ≡ get_or xs i y = is ∙ get_or_from_slice_get xs i (get_or xs i y) x (slice_get-get_or xs i y within) in
          subst (λ (n : ℕ). IsColumnOf text (get_or xs i y).line (codes "allow") n) (sym (get_or_push columns column 0 i many))
          (subst (λ (z : LinedStatement). IsColumnOf text z.line (codes "allow") column) same there)

      by : (k : ℕ) (y : LinedStatement) → k < length (columns ++ column ∷ []) → (k < length columns) ⊎ (length columns ≤ k)
          → IsColumnOf text (get_or xs k y).line (codes "allow") (get_or (columns ++ column ∷ []) k 0)
      by k y l (inl before) = subst (λ (n : ℕ). IsColumnOf text (get_or xs k y).line (codes "allow") n) (sym (get_or-append columns (column ∷ []) 0 k before)) (first k y before)
      by k y l (inr past) =
          let long = length_push columns column in
          let e : i ≡ k = omega (arith, l, past, long, many) in
          subst (λ (n : ℕ). IsColumnOf text (get_or xs n y).line (codes "allow") (get_or (columns ++ column ∷ []) n 0)) e (here y)

      each : AreFirst (columns ++ column ∷ [])
      each k y l = by k y l (cases_lt k (length columns))

-- the column of a statement, on its line
pub place_column : (text bytes columns : List ℕ) (xs : List LinedStatement) (i line column : ℕ) (x : LinedStatement) → AreStatementColumns text xs columns
    → i < length xs → x ≡ get_or xs i x → line ≡ x.line → bytes ≡ text → column ≡ get_or columns i 0 → IsColumnOf bytes line (codes "allow") column
place_column text bytes columns xs i line column x are within is number same is_column =
    subst (λ (l : List ℕ). IsColumnOf l line (codes "allow") column) (sym same)
    (subst (λ (n : ℕ). IsColumnOf text n (codes "allow") column) (sym (number ∙ ap (λ (y : LinedStatement). y.line) is))
    (subst (λ (n : ℕ). IsColumnOf text (get_or xs i x).line (codes "allow") n) (sym is_column) (are.each i x within)))
