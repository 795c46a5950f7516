-- One table of a list becomes another.
use Rattle.std.proofs.Common.{◌≡◌, ◌≢◌, ℕ, zero, suc, ◌<◌, ◌≤◌, ◌==◌, Bool, true, false, ltb, List, [], ◌∷◌, length}
use Rattle.std.proofs.Common.{get_or, set, slice_get, Option, Some, None, refl, sym, ap, ◌∙◌, subst, arith, take}
use Rattle.std.proofs.Common.{drop, ◌++◌}
use Rattle.std.proofs.lemmas.Bool.{eqb-true, eq-eqb, eqb-false, cond_both}
use Rattle.std.proofs.lemmas.Bool.Decides.{nat_tests}
use Rattle.std.proofs.lemmas.List.{length-set, drop_all, take_all, append-nil}
use Rattle.std.proofs.lemmas.List.Sums.{position_or_len_is}
use Rattle.std.proofs.lemmas.List.Quantifiers.{position-Some}
use Rattle.std.proofs.lemmas.Option.{same_Some, none-some, slice_get_within, get_or_from_slice_get}
use Rattle.std.specs.Prelude.{AllPairs}
use Rattle.gt_types.specs.declared.config.DomainConfig.{DomainConfig}
use Rattle.gt_model.specs.declared.action.Observation.{Observation}
use Rattle.gt_model.specs.declared.action.Observation.TheVariants.{Taken}
use Rattle.gt_model.specs.declared.action.Step.{Step}
use Rattle.gt_model.specs.declared.action.Step.TheVariants.{Unpin, StoreBody, StoreHeader, Exchange}
use Rattle.gt_model.specs.declared.action.Step.TheVariants as call_steps
use Rattle.gt_explore_state.specs.Tables.{among, OneBecomes, place_of_domain, TablesAfter}
use Rattle.gt_explore_state.specs.declared.table.SparseTable.{SparseTable}
use Rattle.gt_explore_state.proofs.Kept.{some-place}

among-some : (place : Option ℕ) (n at : ℕ) → among place n ≡ Some at → (place ≡ Some at) × (at < n)
among-some None n at e = absurd (none-some at e)
among-some (Some k) n at e = cond_both (ltb k n) (Some k) None (λ o. o ≡ Some at → (Some k ≡ Some at) × (at < n))
    (λ b f. (f, (let same = same_Some k at f in let below : k < n = grind (arith, nat_tests) in omega arith))) (λ b f. absurd (none-some at f)) e

among-none : (place : Option ℕ) (n k : ℕ) → among place n ≡ None → place ≡ Some k → n ≤ k
among-none None n k e f = absurd (none-some k f)
among-none (Some j) n k e f = cond_both (ltb j n) (Some j) None (λ o. o ≡ None → n ≤ k)
    (λ b g. absurd (none-some j (sym g))) (λ b g. let same = same_Some j k f in let past : n ≤ j = grind (arith, nat_tests) in omega arith) e

-- what stands in a list after one element was set
set-there : (xs : List SparseTable) (at k : ℕ) (new x : SparseTable) → slice_get (set xs at new) k ≡ Some x → (at ≡ k → new ≡ x) × (at ≢ k → slice_get xs k ≡ Some x)
set-there [] at k new x e = absurd (none-some x e)
set-there (z ∷ zs) zero zero new x e = (λ f. same_Some new x e, λ f. absurd (f refl))
set-there (z ∷ zs) zero (suc k) new x e = (λ f. cc, λ f. e)
set-there (z ∷ zs) (suc at) zero new x e = (λ f. cc, λ f. e)
set-there (z ∷ zs) (suc at) (suc k) new x e = let r = set-there zs at k new x e in (λ f. r.0 (omega arith), λ f. r.1 (λ g. f (ap suc g)))

there : (xs : List SparseTable) (at : ℕ) (y : SparseTable) → at < length xs → y ≡ get_or xs at y → slice_get xs at ≡ Some y
there [] at y within e = absurd (omega arith)
there (z ∷ zs) zero y within e = ap (λ (t : SparseTable). Some t) (sym e)
there (z ∷ zs) (suc at) y within e = there zs at y (omega arith) e

-- a table is set that becomes so
pub one-set : (old : List SparseTable) (place : Option ℕ) (at : ℕ) (y x : SparseTable) (P : SparseTable → SparseTable → Type 0) → among place (length old) ≡ Some at → y ≡ get_or old at y → P y x → OneBecomes place P old (set old at x)
one-set old place at y x P is here becomes = record { many = length-set old at x; each = λ k z e. by (at == k) k z refl (set-there old at k x z e) } where
  a : (place ≡ Some at) × (at < length old)
  a = among-some place (length old) at is

  by : (b : Bool) (k : ℕ) (z : SparseTable) → (at == k) ≡ b → (at ≡ k → x ≡ z) × (at ≢ k → slice_get old k ≡ Some z)
      → (w : SparseTable) × (slice_get old k ≡ Some w) × (place ≡ Some k → P w z) × (place ≢ Some k → z ≡ w)
  by true k z e r = let same : at ≡ k = eqb-true at k e in
      (y, subst (λ (j : ℕ). slice_get old j ≡ Some y) same (there old at y a.1 here), (λ f. subst (P y) (r.0 same) becomes), λ f. absurd (f (a.0 ∙ ap (λ (j : ℕ). Some j) same)))
  by false k z e r = let apart : at ≢ k = eqb-false at k e in (z, r.1 apart, (λ f. absurd (apart (same_Some at k (sym a.0 ∙ f)))), λ f. refl)

-- no table is at the place
pub none-set : (old : List SparseTable) (place : Option ℕ) (P : SparseTable → SparseTable → Type 0) → among place (length old) ≡ None → OneBecomes place P old old
none-set old place P is = record {
  many = refl;
  each = λ k z e. (z, e, (λ f. absurd (let past = among-none place (length old) k is f in let within = slice_get_within old k z e in omega arith)), λ f. refl);
}

-- places of domains

module _ (ds : List DomainConfig) (apart : AllPairs (λ c e. c.id.0 ≢ e.id.0) ds) where
  -- a domain stands at the place of its number
  pub placed : (k : ℕ) (c : DomainConfig) → slice_get ds k ≡ Some c → place_of_domain ds c.id.0 ≡ Some k
  placed k c e = some-place _ _ k
      (position_or_len_is (λ x. x.id.0 == c.id.0) ds k c (let w : k < length ds = within in omega arith) (λ j below. by j below) (λ w. eq-eqb _ _ (ap (λ (x : DomainConfig). x.id.0) here))) within
    where
      within : k < length ds
      within = slice_get_within ds k c e

      here : get_or ds k c ≡ c
      here = get_or_from_slice_get ds k c c e

      by : (j : ℕ) → j < k → ((get_or ds j c).id.0 == c.id.0) ≡ false
      by j below = cases ((get_or ds j c).id.0 == c.id.0) refl where
        cases : (b : Bool) → ((get_or ds j c).id.0 == c.id.0) ≡ b → ((get_or ds j c).id.0 == c.id.0) ≡ false
        cases false f = f
        cases true f = absurd (apart j k c below within (eqb-true _ _ f ∙ ap (λ (x : DomainConfig). x.id.0) (sym here)))

-- the domain at the place of a number has it
pub numbered : (ds : List DomainConfig) (d k : ℕ) (c : DomainConfig) → place_of_domain ds d ≡ Some k → slice_get ds k ≡ Some c → c.id.0 ≡ d
numbered ds d k c p e = let a = position-Some (λ x. x.id.0 == d) ds k c p in
    eqb-true c.id.0 d (ap (λ (x : DomainConfig). x.id.0 == d) (sym (get_or_from_slice_get ds k c c e)) ∙ a.1)

-- as many tables written back over all of them
pub written-back : (n : ℕ) (ws xs : List SparseTable) → length ws ≡ length xs → n ≡ length xs → take n (ws ++ drop (length ws) xs) ≡ ws
written-back n ws xs same all =
    let none : drop (length ws) xs ≡ [] = drop_all (length ws) xs (omega arith) in
    ap (λ (l : List SparseTable). take n (ws ++ l)) none ∙ ap (take n) (append-nil ws) ∙ take_all n ws (omega arith)

pub many-after : (ds : List DomainConfig) (first at : ℕ) (step : Step) (seen : Observation) (old new : List SparseTable) → TablesAfter ds first at step seen old new → length new ≡ length old
many-after ds first at (call_steps.Pin p) Taken old new t = t.many
many-after ds first at (Unpin p holder) seen old new t = t.many
many-after ds first at (StoreBody gref body_word word) seen old new t = t.many
many-after ds first at (StoreHeader version frames) seen old new t = t.many
many-after ds first at (Exchange gref looked change) Taken old new t = t.many
many-after ds first at step seen old new t = ap length t
