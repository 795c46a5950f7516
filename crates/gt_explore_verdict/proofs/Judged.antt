-- What a verdict on texts that were found means for those that may be given.
use Rattle.std.proofs.Common.{◌≡◌, ◌∙◌, ◌⊎◌, ◌+◌, ℕ, zero, suc, not, Bool, true, false, List, [], ◌∷◌, All, map, Option, Some, None, ap, refl, subst}
use Rattle.std.proofs.Common.{sym, slice_get, inl, inr}
use Rattle.std.proofs.Math.Bool.{cond}
use Rattle.std.specs.Prelude.{is_some}
use Rattle.std.proofs.lemmas.Iterator.Adapters.{position_from-zero}
use Rattle.std.proofs.lemmas.Option.{none-some, same_Some, get_or_from_slice_get, slice_get_within}
use Rattle.std.specs.List.{position, position_from}
use Rattle.gt_explore_verdict.specs.Formulas.{Formula, satisfies}
use Rattle.gt_explore_verdict.specs.Judging.{VerdictMeans, judged, shows, verdict_at}
use Rattle.gt_explore_verdict.specs.declared.judging.Claim.{Claim}
use Rattle.gt_explore_verdict.specs.declared.judging.Claim.TheVariants.{Find, Never, Always}

none_step : (b : Bool) (i : ℕ) (rest : Option ℕ) → cond b (Some i) rest ≡ None → (b ≡ false) × (rest ≡ None)
none_step true i rest is = absurd (none-some i (sym is))
none_step false i rest is = (refl, is)

some_step : (b : Bool) (i : ℕ) (rest : Option ℕ) (k : ℕ) → cond b (Some i) rest ≡ Some k
    → ((b ≡ true) × (i ≡ k)) ⊎ (rest ≡ Some k)
some_step true i rest k is = inl (refl, same_Some i k is)
some_step false i rest k is = inr is

-- no text passes the test if the search for one ends without one
none_passes : (p : Bool → Bool) (s : List ℕ → Bool) (ts : List (List ℕ)) (i at : ℕ) (t : List ℕ)
    → position_from p i (map s ts) ≡ None → slice_get ts at ≡ Some t → p (s t) ≡ false
none_passes p s [] i at t is there = absurd (none-some t there)
none_passes p s (u ∷ ts) i zero t is there =
    ap (λ (v : List ℕ). p (s v)) (sym (same_Some u t there)) ∙ (none_step (p (s u)) i (position_from p (i + 1) (map s ts)) is).0
none_passes p s (u ∷ ts) i (suc at) t is there =
    none_passes p s ts (i + 1) at t (none_step (p (s u)) i (position_from p (i + 1) (map s ts)) is).1 there

-- a text passes the test
abbrev Passes : (Bool → Bool) → (List ℕ → Bool) → List (List ℕ) → Type 0
Passes p s ts = (at : ℕ) × (t : List ℕ) × (slice_get ts at ≡ Some t) × (p (s t) ≡ true)

-- the one that the search for it ends with does
one_passes : (p : Bool → Bool) (s : List ℕ → Bool) (ts : List (List ℕ)) (i k : ℕ)
    → position_from p i (map s ts) ≡ Some k → Passes p s ts
one_passes p s [] i k is = absurd (none-some k is)
one_passes p s (u ∷ ts) i k is =
    by (one_passes p s ts (i + 1) k) (some_step (p (s u)) i (position_from p (i + 1) (map s ts)) k is)
  where
    by : (position_from p (i + 1) (map s ts) ≡ Some k → Passes p s ts)
        → ((p (s u) ≡ true) × (i ≡ k)) ⊎ (position_from p (i + 1) (map s ts) ≡ Some k) → Passes p s (u ∷ ts)
    by rest (inl here) = (0, u, refl, here.0)
    by rest (inr later) = let q = rest later in (suc q.0, q.1, q.2, q.3)

not_true : (b : Bool) → not b ≡ true → b ≡ false
not_true true is = sym is
not_true false is = refl

not_false : (b : Bool) → not b ≡ false → b ≡ true
not_false true is = refl
not_false false is = sym is

-- each text that may be given is one of these
abbrev pub AreAll : (List ℕ → Type 0) → List (List ℕ) → Type 0
AreAll May texts = (text : List ℕ) → May text → (at : ℕ) × (slice_get texts at ≡ Some text)

given : (May : List ℕ → Type 0) (texts : List (List ℕ)) (at : ℕ) (t : List ℕ) → All May texts → slice_get texts at ≡ Some t → May t
given May texts at t all is = subst May (get_or_from_slice_get texts at t t is) (all at t (slice_get_within texts at t is))

shown : (May : List ℕ → Type 0) (claim : Claim) (e : Formula) (texts : List (List ℕ)) (whole : Bool) → All May texts
    → Passes (shows claim) (satisfies e) texts → VerdictMeans May claim e (verdict_at claim true whole)
shown May Find e texts whole all p = (p.1, given May texts p.0 p.1 all p.2, p.3)
shown May Never e texts whole all p = (p.1, given May texts p.0 p.1 all p.2, p.3)
shown May Always e texts whole all p = (p.1, given May texts p.0 p.1 all p.2, not_true (satisfies e p.1) p.3)

not_shown : (May : List ℕ → Type 0) (claim : Claim) (e : Formula) (texts : List (List ℕ)) (whole : Bool)
    → (whole ≡ true → AreAll May texts) → ((at : ℕ) (t : List ℕ) → slice_get texts at ≡ Some t → shows claim (satisfies e t) ≡ false)
    → VerdictMeans May claim e (verdict_at claim false whole)
not_shown May Find e texts true every none = λ text may. let a = every refl text may in none a.0 text a.1
not_shown May Never e texts true every none = λ text may. let a = every refl text may in none a.0 text a.1
not_shown May Always e texts true every none =
    λ text may. let a = every refl text may in not_false (satisfies e text) (none a.0 text a.1)
not_shown May Find e texts false every none = tt
not_shown May Never e texts false every none = tt
not_shown May Always e texts false every none = tt

-- the verdict on texts that may be given, all of them if the search is over, means what it says
pub judged_means : (May : List ℕ → Type 0) (claim : Claim) (e : Formula) (texts : List (List ℕ)) (whole : Bool) → All May texts
    → (whole ≡ true → AreAll May texts) → VerdictMeans May claim e (judged claim (map (satisfies e) texts) whole).verdict
judged_means May claim e texts whole all every =
    by (position (shows claim) (map (satisfies e) texts)) (sym (position_from-zero (shows claim) (map (satisfies e) texts)))
  where
    by : (o : Option ℕ) → position_from (shows claim) 0 (map (satisfies e) texts) ≡ o → VerdictMeans May claim e (verdict_at claim (is_some o) whole)
    by None is = not_shown May claim e texts whole every (λ at t. none_passes (shows claim) (satisfies e) texts 0 at t is)
    by (Some k) is = shown May claim e texts whole all (one_passes (shows claim) (satisfies e) texts 0 k is)
