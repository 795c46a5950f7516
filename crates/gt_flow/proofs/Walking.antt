-- The way back from a type to the source.
use Rattle.std.proofs.Common.{◌≡◌, ℕ, zero, suc, ◌+◌, ◌<◌, ◌≤◌, ◌==◌, Bool, true, false, List, [], ◌∷◌, length, Some, None}
use Rattle.std.proofs.Common.{refl, slice_get, arith, ap, subst, sym, ◌∙◌, position, get_or, cond, inl, inr, not}
use Rattle.std.proofs.lemmas.Bool.{cases_lt, eq-eqb, eqb-true, le-ltb, lt-ltb}
use Rattle.std.specs.List.{position_or_len}
use Rattle.std.proofs.lemmas.List.Quantifiers.{position-Some}
use Rattle.std.proofs.lemmas.Option.{slice_get-get_or}
use Rattle.gt_types.specs.declared.TypeId.{TypeId}
use Rattle.gt_flow.specs.Flow.{FlowPolicy}
use Rattle.gt_flow.specs.Accesses.{MayFlowPast}
use Rattle.gt_flow.specs.Paths.{AreBackward, IsHop, IsPathPast, IsSearched, IsShortestPath}
use Rattle.gt_flow.specs.declared.searching.Reach.{Reach}
use Rattle.gt_flow.proofs.Growing.{here-is}
use Rattle.gt_flow.proofs.Places.{within}
use Rattle.gt_flow.proofs.Searched.{each-path}

-- the path leads from the type at the second place to the one at the first
abbrev pub LeadsOn : List Reach → ℕ → ℕ → List TypeId → Type 0
LeadsOn found place at path = (may : FlowPolicy) (trusted : TypeId → Bool) (source : TypeId) (r last : Reach)
    → IsSearched may trusted source found → slice_get found at ≡ Some r → slice_get found place ≡ Some last
    → IsPathPast may trusted r.id path last.id × (r.distance + length path ≡ last.distance)

pub record IsWalked (found : List Reach) (place at : ℕ) (path : List TypeId) : Type 0 where
  pub inside : at < length found
  pub leads : LeadsOn found place at path

-- at the beginning
pub not-yet : (found : List Reach) (place : ℕ) → place < length found → IsWalked found place place []
not-yet found place inside = record {
  inside = inside;
  leads = λ may trusted source r last is h k. (ap (λ q. q.id) (same r last h k), omega (arith, ap (λ q. q.distance) (same r last h k)));
}
  where
    same : (r last : Reach) → slice_get found place ≡ Some r → slice_get found place ≡ Some last → r ≡ last
    same r last h k = cc (h, k)

-- one step back
module _ (found : List Reach) (place at : ℕ) (path : List TypeId) (x : Reach) (w : IsWalked found place at path)
    (above : 0 < at) (is-x : x ≡ get_or found at x) (backward : AreBackward found) where
  here : slice_get found at ≡ Some x
  here = here-is found at x w.inside is-x

  -- the place before
  before : (n : ℕ) → at ≡ n + 1 → x.from ≤ n
  before n e = backward n x (ap (λ m. slice_get found m) (sym e) ∙ here)

  lead : (n : ℕ) → at ≡ n + 1 → LeadsOn found place x.from (x.id ∷ path)
  lead n e may trusted source r last is h k = by (is.hops n x (ap (λ m. slice_get found m) (sym e) ∙ here))
      (w.leads may trusted source x last is here k)
    where
      by : IsHop may trusted found x → IsPathPast may trusted x.id path last.id × (x.distance + length path ≡ last.distance)
          → IsPathPast may trusted r.id (x.id ∷ path) last.id × (r.distance + length (x.id ∷ path) ≡ last.distance)
      by hop on = let is-r : hop.before ≡ r = cc (hop.place, h) in (
        (subst (λ q. MayFlowPast may trusted q.id x.id) is-r hop.flow, on.0),
        omega (arith, on.1, hop.distance, ap (λ q. q.distance) is-r),
      )

  pub is-less : x.from < at
  is-less = by at refl
    where
      by : (n : ℕ) → at ≡ n → x.from < at
      by zero e = absurd (omega (arith, e, above))
      by (suc n) e = omega (arith, before n (omega (arith, e)), e)

  pub one-back : IsWalked found place x.from (x.id ∷ path)
  one-back = by at refl
    where
      by : (n : ℕ) → at ≡ n → IsWalked found place x.from (x.id ∷ path)
      by zero e = absurd (omega (arith, e, above))
      by (suc n) e = record {
        inside = omega (arith, before n (omega (arith, e)), w.inside, e);
        leads = lead n (omega (arith, e));
      }

-- the place of a type is that of the first one
least-place : (p : Reach → Bool) (found : List Reach) (i : ℕ) (r : Reach) → slice_get found i ≡ Some r → p r ≡ true
    → position_or_len p found ≤ i
least-place p [] i r h t = absurd (cc)
least-place p (x ∷ found) zero r h t =
    subst (λ b. cond (not b) (1 + position_or_len p found) 0 ≤ 0) (sym passes-x) (omega arith)
  where
    is-r : x ≡ r
    is-r = cc (h)

    passes-x : p x ≡ true
    passes-x = ap p is-r ∙ t
least-place p (x ∷ found) (suc i) r h t = by (not (p x)) (least-place p found i r h t)
  where
    by : (b : Bool) → position_or_len p found ≤ i → cond b (1 + position_or_len p found) 0 ≤ suc i
    by true le = omega (arith, le)
    by false le = omega arith

module _ (found : List Reach) (target : TypeId) where
  abbrev is-target : Reach → Bool
  is-target r = r.id.0 == target.0

  passes : (r : Reach) → r.id ≡ target → is-target r ≡ true
  passes r e = eq-eqb r.id.0 target.0 (ap (λ (q : TypeId). q.0) e)

  -- where the search has the type, it has a place
  unplaced : (i : ℕ) (r : Reach) → slice_get found i ≡ Some r → r.id ≡ target → position is-target found ≡ None → ⊥
  unplaced i r h e none = elim (cases_lt (position_or_len is-target found) (length found)) [
    | inl lt ↦ cc (
      none,
      ap (λ b. cond b (Some (position_or_len is-target found)) None)
          (lt-ltb (position_or_len is-target found) (length found) lt),
    )
    | inr past ↦ omega (arith, past, least-place is-target found i r h (passes r e), within found i r h)
  ]

  place-is : (place : ℕ) → position is-target found ≡ Some place → place ≡ position_or_len is-target found
  place-is place h = elim (cases_lt (position_or_len is-target found) (length found)) [
    | inl lt ↦ cc (
      h,
      ap (λ b. cond b (Some (position_or_len is-target found)) None)
          (lt-ltb (position_or_len is-target found) (length found) lt),
    )
    | inr past ↦ absurd (cc (
      h,
      ap (λ b. cond b (Some (position_or_len is-target found)) None)
          (le-ltb (position_or_len is-target found) (length found) past),
    ))
  ]

  none : Reach
  none = record { id = target; from = 0; distance = 0 }

  pub inside-found : (place : ℕ) → position is-target found ≡ Some place → place < length found
  inside-found place h = (position-Some is-target found place none h).0

  placed-first : (place : ℕ) → position is-target found ≡ Some place
      → (last : Reach) × (slice_get found place ≡ Some last) × (last.id ≡ target)
  placed-first place h = (
    get_or found place none,
    slice_get-get_or found place none (inside-found place h),
    ap (λ n. record { 0 = n }) (eqb-true (get_or found place none).id.0 target.0 (position-Some is-target found place none h).1),
  )

  -- no path leads to a type that the search lacks
  pub no-path : position is-target found ≡ None → (may : FlowPolicy) (trusted : TypeId → Bool) (source : TypeId)
      → IsSearched may trusted source found → (zs : List TypeId) → IsPathPast may trusted source zs target → ⊥
  no-path none may trusted source is zs path =
      let at = each-path may trusted source found is target zs path in
      unplaced at.place at.reach at.listed at.id none

  -- the way back has arrived
  pub arrived : (place at : ℕ) (path : List TypeId) → position is-target found ≡ Some place → at ≤ 0
      → IsWalked found place at path → (may : FlowPolicy) (trusted : TypeId → Bool) (source : TypeId)
      → IsSearched may trusted source found → IsShortestPath may trusted source target path
  arrived place at path h zero-at w may trusted source is =
      let last = placed-first place h in
      let first : slice_get found at ≡ Some (record { id = source; from = 0; distance = 0 })
      = ap (λ n. slice_get found n) (omega (arith, zero-at)) ∙ is.first in
      let on = w.leads may trusted source (record { id = source; from = 0; distance = 0 }) last.0 is first last.1 in
      record {
        path = subst (λ q. IsPathPast may trusted source path q) last.2 on.0;
        least = λ others other.
            let at = each-path may trusted source found is target others other in
            omega (
              arith,
              on.1,
              at.near,
              is.ordered place at.place last.0 at.reach
                  (omega (arith, place-is place h, least-place is-target found at.place at.reach at.listed (passes at.reach at.id)))
                  last.1 at.listed,
            );
      }
