-- What a search that has ended knows of paths.
use Rattle.std.proofs.Common.{◌≡◌, ℕ, zero, suc, ◌+◌, ◌≤◌, ◌==◌, ◌&&◌, ◌||◌, not, Bool, true, false, inl, inr, List}
use Rattle.std.proofs.Common.{[], ◌∷◌, ◌++◌, length, Some, refl, slice_get, ap, arith, subst, sym, ◌∙◌, length-append}
use Rattle.std.proofs.lemmas.Bool.{eq-eqb, eqb-true}
use Rattle.gt_types.specs.declared.TypeId.{TypeId}
use Rattle.gt_flow.specs.Flow.{FlowPolicy}
use Rattle.gt_flow.specs.Trusted.{IsClosedButTrusted}
use Rattle.gt_flow.specs.Accesses.{MayFlowPast}
use Rattle.gt_flow.specs.Searched.{EachIsReached, EachPathLeadsWithin, EveryPathIsFound, WhatIsReachedIsClosed, has_reached}
use Rattle.gt_flow.specs.Paths.{IsFoundWithin, IsHop, IsPathPast, IsSearched}
use Rattle.gt_flow.specs.declared.searching.Reach.{Reach}

module _ (may : FlowPolicy) (trusted : TypeId → Bool) (source : TypeId) (found : List Reach)
    (is : IsSearched may trusted source found) where
  -- a type that is found from one that is one step further
  further : (y z : TypeId) (d : ℕ) (zs : List TypeId) (next : IsFoundWithin found z (d + 1))
      → IsFoundWithin found y (next.reach.distance + length zs) → IsFoundWithin found y (d + length (z ∷ zs))
  further y z d zs next after = record {
    reach = after.reach;
    place = after.place;
    listed = after.listed;
    id = after.id;
    near = omega (arith, after.near, next.near);
  }

  -- a path from a type that was found
  leads : (i : ℕ) (r : Reach) → slice_get found i ≡ Some r → (y : TypeId) (zs : List TypeId)
      → IsPathPast may trusted r.id zs y → IsFoundWithin found y (r.distance + length zs)
  leads i r h y [] path = record { reach = r; place = i; listed = h; id = path; near = omega arith }
  leads i r h y (z ∷ zs) path =
      let next = is.closed i r z h path.0 in
      further y z r.distance zs next
      (leads next.place next.reach next.listed y zs (subst (λ q. IsPathPast may trusted q zs y) (sym next.id) path.1))

  pub each-path : EachPathLeadsWithin may trusted source found
  each-path y zs path = nearer (leads 0 (record { id = source; from = 0; distance = 0 }) is.first y zs path)
    where
      nearer : IsFoundWithin found y (0 + length zs) → IsFoundWithin found y (length zs)
      nearer h = record { reach = h.reach; place = h.place; listed = h.listed; id = h.id; near = omega (arith, h.near) }

  -- a path with one access more
  longer : (x y z : TypeId) (zs : List TypeId) → IsPathPast may trusted x zs y → MayFlowPast may trusted y z
      → IsPathPast may trusted x (zs ++ z ∷ []) z
  longer x y z [] path flow = (subst (λ q. MayFlowPast may trusted q z) (sym path) flow, refl)
  longer x y z (w ∷ zs) path flow = (path.0, longer w y z zs path.1 flow)

  -- a path to each type that was found, by the number of its place
  back-to : (n i : ℕ) (r : Reach) → i ≤ n → slice_get found i ≡ Some r
      → (zs : List TypeId) × IsPathPast may trusted source zs r.id × (length zs ≡ r.distance)
  back-to n zero r le h = ([], ap (λ q. q.id) first-is, ap (λ q. q.distance) first-is)
    where
      first-is : record { id = source; from = 0; distance = 0 } ≡ r
      first-is = cc (h, is.first)
  back-to zero (suc i) r le h = absurd (omega (arith, le))
  back-to (suc n) (suc i) r le h = by (is.hops i r h′) (back-to n r.from (is.hops i r h′).before
      (omega (arith, le, is.backward i r h′)) (is.hops i r h′).place)
    where
      h′ : slice_get found (i + 1) ≡ Some r
      h′ = ap (λ n. slice_get found n) (omega arith) ∙ h

      by : (hop : IsHop may trusted found r)
          → ((zs : List TypeId) × IsPathPast may trusted source zs hop.before.id × (length zs ≡ hop.before.distance))
          → (zs : List TypeId) × IsPathPast may trusted source zs r.id × (length zs ≡ r.distance)
      by hop path = (
        path.0 ++ r.id ∷ [],
        longer source hop.before.id r.id path.0 path.1 hop.flow,
        omega (arith, length-append path.0 (r.id ∷ []), path.2, hop.distance),
      )

  pub each-reached : EachIsReached may trusted source found
  each-reached i r h = back-to i i r (omega arith) h

pub every_path_is_found : EveryPathIsFound
every_path_is_found may trusted source found is = (each-path may trusted source found is, each-reached may trusted source found is)

-- ---- the types that were found are a closed set

-- the set has a type that was found
same-as : (x r : Reach) (y : TypeId) → Some x ≡ Some r → r.id ≡ y → x.id ≡ y
same-as x r y h e = cc (h, e)

has : (found : List Reach) (i : ℕ) (r : Reach) (y : TypeId) → slice_get found i ≡ Some r → r.id ≡ y
    → has_reached found y ≡ true
has [] i r y h e = absurd (cc)
has (x ∷ found) zero r y h e = ap (λ b. b || has_reached found y) (eq-eqb x.id.0 y.0 (ap (λ (q : TypeId). q.0) (same-as x r y h e)))
has (x ∷ found) (suc i) r y h e = ap (λ b. (x.id.0 == y.0) || b) (has found i r y h e) ∙ or-true (x.id.0 == y.0)
  where
    or-true : (b : Bool) → (b || true) ≡ true
    or-true true = refl
    or-true false = refl

-- and a type that the set has was found
found-at : (found : List Reach) (y : TypeId) → has_reached found y ≡ true
    → (i : ℕ) × (r : Reach) × (slice_get found i ≡ Some r) × (r.id ≡ y)
found-at [] y h = absurd (cc)
found-at (x ∷ found) y h = by (λ k. found-at found y k) (x.id.0 == y.0) refl h
  where
    by : (has_reached found y ≡ true → (i : ℕ) × (r : Reach) × (slice_get found i ≡ Some r) × (r.id ≡ y))
        → (b : Bool) → (x.id.0 == y.0) ≡ b → (b || has_reached found y) ≡ true
        → (i : ℕ) × (r : Reach) × (slice_get (x ∷ found) i ≡ Some r) × (r.id ≡ y)
    by more true e k = (0, x, refl, ap (λ n. record { 0 = n }) (eqb-true x.id.0 y.0 e))
    by more false e k = (suc (more k).0, (more k).1, (more k).2, (more k).3)

module _ (may : FlowPolicy) (trusted : TypeId → Bool) (source : TypeId) (found : List Reach)
    (is : IsSearched may trusted source found) where
  onward : (x y : TypeId) → MayFlowPast may trusted x y → has_reached found x ≡ true → has_reached found y ≡ true
  onward x y flow h =
      let at = found-at found x h in
      let next = is.closed at.0 at.1 y at.2 (subst (λ q. MayFlowPast may trusted q y) (sym at.3) flow) in
      has found next.place next.reach y next.listed next.id

  parts : (a b : Bool) → (a && not b) ≡ true → (a ≡ true) × (b ≡ false)
  parts true false h = (refl, refl)
  parts true true h = absurd (cc)
  parts false b h = absurd (cc)

  pub closed-but : IsClosedButTrusted may (has_reached found) (λ x. has_reached found x && not (trusted x))
  closed-but = record {
    within = λ x h. (parts (has_reached found x) (trusted x) h).0;
    loads = λ x y flow h. onward x y (inr (inl flow)) h;
    stores = λ x y flow h. onward x y (inr (inr (inl ((parts (has_reached found x) (trusted x) h).1, flow))))
        (parts (has_reached found x) (trusted x) h).0;
    copies = λ x y flow h. onward x y (inr (inr (inr flow))) h;
  }

pub what_is_reached_is_closed : WhatIsReachedIsClosed
what_is_reached_is_closed may trusted source found is = closed-but may trusted source found is
