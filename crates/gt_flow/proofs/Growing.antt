-- A search while it goes on.
use Rattle.std.proofs.Common.{◌≡◌, ◌⊎◌, ℕ, zero, suc, ◌+◌, ◌<◌, ◌≤◌, ◌==◌, Bool, true, false, not, inl, inr, List, [], ◌∷◌, ◌++◌}
use Rattle.std.proofs.Common.{length, map, filter, Some, refl, slice_get, ap, arith, subst, sym, ◌∙◌, option_map, Option, None, get_or}
use Rattle.std.proofs.lemmas.Bool.{eqb-false, eqb-true}
use Rattle.std.proofs.lemmas.Option.{slice_get-map, slice_get_read}
use Rattle.gt_types.specs.declared.TypeId.{TypeId}
use Rattle.gt_flow.specs.Flow.{FlowPolicy}
use Rattle.gt_flow.specs.Accesses.{AreAmong, flows, is_among}
use Rattle.gt_flow.specs.Paths.{AreBackward, IsFoundWithin, IsHop, IsSearched, hop_from}
use Rattle.gt_flow.specs.declared.searching.Reach.{Reach}
use Rattle.gt_flow.proofs.OneAccess.{is-declared, is-flow, is-found}
use Rattle.gt_flow.proofs.Places.{append-cases, append-left, append-right, kept, passes, placed, within}

module _ (may : FlowPolicy) (trusted : TypeId → Bool) (source : TypeId) (count : ℕ) where
  -- the types before this place were looked at, and those of `left` are not reached yet
  pub record IsUnder (at : ℕ) (found : List Reach) (left : List TypeId) : Type 0 where
    pub first : slice_get found 0 ≡ Some (record { id = source; from = 0; distance = 0 })
    pub backward : AreBackward found
    pub hops : (i : ℕ) (r : Reach) → slice_get found (i + 1) ≡ Some r → IsHop may trusted found r
    pub ordered : (i j : ℕ) (r s : Reach) → i ≤ j → slice_get found i ≡ Some r → slice_get found j ≡ Some s
        → r.distance ≤ s.distance
    pub near : (i : ℕ) (r s : Reach) → slice_get found at ≡ Some r → slice_get found i ≡ Some s
        → s.distance ≤ r.distance + 1
    pub small : (i : ℕ) (r : Reach) → slice_get found i ≡ Some r → r.distance ≤ i
    pub apart : (y : TypeId) → y.0 < count
        → ((i : ℕ) × (r : Reach) × (slice_get found i ≡ Some r) × (r.id ≡ y)) ⊎ (is_among left y ≡ true)
    pub looked : (i : ℕ) (r : Reach) (y : TypeId) → i < at → slice_get found i ≡ Some r
        → flows may (trusted r.id) r.id y ≡ true → IsFoundWithin found y (r.distance + 1)

  more-hops : (found new : List Reach) (r : Reach) → IsHop may trusted found r → IsHop may trusted (found ++ new) r
  more-hops found new r h = record {
    before = h.before;
    place = append-left found new r.from h.before h.place;
    distance = h.distance;
    flow = h.flow;
  }

  more-found : (found new : List Reach) (y : TypeId) (n : ℕ) → IsFoundWithin found y n
      → IsFoundWithin (found ++ new) y n
  more-found found new y n h = record {
    reach = h.reach;
    place = h.place;
    listed = append-left found new h.place h.reach h.listed;
    id = h.id;
    near = h.near;
  }

  -- what one look adds
  abbrev pub test : Reach → TypeId → Bool
  test x y = flows may (trusted x.id) x.id y

  abbrev pub added : ℕ → Reach → List TypeId → List Reach
  added at x left = map (hop_from at x) (filter (test x) left)

  -- each that is added is a hop from there
  is-added : (at : ℕ) (x : Reach) (left : List TypeId) (j : ℕ) (r : Reach) → slice_get (added at x left) j ≡ Some r
      → (r ≡ hop_from at x r.id) × (test x r.id ≡ true)
  is-added at x left j r h =
      by (slice_get (filter (test x) left) j) refl (sym (slice_get-map (hop_from at x) (filter (test x) left) j) ∙ h)
    where
      by : (o : Option TypeId) → slice_get (filter (test x) left) j ≡ o → option_map (hop_from at x) o ≡ Some r
          → (r ≡ hop_from at x r.id) × (test x r.id ≡ true)
      by None e k = absurd (cc)
      by (Some y) e k = (grind (arith, k), grind (arith, k, passes (test x) left j y e))

  -- the first look
  pub at-first : (left : List TypeId) → ((y : TypeId) → y.0 < count → (y ≡ source) ⊎ (is_among left y ≡ true))
      → IsUnder 0 (record { id = source; from = 0; distance = 0 } ∷ []) left
  at-first left all = record {
    first = refl;
    backward = λ i r h. absurd (none i r h);
    hops = λ i r h. absurd (none i r h);
    ordered = λ i j r s le h k. omega (arith, alone i r h, alone j s k);
    near = λ i r s h k. omega (arith, alone 0 r h, alone i s k);
    small = λ i r h. omega (arith, alone i r h);
    apart = λ y lt. elim (all y lt) [
      | inl same ↦ inl (0, record { id = source; from = 0; distance = 0 }, refl, sym same)
      | inr among ↦ inr among
    ];
    looked = λ i r y lt. absurd (omega (arith, lt));
  }
    where
      none : (i : ℕ) (r : Reach) → slice_get (record { id = source; from = 0; distance = 0 } ∷ []) (i + 1) ≡ Some r → ⊥
      none i r h = omega (arith, within (record { id = source; from = 0; distance = 0 } ∷ []) (i + 1) r h)

      alone : (i : ℕ) (r : Reach) → slice_get (record { id = source; from = 0; distance = 0 } ∷ []) i ≡ Some r
          → r.distance ≡ 0
      alone zero r h = grind (arith, h)
      alone (suc i) r h = absurd (cc)

  -- what a look leaves
  abbrev pub others_left : Reach → List TypeId → List TypeId
  others_left x left = filter (λ y. not (test x y)) left

  -- one more look
  module _ (among : AreAmong count may) (at : ℕ) (found : List Reach) (left : List TypeId) (u : IsUnder at found left)
      (x : Reach) (here : slice_get found at ≡ Some x) where
    abbrev pub new : List Reach
    new = added at x left

    -- each type is from before, or was added
    either : (i : ℕ) (r : Reach) → slice_get (found ++ new) i ≡ Some r
        → (slice_get found i ≡ Some r)
        ⊎ ((length found ≤ i) × (r.from ≡ at) × (r.distance ≡ x.distance + 1) × (test x r.id ≡ true))
    either i r h = elim (append-cases found new i r h) [
      | inl k ↦ inl k
      | inr k ↦ inr (
        omega (arith, k.1),
        ap (λ q. q.from) (is-added at x left k.0 r k.2).0,
        ap (λ q. q.distance) (is-added at x left k.0 r k.2).0,
        (is-added at x left k.0 r k.2).1,
      )
    ]

    inside : at + 1 ≤ length found
    inside = within found at x here

    at-most : (i : ℕ) (r : Reach) → slice_get (found ++ new) i ≡ Some r → r.distance ≤ x.distance + 1
    at-most i r h = elim (either i r h) [
      | inl k ↦ u.near i x r here k
      | inr k ↦ omega (arith, k.2)
    ]

    in-order : (i j : ℕ) (r s : Reach) → i ≤ j → slice_get (found ++ new) i ≡ Some r
        → slice_get (found ++ new) j ≡ Some s → r.distance ≤ s.distance
    in-order i j r s le h k = by (either i r h) (either j s k)
      where
        by : (slice_get found i ≡ Some r)
            ⊎ ((length found ≤ i) × (r.from ≡ at) × (r.distance ≡ x.distance + 1) × (test x r.id ≡ true))
            → (slice_get found j ≡ Some s)
            ⊎ ((length found ≤ j) × (s.from ≡ at) × (s.distance ≡ x.distance + 1) × (test x s.id ≡ true))
            → r.distance ≤ s.distance
        by (inl a) (inl b) = u.ordered i j r s le a b
        by (inl a) (inr b) = omega (arith, u.near i x r here a, b.2)
        by (inr a) (inl b) = absurd (omega (arith, a.0, le, within found j s b))
        by (inr a) (inr b) = omega (arith, a.2, b.2)

    -- a type that is not reached yet, and that the look finds
    is-new : (y : TypeId) → is_among left y ≡ true → test x y ≡ true
        → (i : ℕ) × (slice_get (found ++ new) i ≡ Some (hop_from at x y))
    is-new y listed t = (
      length found + place.0,
      append-right found new place.0 (length found + place.0) (hop_from at x y) refl
          (slice_get-map (hop_from at x) (filter (test x) left) place.0 ∙ ap (λ o. option_map (hop_from at x) o) place.1),
    )
      where
        place : (i : ℕ) × (slice_get (filter (test x) left) i ≡ Some y)
        place = placed (filter (test x) left) y (kept (test x) left y listed t)

    found-by : (y : TypeId) → test x y ≡ true → IsFoundWithin (found ++ new) y (x.distance + 1)
    found-by y t = elim (u.apart y (is-declared may count (trusted x.id) x.id y among t)) [
      | inl k ↦ record {
        reach = k.1;
        place = k.0;
        listed = append-left found new k.0 k.1 k.2;
        id = k.3;
        near = u.near k.0 x k.1 here k.2;
      }
      | inr k ↦ record {
        reach = hop_from at x y;
        place = (is-new y k t).0;
        listed = (is-new y k t).1;
        id = refl;
        near = omega arith;
      }
    ]

    pub one-more : IsUnder (at + 1) (found ++ new) (others_left x left)
    one-more = record {
      first = append-left found new 0 _ u.first;
      backward = λ i r h. elim (either (i + 1) r h) [
        | inl k ↦ u.backward i r k
        | inr k ↦ omega (arith, k.0, k.1, inside)
      ];
      hops = λ i r h. elim (either (i + 1) r h) [
        | inl k ↦ more-hops found new r (u.hops i r k)
        | inr k ↦ record {
          before = x;
          place = ap (λ n. slice_get (found ++ new) n) k.1 ∙ append-left found new at x here;
          distance = k.2;
          flow = is-flow may trusted x.id r.id k.3;
        }
      ];
      ordered = in-order;
      near = λ i r s h k. omega (
        arith,
        at-most i s k,
        in-order at (at + 1) x r (omega arith) (append-left found new at x here) h,
      );
      small = λ i r h. elim (either i r h) [
        | inl k ↦ u.small i r k
        | inr k ↦ omega (arith, k.0, k.2, u.small at x here, inside)
      ];
      apart = λ y lt. elim (u.apart y lt) [
        | inl k ↦ inl (k.0, k.1, append-left found new k.0 k.1 k.2, k.3)
        | inr k ↦ by-test y k (test x y) refl
      ];
      looked = λ i r y lt h t. by-place i r y lt (either i r h) t;
    }
      where
        by-test : (y : TypeId) → is_among left y ≡ true → (b : Bool) → test x y ≡ b
            → ((i : ℕ) × (r : Reach) × (slice_get (found ++ new) i ≡ Some r) × (r.id ≡ y))
            ⊎ (is_among (others_left x left) y ≡ true)
        by-test y k true t = inl ((is-new y k t).0, hop_from at x y, (is-new y k t).1, refl)
        by-test y k false t = inr (kept (λ z. not (test x z)) left y k (ap not t))

        by-place : (i : ℕ) (r : Reach) (y : TypeId) → i < at + 1
            → (slice_get found i ≡ Some r)
            ⊎ ((length found ≤ i) × (r.from ≡ at) × (r.distance ≡ x.distance + 1) × (test x r.id ≡ true))
            → flows may (trusted r.id) r.id y ≡ true → IsFoundWithin (found ++ new) y (r.distance + 1)
        by-place i r y lt (inr k) t = absurd (omega (arith, k.0, lt, inside))
        by-place i r y lt (inl k) t = by-order (i == at) refl
          where
            by-order : (b : Bool) → (i == at) ≡ b → IsFoundWithin (found ++ new) y (r.distance + 1)
            by-order true e = subst (λ q. IsFoundWithin (found ++ new) y (q.distance + 1)) is (found-by y t′)
              where
                is : x ≡ r
                is = cc (here, k, ap (λ n. slice_get found n) (eqb-true i at e))

                t′ : test x y ≡ true
                t′ = ap (λ q. flows may (trusted q.id) q.id y) is ∙ t
            by-order false e = more-found found new y (r.distance + 1) (u.looked i r y (omega (arith, lt, eqb-false i at e)) k t)

  -- the end
  pub searched : (found : List Reach) (left : List TypeId) (at : ℕ) → length found ≤ at → IsUnder at found left
      → IsSearched may trusted source found
  searched found left at past u = record {
    first = u.first;
    backward = u.backward;
    hops = u.hops;
    ordered = u.ordered;
    closed = λ i r y h flow. elim (is-found may trusted r.id y flow) [
      | inl same ↦ record { reach = r; place = i; listed = h; id = same; near = omega arith }
      | inr t ↦ u.looked i r y (omega (arith, past, within found i r h)) h t
    ];
  }

-- the place of a look
pub here-is : (found : List Reach) (at : ℕ) (x : Reach) → at < length found → x ≡ get_or found at x
    → slice_get found at ≡ Some x
here-is found at x lt is = slice_get_read found (length found) at x refl lt is
