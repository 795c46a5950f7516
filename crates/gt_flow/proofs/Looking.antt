-- One look at the types that are not reached yet.
use Rattle.std.proofs.Common.{◌≡◌, ℕ, ◌+◌, ◌-◌, ◌<◌, Bool, true, false, not, List, [], ◌∷◌, ◌++◌, length, map, filter, take}
use Rattle.std.proofs.Common.{refl, ap, sym, ◌∙◌, arith, get_or, cond, length-append, ◌||◌, ◌&&◌, Option, Some, None, is_some, if◌then◌else◌}
use Rattle.std.proofs.lemmas.List.{append-nil, append_assoc, length-map, map-append}
use Rattle.std.proofs.lemmas.List.Elements.{filter_more}
use Rattle.std.proofs.lemmas.List.Filters.{length-filter_both}
use Rattle.gt_types.specs.declared.TypeId.{TypeId}
use Rattle.gt_flow.specs.Flow.{FlowPolicy}
use Rattle.gt_flow.specs.Accesses.{allowed_access, may_copy, flows, may_load, may_store}
use Rattle.gt_flow.specs.declared.accesses.Access.{Access}
use Rattle.gt_flow.specs.declared.accesses.Access.TheVariants as accesses
use Rattle.gt_flow.specs.declared.searching.Reach.{Reach}

module _ (p : TypeId → Bool) (xs : List TypeId) (i : ℕ) (d : TypeId) (inside : i < length xs) where
  filter-yes : p (get_or xs i d) ≡ true → filter p (take (i + 1) xs) ≡ filter p (take i xs) ++ get_or xs i d ∷ []
  filter-yes t = filter_more p xs i d inside ∙ ap (λ b. filter p (take i xs) ++ cond b (get_or xs i d ∷ []) []) t

  filter-no : p (get_or xs i d) ≡ false → filter p (take (i + 1) xs) ≡ filter p (take i xs)
  filter-no t = filter_more p xs i d inside
      ∙ ap (λ b. filter p (take i xs) ++ cond b (get_or xs i d ∷ []) []) t ∙ append-nil (filter p (take i xs))

-- what was found and what is left, after this number of the types
abbrev pub AreSplit : (TypeId → Bool) → (TypeId → Reach) → List Reach → List TypeId → ℕ → List Reach → List TypeId → Type 0
AreSplit p hop start xs i reached rest =
    (reached ≡ start ++ map hop (filter p (take i xs))) × (rest ≡ filter (λ y. not (p y)) (take i xs))

module _ (p : TypeId → Bool) (hop : TypeId → Reach) (start : List Reach) (xs : List TypeId) (i : ℕ) (d : TypeId)
    (inside : i < length xs) (reached : List Reach) (rest : List TypeId) (so-far : AreSplit p hop start xs i reached rest)
  where
    pub found-one : p (get_or xs i d) ≡ true → AreSplit p hop start xs (i + 1) (reached ++ hop (get_or xs i d) ∷ []) rest
    found-one t = (
      ap (λ r. r ++ hop (get_or xs i d) ∷ []) so-far.0
          ∙ append_assoc start (map hop (filter p (take i xs))) (hop (get_or xs i d) ∷ [])
          ∙ ap (λ r. start ++ r) (sym (map-append hop (filter p (take i xs)) (get_or xs i d ∷ [])))
          ∙ ap (λ f. start ++ map hop f) (sym (filter-yes p xs i d inside t)),
      so-far.1 ∙ sym (filter-no (λ z. not (p z)) xs i d inside (ap not t)),
    )

    pub left-one : p (get_or xs i d) ≡ false → AreSplit p hop start xs (i + 1) reached (rest ++ get_or xs i d ∷ [])
    left-one t = (
      so-far.0 ∙ ap (λ f. start ++ map hop f) (sym (filter-no p xs i d inside t)),
      ap (λ r. r ++ get_or xs i d ∷ []) so-far.1 ∙ sym (filter-yes (λ z. not (p z)) xs i d inside (ap not t)),
    )

-- the access that is found, as the question
asks : (l c s : Bool) → is_some (if l then Some accesses.Load else if c then Some accesses.Copy
    else if s then Some accesses.Store else None) ≡ (l || c || s)
asks true c s = refl
asks false true s = refl
asks false false true = refl
asks false false false = refl

pub asked : (may : FlowPolicy) (b : Bool) (x y : TypeId) (o : Option Access) (r v : Bool) → o ≡ allowed_access may b x y
    → r ≡ is_some o → r ≡ v → flows may b x y ≡ v
asked may b x y o r v e f g = sym (asks (may_load may x y) (may_copy may x y) (not b && may_store may x y))
    ∙ ap (λ q. is_some q) (sym e) ∙ sym f ∙ g

-- each look leaves less to do
pub less-to-do : (p : TypeId → Bool) (hop : TypeId → Reach) (found reached : List Reach) (left same rest : List TypeId)
    (at : ℕ) → same ≡ left → at < length found → reached ≡ found ++ map hop (filter p same)
    → rest ≡ filter (λ y. not (p y)) same
    → length rest + (length reached - (at + 1)) < length left + (length found - at)
less-to-do p hop found reached left same rest at is inside e f =
    omega (
      arith,
      length-filter_both p (λ y. not (p y)) (λ y. refl) same,
      ap length e,
      ap length f,
      ap length is,
      length-append found (map hop (filter p same)),
      length-map (filter p same) hop,
      inside,
    )
