-- The indices of the domains by their numbers, and what is seen of the domain at an index.
use Rattle.gt_core.proofs.Words.{◌≡◌, ◌==◌, ℕ, zero, suc, refl, Bool, true, false, List, [], ◌∷◌, length, map, Some}
use Rattle.gt_core.proofs.Words.{None, cond, ltb, sym, ap, ◌∙◌, arith, get_or, set, position, position_or_len}
use Rattle.gt_core.proofs.Words.{length-map, DomId, DomainConfig, Step, Unpin, StoreBody, StoreHeader, Exchange}
use Rattle.gt_core.proofs.Words.{Observation, Taken, State, state_of, changed_in, applied, with_slot, with_own}
use Rattle.gt_core.proofs.Words.{with_header, without_holder, Unpinned, Stored, first_state, Result, Ok, Err, OnErr}
use Rattle.gt_core.proofs.Words.{take, drop, ◌++◌, drop_all, append-nil, take_all}
use Rattle.gt_model.specs.declared.action.Step.TheVariants as call_steps
use Rattle.std.specs.Prelude.{OnOk}
use Rattle.gt_core.specs.declared.pin_counts.CountsChange.TheVariants as counts_changes
use Rattle.gt_core.proofs.{Rows.has_id, Rows.found, Rows.not-found, Performing.kept-id, Steps.See.seen-state}

abbrev pub ids_in : List State → List DomId
ids_in xs = map (λ (x : State). x.id) xs

abbrev pub numbers : List DomainConfig → List DomId
numbers ds = map (λ (d : DomainConfig). d.id) ds

abbrev pub has_number : ℕ → DomainConfig → Bool
has_number d x = x.id.0 == d

rest : List DomId → List DomId
rest [] = []
rest (x ∷ xs) = xs

front : DomId → List DomId → DomId
front d [] = d
front d (x ∷ xs) = x

same-place : (xs : List State) (ds : List DomainConfig) (d : ℕ) → ids_in xs ≡ numbers ds → position_or_len (has_number d) ds ≡ position_or_len (has_id d) xs
unfolding front rest
same-place [] [] d e = refl
same-place (x ∷ xs) [] d e = cc
same-place [] (c ∷ ds) d e = cc
same-place (x ∷ xs) (c ∷ ds) d e = let first : x.id ≡ c.id = ap (front c.id) e in grind (arith, same-place xs ds d (ap rest e), first)

-- the index of a number among the domains configured is that among their states
pub place-by-id : (xs : List State) (ds : List DomainConfig) (d : ℕ) → ids_in xs ≡ numbers ds → position (has_number d) ds ≡ position (has_id d) xs
place-by-id xs ds d e = ap (λ (n : ℕ). cond (ltb n (length ds)) (Some n) None) (same-place xs ds d e)
    ∙ ap (λ (m : ℕ). cond (ltb (position_or_len (has_id d) xs) m) (Some (position_or_len (has_id d) xs)) None)
    (sym (length-map ds (λ (c : DomainConfig). c.id)) ∙ ap length (sym e) ∙ length-map xs (λ (x : State). x.id))

-- a change of a domain keeps the numbers
pub ids-changed : (xs : List State) (t : ℕ) (g : State → State) → ((x : State) → (g x).id ≡ x.id) → ids_in (changed_in t g xs) ≡ ids_in xs
ids-changed [] t g keeps = refl
ids-changed (z ∷ zs) t g keeps = grind (arith, ids-changed zs t g keeps, keeps z)

-- and so does a step
pub ids-applied : (d : DomId) (step : Step) (seen : Observation) (xs : List State) → ids_in (applied d step seen xs) ≡ ids_in xs
ids-applied d (call_steps.Pin p) Taken xs = ids-changed xs p.dom.0 (with_slot p.gref.0 (counts_changes.Pinned p.dir)) (λ x. refl)
ids-applied d (Exchange gref looked change) Taken xs = ids-changed xs d.0 (with_own gref.0 change) (λ x. refl)
ids-applied d (Unpin p holder) seen xs = ids-changed (changed_in p.dom.0 (with_slot p.gref.0 (Unpinned p.dir)) xs) d.0 (without_holder holder) (kept-id holder)
    ∙ ids-changed xs p.dom.0 (with_slot p.gref.0 (Unpinned p.dir)) (λ x. refl)
ids-applied d (StoreBody gref body_word word) seen xs = ids-changed xs d.0 (with_slot gref.0 (Stored body_word word)) (λ x. refl)
ids-applied d (StoreHeader version frames) seen xs = ids-changed xs d.0 (with_header version frames) (λ x. refl)
ids-applied d step seen xs = refl

-- and a new state of one domain with the same number
pub ids-set : (xs : List State) (i : ℕ) (y x : State) → x ≡ get_or xs i x → y.id ≡ x.id → ids_in (set xs i y) ≡ ids_in xs
ids-set [] i y x here same = refl
ids-set (z ∷ zs) zero y x here same = ap (λ (d : DomId). d ∷ ids_in zs) (same ∙ ap (λ (s : State). s.id) here)
ids-set (z ∷ zs) (suc i) y x here same = ap (λ (l : List DomId). z.id ∷ l) (ids-set zs i y x here same)

-- the first states are those of the domains configured
pub ids-first : (first : ℕ) (ds : List DomainConfig) → ids_in (map (first_state first) ds) ≡ numbers ds
ids-first first [] = refl
ids-first first (d ∷ ds) = ap (λ (l : List DomId). d.id ∷ l) (ids-first first ds)

-- what follows both from Ok and from Err
pub either-way : {A E : Type 0} (r : Result A E) (P Q Z : Type 0) → OnOk r P → OnErr r Q → (P → Z) → (Q → Z) → Z
either-way (Ok a) P Q Z p q f g = f p
either-way (Err e) P Q Z p q f g = g q

-- as many states written back over all of them
pub written-back : (n : ℕ) (ws xs : List State) → length ws ≡ length xs → n ≡ length xs → take n (ws ++ drop (length ws) xs) ≡ ws
written-back n ws xs same all =
    let none : drop (length ws) xs ≡ [] = drop_all (length ws) xs (omega arith) in
    ap (λ (l : List State). take n (ws ++ l)) none ∙ ap (take n) (append-nil ws) ∙ take_all n ws (omega arith)

module _ {A : Type 0} (seen : List State → A) (of : State → A) (d : ℕ) (more : (y : State) (ys : List State) → seen (y ∷ ys) ≡ cond (y.id.0 == d) (of y) (seen ys)) where
  -- what is seen of the domain at the index of its number
  pub seen-there : (xs : List State) (at : ℕ) (x : State) → position (has_id d) xs ≡ Some at → x ≡ get_or xs at x → seen xs ≡ of x
  seen-there xs at x p here = seen-state seen of d x more xs (found xs d at x p ∙ ap (λ (z : State). Some z) (sym here))

  unseen : (xs : List State) → state_of xs d ≡ None → seen xs ≡ seen []
  unseen [] e = refl
  unseen (y ∷ ys) e = more y ys ∙ by (y.id.0 == d) e (unseen ys) where
    by : (b : Bool) → cond b (Some y) (state_of ys d) ≡ None → (state_of ys d ≡ None → seen ys ≡ seen []) → cond b (of y) (seen ys) ≡ seen []
    by true k r = cc
    by false k r = r k

  -- nothing is seen of a number that no domain has
  pub seen-nowhere : (xs : List State) → position (has_id d) xs ≡ None → seen xs ≡ seen []
  seen-nowhere xs p = unseen xs (not-found xs d p)
