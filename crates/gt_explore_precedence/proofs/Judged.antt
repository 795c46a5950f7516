-- What is judged of texts with precedences holds of orders.
use Rattle.std.proofs.Common.{◌≡◌, ◌∙◌, ap, refl, sym, subst, ℕ, zero, suc, Bool, true, false, not, List, [], ◌∷◌, map, Option, Some, None, All, ◌⊎◌, ◌+◌, inl, inr}
use Rattle.std.proofs.lemmas.Bool.{false≢true}
use Rattle.std.proofs.lemmas.List.Elements.{recursion_from_All}
use Rattle.std.proofs.lemmas.Iterator.Adapters.{position_from-zero}
use Rattle.std.proofs.lemmas.Option.{none-some, same_Some}
use Rattle.std.proofs.Math.Bool.{cond}
use Rattle.std.specs.List.{position, position_from}
use Rattle.std.specs.Prelude.{is_some, slice_get}
use Rattle.gt_explore_ordered.specs.Ordered.{HasEachOrdered, HasOrder, HoldsExactly, IsOrderedText}
use Rattle.gt_explore_ordered.specs.declared.ordered.OrderedFound.{OrderedFound}
use Rattle.gt_explore_ordered.specs.declared.ordered.OrderedText.{OrderedText}
use Rattle.gt_explore_replay.specs.Orders.{Happening, IsOrderOf}
use Rattle.gt_explore_verdict.specs.Judging.{judged, shows, verdict_at}
use Rattle.gt_explore_verdict.specs.declared.judging.Claim.{Claim}
use Rattle.gt_explore_verdict.specs.declared.judging.Claim.TheVariants.{Find, Never, Always}
use Rattle.gt_precedence.proofs.Orders.{all-at}
use Rattle.gt_precedence.specs.Precedence.{Precedes}
use Rattle.gt_script.specs.RunContents.{RunContents}
use Rattle.gt_script.specs.declared.precedence.Precedence.{Precedence}
use Rattle.gt_explore_precedence.specs.Judging.{InEachOrder, InSomeOrder, JudgesOrders, OrderVerdictMeans}
use Rattle.gt_explore_precedence.specs.declared.judging.JudgedOrders.{JudgedOrders}

none-step : (b : Bool) (i : ℕ) (rest : Option ℕ) → cond b (Some i) rest ≡ None → (b ≡ false) × (rest ≡ None)
none-step true i rest is = absurd (none-some i (sym is))
none-step false i rest is = (refl, is)

some-step : (b : Bool) (i : ℕ) (rest : Option ℕ) (k : ℕ) → cond b (Some i) rest ≡ Some k → (b ≡ true) ⊎ (rest ≡ Some k)
some-step true i rest k is = inl refl
some-step false i rest k is = inr is

module _ {X : Type 0} (p : Bool → Bool) (s : X → Bool) where
  -- none passes the test if the search for one ends without one
  none-passes : (ts : List X) (i at : ℕ) (t : X) → position_from p i (map s ts) ≡ None → slice_get ts at ≡ Some t → p (s t) ≡ false
  none-passes [] i at t is there = absurd (none-some t there)
  none-passes (u ∷ ts) i zero t is there = ap (λ (v : X). p (s v)) (sym (same_Some u t there)) ∙ (none-step (p (s u)) i (position_from p (i + 1) (map s ts)) is).0
  none-passes (u ∷ ts) i (suc at) t is there = none-passes ts (i + 1) at t (none-step (p (s u)) i (position_from p (i + 1) (map s ts)) is).1 there

  abbrev Passes : List X → Type 0
  Passes ts = (at : ℕ) × (t : X) × (slice_get ts at ≡ Some t) × (p (s t) ≡ true)

  -- the one that the search for it ends with does
  one-passes : (ts : List X) (i k : ℕ) → position_from p i (map s ts) ≡ Some k → Passes ts
  one-passes [] i k is = absurd (none-some k is)
  one-passes (u ∷ ts) i k is = by (one-passes ts (i + 1) k) (some-step (p (s u)) i (position_from p (i + 1) (map s ts)) k is)
    where
      by : (position_from p (i + 1) (map s ts) ≡ Some k → Passes ts) → (p (s u) ≡ true) ⊎ (position_from p (i + 1) (map s ts) ≡ Some k) → Passes (u ∷ ts)
      by rest (inl here) = (0, u, refl, here)
      by rest (inr later) = let q = rest later in (suc q.0, q.1, q.2, q.3)

not-true : (b : Bool) → not b ≡ true → b ≡ false
not-true true is = sym is
not-true false is = refl

not-false : (b : Bool) → not b ≡ false → b ≡ true
not-false true is = refl
not-false false is = sym is

-- the precedences of an order are determined by it

same-truth : (a b : Bool) → (a ≡ true → b ≡ true) → (b ≡ true → a ≡ true) → a ≡ b
same-truth true b there back = sym (there refl)
same-truth false true there back = back refl
same-truth false false there back = refl

same-held : (c : RunContents) (hs : List Happening) (pairs : List Precedence) (one other : List Bool) → HoldsExactly c hs pairs one → HoldsExactly c hs pairs other → one ≡ other
same-held c hs [] [] [] a b = refl
same-held c hs (p ∷ pairs) (x ∷ xs) (y ∷ ys) a b =
    ap (λ (z : Bool). z ∷ xs) (same-truth x y (λ e. b.0.1 (a.0.0 e)) (λ e. a.0.1 (b.0.0 e))) ∙ ap (λ (l : List Bool). y ∷ l) (same-held c hs pairs xs ys a.1 b.1)
same-held c hs [] (x ∷ xs) other a b = absurd a
same-held c hs [] [] (y ∷ ys) a b = absurd b
same-held c hs (p ∷ pairs) [] other a b = absurd a
same-held c hs (p ∷ pairs) (x ∷ xs) [] a b = absurd b

module _ (c : RunContents) (pairs : List Precedence) (passes : List Bool → List ℕ → Bool) (texts : List OrderedText) (whole : Bool) where
  abbrev test : OrderedText → Bool
  test t = passes t.held.items t.text.items

  shown : (claim : Claim) → All (IsOrderedText c pairs) texts → Passes (shows claim) test texts → OrderVerdictMeans c pairs claim passes (verdict_at claim true whole)
  shown Find all p = let (hs, order, holds) = all-at (IsOrderedText c pairs) texts p.0 p.1 (recursion_from_All (IsOrderedText c pairs) texts all) p.2 in (hs, p.1.text.items, p.1.held.items, order, holds, p.3)
  shown Never all p = let (hs, order, holds) = all-at (IsOrderedText c pairs) texts p.0 p.1 (recursion_from_All (IsOrderedText c pairs) texts all) p.2 in (hs, p.1.text.items, p.1.held.items, order, holds, p.3)
  shown Always all p = let (hs, order, holds) = all-at (IsOrderedText c pairs) texts p.0 p.1 (recursion_from_All (IsOrderedText c pairs) texts all) p.2 in
      (hs, p.1.text.items, p.1.held.items, order, holds, not-true (test p.1) p.3)

-- if all orders are known, and none shows the verdict
module _ (c : RunContents) (pairs : List Precedence) (passes : List Bool → List ℕ → Bool) (texts : List OrderedText) where
  abbrev Every : Bool → Type 0
  Every whole = whole ≡ true → (hs : List Happening) (text : List ℕ) → IsOrderOf c hs text → HasOrder c pairs texts hs text

  at-order : Every true → (p : Bool → Bool) (b : Bool) → ((x : Bool) → p x ≡ false → x ≡ b) → ((at : ℕ) (t : OrderedText) → slice_get texts at ≡ Some t → p (passes t.held.items t.text.items) ≡ false) → InEachOrder c pairs passes b
  at-order every p b turns none hs text held order holds =
      let (at, t, there, same, exactly) = every refl hs text order in
      let mine : passes t.held.items t.text.items ≡ b = turns (passes t.held.items t.text.items) (none at t there) in
      ap (λ (h : List Bool). passes h text) (same-held c hs pairs held t.held.items holds exactly) ∙ ap (passes t.held.items) (sym same) ∙ mine

  not-shown : (claim : Claim) (whole : Bool) → Every whole → ((at : ℕ) (t : OrderedText) → slice_get texts at ≡ Some t → shows claim (passes t.held.items t.text.items) ≡ false)
      → OrderVerdictMeans c pairs claim passes (verdict_at claim false whole)
  not-shown Find true every none = at-order every (λ x. x) false (λ x e. e) none
  not-shown Never true every none = at-order every (λ x. x) false (λ x e. e) none
  not-shown Always true every none = at-order every not true not-false none
  not-shown Find false every none = tt
  not-shown Never false every none = tt
  not-shown Always false every none = tt

-- the verdict on texts with the precedences of their orders means what it says
pub judged-means : (c : RunContents) (pairs : List Precedence) (claim : Claim) (passes : List Bool → List ℕ → Bool) (found : OrderedFound) → HasEachOrdered c pairs found
    → OrderVerdictMeans c pairs claim passes (judged claim (map (λ (t : OrderedText). passes t.held.items t.text.items) found.texts.items) found.whole).verdict
judged-means c pairs claim passes found each =
    by (position (shows claim) (map (λ (t : OrderedText). passes t.held.items t.text.items) found.texts.items))
    (sym (position_from-zero (shows claim) (map (λ (t : OrderedText). passes t.held.items t.text.items) found.texts.items)))
  where
    by : (o : Option ℕ) → position_from (shows claim) 0 (map (λ (t : OrderedText). passes t.held.items t.text.items) found.texts.items) ≡ o → OrderVerdictMeans c pairs claim passes (verdict_at claim (is_some o) found.whole)
    by None is = not-shown c pairs passes found.texts.items claim found.whole each.whole (λ at t. none-passes (shows claim) (λ (t : OrderedText). passes t.held.items t.text.items) found.texts.items 0 at t is)
    by (Some k) is = shown c pairs passes found.texts.items found.whole claim each.possible (one-passes (shows claim) (λ (t : OrderedText). passes t.held.items t.text.items) found.texts.items 0 k is)
