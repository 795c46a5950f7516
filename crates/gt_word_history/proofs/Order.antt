-- The one order of all steps goes on with each step, stays when a seat is dealt, and is empty at the start.
use Rattle.std.proofs.Common.{◌≡◌, ◌≢◌, ◌⊎◌, inl, inr, ⊎_elim, ℕ, zero, suc, ◌+◌, ◌*◌, ◌<◌, Bool, true, false, ◌&&◌}
use Rattle.std.proofs.Common.{cond, ◌==◌, List, [], ◌∷◌, ◌++◌, length, get_or, set, sym, refl, ap, ◌∙◌, subst, arith}
use Rattle.std.proofs.Common.{length-set, length-append, get_or-set_other, get_or-set_same, eq-eqb, ne_eqb}
use mathlib.Core.Option.{some, some-injective, some-ne-none}
use mathlib.Core.Logic.{dite}
use native.Mathlib.Decide.{ℕ_discrete}
use lib.ListN.{get_elem?}
use Rattle.atomic_table.specs.Table.{State, keeps, opening, stepped}
use Rattle.atomic_table.proofs.Lists.{at_set}
use Rattle.gt_word_history.specs.History.{HasLedTo, StepHistory, IsOwners, Layout, PinsLast, RecordsWord, initial, left_by}
use Rattle.gt_word_history.specs.History.{part_of}
use Rattle.gt_word_history.specs.History.{word_place_of, up_to, word_after}
use Rattle.gt_word_history.specs.Places.{dealer_after, dealt_to, new_view}
use Rattle.gt_word_history.specs.Views.{with_step}
use Rattle.gt_word_history.specs.declared.view.SeatStep.{SeatStep}
use Rattle.gt_word_history.specs.declared.view.View.{View}
use Rattle.gt_word_history.specs.declared.rule.TheConstants.{DOMAIN_WORDS}

-- two entries that are not the same
pub apart_test : (t r t' r' : ℕ) → (t ≡ t' → r ≡ r' → ⊥) → ((t == t') && (r == r')) ≡ false
apart_test t r t' r' n = dite (ℕ_discrete t t') (λ e. let f : r ≢ r' = n e in λ i. eq-eqb t t' e i && ne_eqb r r' f i) (λ e. λ i. ne_eqb t t' e i && (r == r'))

pub part_here : (i : ℕ) (x : SeatStep) (h : StepHistory) → part_of i ((i, x) ∷ h) ≡ x ∷ part_of i h
part_here i x h = ap (λ (b : Bool). cond b (x ∷ part_of i h) (part_of i h)) (eq-eqb i i refl)

pub part_else : (i : ℕ) (x : SeatStep) (h : StepHistory) (j : ℕ) → i ≢ j → part_of j ((i, x) ∷ h) ≡ part_of j h
part_else i x h j n = ap (λ (b : Bool). cond b (x ∷ part_of j h) (part_of j h)) (ne_eqb i j n)

pub up_here : (i : ℕ) (x : SeatStep) (h : StepHistory) → up_to i ((i, x) ∷ h) ≡ (i, x) ∷ h
up_here i x h = ap (λ (b : Bool). cond b ((i, x) ∷ h) (up_to i h)) (eq-eqb i i refl)

pub up_else : (i : ℕ) (x : SeatStep) (h : StepHistory) (j : ℕ) → i ≢ j → up_to j ((i, x) ∷ h) ≡ up_to j h
up_else i x h j n = ap (λ (b : Bool). cond b ((i, x) ∷ h) (up_to j h)) (ne_eqb i j n)

word_here : (k : Layout) (i : ℕ) (x : SeatStep) (h : StepHistory) (p : ℕ) → word_place_of x ≡ p → word_after k ((i, x) ∷ h) p ≡ left_by x (word_after k h p)
word_here k i x h p e = ap (λ (b : Bool). cond b (left_by x (word_after k h p)) (word_after k h p)) (eq-eqb (word_place_of x) p e)

word_else : (k : Layout) (i : ℕ) (x : SeatStep) (h : StepHistory) (p : ℕ) → word_place_of x ≢ p → word_after k ((i, x) ∷ h) p ≡ word_after k h p
word_else k i x h p n = ap (λ (b : Bool). cond b (left_by x (word_after k h p)) (word_after k h p)) (ne_eqb (word_place_of x) p n)

pub within : {A : Type 0} (l : List A) (i : ℕ) (a : A) → get_elem? l i ≡ some a → i < length l
within [] i a e = absurd (some-ne-none a (sym e))
within (x ∷ xs) zero a e = omega arith
within (x ∷ xs) (suc i) a e = let l = within xs i a e in omega arith

-- one step more
pub leads_on : {S : Type 0} (k : Layout) (s : State S View) (id : ℕ) (v : View) (h : StepHistory) (x : SeatStep) (word y : ℕ) → get_elem? s.views id ≡ some v → HasLedTo k h s → v.position ≡ id → length s.words ≡ k.domains * DOMAIN_WORDS → word < k.domains * DOMAIN_WORDS
    → word_place_of x ≡ word → y ≡ left_by x (get_or s.words word 0) → RecordsWord x (get_or s.words word 0) → IsOwners id x → PinsLast k h x → HasLedTo k ((id, x) ∷ h) (stepped s word y id [] (with_step h x v) keeps)
leads_on k s id v h x word y at led own wide inside place is says may last = let w : View = with_step h x v in record {
  parts = λ j u e. ⊎_elim (λ (q : (j ≡ id) × (w ≡ u)). let p = led.parts id v at in
      subst (λ (i : ℕ). (u.steps ≡ part_of i ((id, x) ∷ h)) × (u.past ≡ up_to i ((id, x) ∷ h))) (sym q.0)
      (ap (λ (z : View). z.steps) (sym q.1) ∙ (ap (λ (l : List SeatStep). x ∷ l) p.0 ∙ sym (part_here id x h)), ap (λ (z : View). z.past) (sym q.1) ∙ (ap (λ (i : ℕ). cons i) own ∙ sym (up_here id x h))))
      (λ (q : (j ≢ id) × (get_elem? s.views j ≡ some u)). let p = led.parts j u q.1 in let n : id ≢ j = λ f. q.0 (sym f) in (p.0 ∙ sym (part_else id x h j n), p.1 ∙ sym (up_else id x h j n)))
      (at_set s.views id j w u e);
  no_other = λ j l. let z = length-set s.views id w in let i = within s.views id v at in part_else id x h j (λ f. omega arith) ∙ led.no_other j (omega arith);
  words = λ i l. dite (ℕ_discrete word i)
      (λ e. subst (λ (p : ℕ). get_or (set s.words word y) p 0 ≡ word_after k ((id, x) ∷ h) p) e
      (get_or-set_same s.words word y 0 (omega arith) ∙ (is ∙ (ap (left_by x) (led.words word inside) ∙ sym (word_here k id x h word place)))))
      (λ n. get_or-set_other s.words word i y 0 (λ f. n (sym f)) ∙ (led.words i l ∙ sym (word_else k id x h i (λ f. n (sym place ∙ f)))));
  true_steps = (subst (RecordsWord x) (led.words word inside ∙ ap (word_after k h) (sym place)) says, may, last, led.true_steps);
}
  where
    cons : ℕ → StepHistory
    cons i = (i, x) ∷ h

-- at the start
pub leads_from : {S : Type 0} (k : Layout) (ws : List ℕ) → ((i : ℕ) → i < k.domains * DOMAIN_WORDS → get_or ws i 0 ≡ initial k i) → HasLedTo {S = S} k [] (opening ws [] (new_view k.first k.headers k.ids 0))
leads_from k ws is = record { parts = one; no_other = λ j l. refl; words = is; true_steps = tt }
  where
    one : (j : ℕ) (v : View) → get_elem? (new_view k.first k.headers k.ids 0 ∷ []) j ≡ some v → (v.steps ≡ []) × (v.past ≡ [])
    one zero v e = (ap (λ (z : View). z.steps) (sym (some-injective _ v e)), ap (λ (z : View). z.past) (sym (some-injective _ v e)))
    one (suc j) v e = absurd (some-ne-none v (sym e))

pub nothing_yet : (j : ℕ) (h : StepHistory) → part_of j h ≡ [] → up_to j h ≡ []
nothing_yet j [] e = refl
nothing_yet j (p ∷ h) e = by (λ f. nothing_yet j h f) (p.0 == j) e
  where
    by : (part_of j h ≡ [] → up_to j h ≡ []) → (b : Bool) → cond b (p.1 ∷ part_of j h) (part_of j h) ≡ [] → cond b (p ∷ h) (up_to j h) ≡ []
    by rest true f = cc
    by rest false f = rest f

pub new_index : {A : Type 0} (l : List A) (a b : A) (j : ℕ) → get_elem? (l ++ a ∷ []) j ≡ some b → (get_elem? l j ≡ some b) ⊎ ((a ≡ b) × (j ≡ length l))
new_index [] a b zero e = inr (some-injective a b e, refl)
new_index [] a b (suc j) e = absurd (some-ne-none b (sym e))
new_index (x ∷ xs) a b zero e = inl e
new_index (x ∷ xs) a b (suc j) e = ⊎_elim (λ (f : get_elem? xs j ≡ some b). inl f) (λ (f : (a ≡ b) × (j ≡ length xs)). inr (f.0, ap suc f.1)) (new_index xs a b j e)

-- a seat is dealt
pub leads_to_more : {S : Type 0} (k : Layout) (s : State S View) (id : ℕ) (v : View) (h : StepHistory) → get_elem? s.views id ≡ some v → HasLedTo k h s
    → HasLedTo k h (record { words = s.words; homes = s.homes; views = set s.views id (dealer_after v) ++ dealt_to v ∷ [] })
leads_to_more k s id v h at led = let u : View = dealer_after v in let vs : List View = set s.views id u in let len : length vs ≡ length s.views = length-set s.views id u in record {
  parts = λ j w e. ⊎_elim (λ (f : get_elem? vs j ≡ some w). ⊎_elim (λ (q : (j ≡ id) × (u ≡ w)). let p = led.parts id v at in
      subst (λ (i : ℕ). (w.steps ≡ part_of i h) × (w.past ≡ up_to i h)) (sym q.0) (ap (λ (z : View). z.steps) (sym q.1) ∙ p.0, ap (λ (z : View). z.past) (sym q.1) ∙ p.1))
      (λ (q : (j ≢ id) × (get_elem? s.views j ≡ some w)). led.parts j w q.1) (at_set s.views id j u w f))
      (λ (f : (dealt_to v ≡ w) × (j ≡ length vs)). let z = led.no_other j (omega arith) in (ap (λ (y : View). y.steps) (sym f.0) ∙ sym z, ap (λ (y : View). y.past) (sym f.0) ∙ sym (nothing_yet j h z))) (new_index vs (dealt_to v) w j e);
  no_other = λ j l. let long : length (vs ++ dealt_to v ∷ []) ≡ length vs + 1 = length-append vs (dealt_to v ∷ []) in led.no_other j (omega arith);
  words = led.words;
  true_steps = led.true_steps;
}
