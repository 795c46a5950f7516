-- A step on one entry keeps the rule of the table, where it keeps the rule of that entry.
use Rattle.gt_word_history.specs.declared.rule.TheConstants.{DOMAIN_WORDS}
use Rattle.std.proofs.Common.{◌≡◌, ◌≢◌, ⊎_elim, ℕ, zero, suc, ◌+◌, ◌*◌, ◌<◌, ◌≤◌, Bool, true, cond, ◌==◌, ◌&&◌}
use Rattle.std.proofs.Common.{List, [], ◌∷◌, map, get_or, set, length, sym, refl, ap, ◌∙◌, subst, arith, length-set}
use Rattle.std.proofs.Common.{get_or-set_other, eq-eqb}
use mathlib.Core.Option.{Option as Maybe, none, some, some-ne-none}
use mathlib.Core.Logic.{dite}
use native.Mathlib.Decide.{ℕ_discrete}
use lib.ListN.{get_elem?}
use lib.Seq.{map-set}
use Rattle.atomic_table.specs.Table.{State, stepped, keeps}
use Rattle.atomic_table.proofs.Lists.{at_set, set_again, at_map}
use Rattle.gt_words.proofs.Lists.{whose_at}
use Rattle.gt_word_history.proofs.Moments.{beyond}
use Rattle.gt_word_history.proofs.Order.{apart_test, leads_on}
use Rattle.gt_word_history.specs.History.{HasLedTo, StepHistory, IsByOwner, IsOfRecord, RecordsFound, left_on_entry}
use Rattle.gt_word_history.specs.History.{owner_steps}
use Rattle.gt_word_history.specs.History.{part_of, parts_on, word_on}
use Rattle.gt_word_history.specs.Rule.{IsHeader, Layout, Shows, ShowsEntry, header_now, header_place, place}
use Rattle.gt_word_history.specs.Steps.{on_entry}
use Rattle.gt_word_history.specs.Views.{entry_steps, last_record, steps_on, steps_on_header, with_step}
use Rattle.gt_word_history.specs.declared.view.EntryStep.{EntryStep}
use Rattle.gt_word_history.specs.declared.view.SeatStep.{SeatStep}
use Rattle.gt_word_history.specs.declared.view.View.{View}
use Rattle.gt_types.specs.declared.limits.TheConstants.{TABLE_ENTRIES}

-- the view after one more step on an entry
abbrev pub added : StepHistory → ℕ → ℕ → EntryStep → View → View
added past t r m v = with_step past (on_entry t r m) v

pub apart : (t r j t' r' j' : ℕ) → r < TABLE_ENTRIES → r' < TABLE_ENTRIES → j < 3 → j' < 3 → place t r j ≡ place t' r' j' → (t ≡ t') × (r ≡ r')
apart t r j t' r' j' a b c d e = (omega arith, omega arith)

pub inside : (n t r j : ℕ) → t < n → r < TABLE_ENTRIES → j < 3 → place t r j < n * DOMAIN_WORDS
inside n t r j a b c = omega arith

pub steps_on-added : (past : StepHistory) (t r : ℕ) (m : EntryStep) (v : View) → steps_on t r (added past t r m v) ≡ m ∷ steps_on t r v
steps_on-added past t r m v = let b : ((t == t) && (r == r)) ≡ true = λ i. eq-eqb t t refl i && eq-eqb r r refl i in ap (λ (z : Bool). cond z (m ∷ steps_on t r v) (steps_on t r v)) b

pub steps_on-added-else : (past : StepHistory) (t r : ℕ) (m : EntryStep) (v : View) (t' r' : ℕ) → (t ≡ t' → r ≡ r' → ⊥) → steps_on t' r' (added past t r m v) ≡ steps_on t' r' v
steps_on-added-else past t r m v t' r' n = ap (λ (z : Bool). cond z (m ∷ steps_on t' r' v) (steps_on t' r' v)) (apart_test t r t' r' n)

module _ {S : Type 0} (past : StepHistory) (s : State S View) (id : ℕ) (v : View) (t r : ℕ) (m : EntryStep) (at : get_elem? s.views id ≡ some v) where
  pub map_here : map (steps_on t r) (set s.views id (added past t r m v)) ≡ set (map (steps_on t r) s.views) id (m ∷ steps_on t r v)
  map_here = map-set (steps_on t r) s.views id (added past t r m v) ∙ ap (set (map (steps_on t r) s.views) id) (steps_on-added past t r m v)

  pub map_else : (t' r' : ℕ) → (t ≡ t' → r ≡ r' → ⊥) → map (steps_on t' r') (set s.views id (added past t r m v)) ≡ map (steps_on t' r') s.views
  map_else t' r' n = map-set (steps_on t' r') s.views id (added past t r m v) ∙ (ap (set (map (steps_on t' r') s.views) id) (steps_on-added-else past t r m v t' r' n)
      ∙ set_again (map (steps_on t' r') s.views) id (steps_on t' r' v) (at_map (steps_on t' r') s.views id v at))

pub parts_at : (t r : ℕ) (h : StepHistory) (q n j i : ℕ) → i ≡ q + j → q < n → get_elem? (parts_on t r h j n) q ≡ some (entry_steps t r (part_of i h))
parts_at t r h q zero j i e l = absurd (omega arith)
parts_at t r h zero (suc n) j i e l = ap (λ (z : ℕ). some (entry_steps t r (part_of z h))) (let f : j ≡ i = omega arith in f)
parts_at t r h (suc q) (suc n) j i e l = parts_at t r h q n (suc j) i (omega arith) (omega arith)

-- what each seat has of an entry is its part of the history
module _ {S : Type 0} (k : Layout) (h : StepHistory) (s : State S View) (led : HasLedTo k h s) (t r i : ℕ) where
  none_there : {A B : Type 0} (f : A → List B) (l : List A) (j : ℕ) → get_elem? l j ≡ none → get_or (map f l) j [] ≡ []
  none_there f [] zero e = refl
  none_there f [] (suc j) e = refl
  none_there f (x ∷ xs) zero e = absurd (some-ne-none x e)
  none_there f (x ∷ xs) (suc j) e = none_there f xs j e

  pub part_there_is : get_or (map (steps_on t r) s.views) i [] ≡ entry_steps t r (part_of i h)
  part_there_is = go (get_elem? s.views i) refl
    where
      go : (o : Maybe View) → get_elem? s.views i ≡ o → get_or (map (steps_on t r) s.views) i [] ≡ entry_steps t r (part_of i h)
      go none e = none_there (steps_on t r) s.views i e ∙ sym (ap (entry_steps t r) (led.no_other i (beyond s.views i e)))
      go (some v) e = whose_at (map (steps_on t r) s.views) i (steps_on t r v) (at_map (steps_on t r) s.views i v e) ∙ ap (entry_steps t r) (led.parts i v e).0

  pub owner_made : i < k.domains → owner_steps i (parts_on t r h 0 k.domains) ≡ owner_steps i (map (steps_on t r) s.views)
  owner_made inside = whose_at (parts_on t r h 0 k.domains) i (entry_steps t r (part_of i h)) (parts_at t r h i k.domains 0 i (omega arith) inside) ∙ sym part_there_is

-- a seat that takes a step is still dealt by the first one, and stands where it stood
module _ {S : Type 0} (past : StepHistory) (k : Layout) (s : State S View) (id : ℕ) (v : View) (m : SeatStep) (shown : Shows k s) (at : get_elem? s.views id ≡ some v) where
  pub still_dealt : ((u : View) → get_elem? (set s.views id (with_step past m v)) 0 ≡ some u → u.dealt ≡ length (set s.views id (with_step past m v)))
      × (length (set s.views id (with_step past m v)) ≤ k.domains) × (0 < length (set s.views id (with_step past m v)))
  still_dealt = let w : View = with_step past m v in (
    (λ u e. ⊎_elim (λ (q : (0 ≡ id) × (w ≡ u)). ap (λ (z : View). z.dealt) (sym q.1) ∙ (shown.now.dealt.0 v (subst (λ (z : ℕ). get_elem? s.views z ≡ some v) (sym q.0) at) ∙ sym (length-set s.views id w)))
        (λ (q : (0 ≢ id) × (get_elem? s.views 0 ≡ some u)). shown.now.dealt.0 u q.1 ∙ sym (length-set s.views id w)) (at_set s.views id 0 w u e)),
    (let z = length-set s.views id w in let a = shown.now.dealt.1 in omega arith),
    (let z = length-set s.views id w in let a = shown.now.dealt.2 in omega arith),
  )

  pub still_seated : (i : ℕ) (u : View) → get_elem? (set s.views id (with_step past m v)) i ≡ some u → (u.position ≡ i) × (u.first ≡ k.first) × (u.headers ≡ k.headers)
  still_seated i u e = let w : View = with_step past m v in ⊎_elim (λ (q : (i ≡ id) × (w ≡ u)). let z = shown.now.seats id v at in (ap (λ (x : View). x.position) (sym q.1) ∙ (z.0 ∙ sym q.0), ap (λ (x : View). x.first) (sym q.1) ∙ z.1, ap (λ (x : View). x.headers) (sym q.1) ∙ z.2))
      (λ (q : (i ≢ id) × (get_elem? s.views i ≡ some u)). shown.now.seats i u q.1) (at_set s.views id i w u e)

module _ {S : Type 0} (k : Layout) (s : State S View) (id : ℕ) (v : View) (t r : ℕ) (m : EntryStep) (shown : Shows k s) (at : get_elem? s.views id ≡ some v) where
  abbrev past : StepHistory
  past = shown.history

  -- the words of another entry stay
  stays : (j y t' r' j' : ℕ) → r < TABLE_ENTRIES → r' < TABLE_ENTRIES → j < 3 → j' < 3 → (t ≡ t' → r ≡ r' → ⊥) → get_or (set s.words (place t r j) y) (place t' r' j') 0 ≡ get_or s.words (place t' r' j') 0
  stays j y t' r' j' a b c d n = get_or-set_other s.words (place t r j) (place t' r' j') y 0 (λ e. let p = apart t r j t' r' j' a b c d (sym e) in n p.0 p.1)

  pub shows_step : (j y : ℕ) → t < k.domains → r < TABLE_ENTRIES → j < 3 → v.position ≡ id → word_on m ≡ j → y ≡ left_on_entry m (get_or s.words (place t r j) 0) → RecordsFound m (get_or s.words (place t r j) 0) → IsByOwner id t m → IsOfRecord (last_record k.first (owner_steps t (map (steps_on t r) s.views))) m
      → (let ws : List ℕ = set s.words (place t r j) y in ShowsEntry k.first t (get_or ws (place t r 0) 0) (get_or ws (place t r 1) 0) (get_or ws (place t r 2) 0) (set (map (steps_on t r) s.views) id (m ∷ steps_on t r v)))
      → Shows k (stepped s (place t r j) y id [] (added past t r m v) keeps)
  shows_step j y tn rn jn own on is says may last entries = let w : View = added past t r m v in let ws : List ℕ = set s.words (place t r j) y in record {
    history = (id, on_entry t r m) ∷ past;
    stood = ((s, shown.now), shown.stood);
    now = record {
      wide = length-set s.words (place t r j) y ∙ shown.now.wide;
      dealt = still_dealt past k s id v (on_entry t r m) shown at;
      seats = still_seated past k s id v (on_entry t r m) shown at;
      entries = λ t' r' tn' rn'. dite (ℕ_discrete t t')
          (λ e. dite (ℕ_discrete r r') (λ f. subst (λ (z : ℕ × ℕ). ShowsEntry k.first z.0 (get_or ws (place z.0 z.1 0) 0) (get_or ws (place z.0 z.1 1) 0) (get_or ws (place z.0 z.1 2) 0) (map (steps_on z.0 z.1) (set s.views id w))) (λ i. (e i, f i))
          (subst (ShowsEntry k.first t (get_or ws (place t r 0) 0) (get_or ws (place t r 1) 0) (get_or ws (place t r 2) 0)) (sym (map_here past s id v t r m at)) entries))
          (λ f. other t' r' tn' rn' (λ _ g. f g)))
          (λ e. other t' r' tn' rn' (λ g _. e g));
      headers = λ t' tn'. let h = shown.now.headers t' tn' in
          let p : get_or (set s.words (place t r j) y) (header_place t') 0 ≡ get_or s.words (header_place t') 0 = get_or-set_other s.words (place t r j) (header_place t') y 0 (λ e. omega arith) in
          let q : map (steps_on_header t') (set s.views id (added past t r m v)) ≡ map (steps_on_header t') s.views = map-set (steps_on_header t') s.views id (added past t r m v) ∙ set_again (map (steps_on_header t') s.views) id (steps_on_header t' v) (at_map (steps_on_header t') s.views id v at) in
          (p ∙ (h.0 ∙ ap (header_now k t') (sym q)), subst IsHeader (sym p) h.1);
      led_here = leads_on k s id v past (on_entry t r m) (place t r j) y at shown.now.led_here own shown.now.wide (inside k.domains t r j tn rn jn) (ap (place t r) on) is says may (subst (λ (l : List EntryStep). IsOfRecord (last_record k.first l) m) (sym (owner_made k past s shown.now.led_here t r t tn)) last);
    };
  }
    where
      other : (t' r' : ℕ) → t' < k.domains → r' < TABLE_ENTRIES → (t ≡ t' → r ≡ r' → ⊥) → let u : List ℕ = set s.words (place t r j) y in
          ShowsEntry k.first t' (get_or u (place t' r' 0) 0) (get_or u (place t' r' 1) 0) (get_or u (place t' r' 2) 0) (map (steps_on t' r') (set s.views id (added past t r m v)))
      other t' r' tn' rn' n = let p0 = stays j y t' r' 0 rn rn' jn (omega arith) n in let p1 = stays j y t' r' 1 rn rn' jn (omega arith) n in let p2 = stays j y t' r' 2 rn rn' jn (omega arith) n in
          let h = map_else past s id v t r m at t' r' n in let f = shown.now.entries t' r' tn' rn' in
          subst (λ (z : ℕ × ℕ × ℕ × List (List EntryStep)). ShowsEntry k.first t' z.0 z.1 z.2 z.3) (λ i. (sym p0 i, sym p1 i, sym p2 i, sym h i)) f
