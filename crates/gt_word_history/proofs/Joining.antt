-- Seats that one of them takes in.
use Rattle.std.proofs.Common.{◌≡◌, ◌≢◌, ℕ, zero, suc, ◌<◌, Bool, true, false, List, [], ◌∷◌, ◌++◌, set, length, sym}
use Rattle.std.proofs.Common.{refl, ap, ◌∙◌, subst, arith}
use mathlib.Core.Option.{Option, some, some-injective, some-ne-none}
use lib.ListN.{get_elem?}
use lib.Seq.{map-set}
use Rattle.std.specs.Prelude.{slice_index}
use Rattle.atomic_table.specs.Table.{State, Me, Act, Allows, Joins, Splits, Step as TableStep, keeps, opening, stepped}
use Rattle.atomic_table.specs.Table.{homes_after}
use Rattle.atomic_table.proofs.Lists.{at_map, set_again, set_else, set_here}
use Rattle.gt_word_history.specs.Joining.{AreIn, AreTaken, HoldersLearn, TableHolds, IsGoneAt, Learns, SeatsJoin, StepsLift}
use Rattle.gt_word_history.specs.Joining.{learns_all, outlook_of, promises_own, promises_own_stored, owns, put, taken_by, took}
use Rattle.gt_word_history.specs.Joining.{whole, whole_views}
use Rattle.gt_word_history.specs.Rule.{Layout, Shows}
use Rattle.gt_word_history.specs.Places.{dealer_after, dealing, dealt_outlook, dealt_to}
use Rattle.gt_word_history.specs.Steps.{StepKind, promises_step, promises_stored}
use Rattle.gt_word_history.proofs.Opens.{deals}
use Rattle.gt_word_history.specs.declared.view.Outlook.{Outlook}
use Rattle.gt_word_history.specs.declared.view.View.{View}

not_both : (b : Bool) → b ≡ true → b ≡ false → ⊥
not_both b t f = cc

abbrev own_of : Outlook → View
own_of x = x.own

inside : {A : Type 0} (xs : List A) (i : ℕ) (v : A) → get_elem? xs i ≡ some v → i < length xs
inside [] i v e = absurd (some-ne-none v (sym e))
inside (x ∷ xs) zero v e = omega arith
inside (x ∷ xs) (suc i) v e = let r = inside xs i v e in omega arith

set_comm : {A : Type 0} (xs : List A) (i j : ℕ) (a b : A) → i ≢ j → set (set xs i a) j b ≡ set (set xs j b) i a
set_comm [] i j a b n = refl
set_comm (x ∷ xs) zero zero a b n = absurd (n refl)
set_comm (x ∷ xs) zero (suc j) a b n = refl
set_comm (x ∷ xs) (suc i) zero a b n = refl
set_comm (x ∷ xs) (suc i) (suc j) a b n = ap (λ ys. x ∷ ys) (set_comm xs i j a b (λ e. n (ap suc e)))

set_twice : {A : Type 0} (xs : List A) (i : ℕ) (a b : A) → set (set xs i a) i b ≡ set xs i b
set_twice [] i a b = refl
set_twice (x ∷ xs) zero a b = refl
set_twice (x ∷ xs) (suc i) a b = ap (λ ys. x ∷ ys) (set_twice xs i a b)

-- a seat that is gone is not one that is there
apart : (xs : List Outlook) (i j : ℕ) (x : Outlook) → get_elem? xs i ≡ some x → x.gone ≡ false → IsGoneAt xs j → j ≢ i
apart xs i j x at here g e = let same : some g.0 ≡ some x = sym g.1 ∙ (ap (get_elem? xs) e ∙ at) in
    not_both g.0.gone g.2 (ap (λ (u : Outlook). u.gone) (some-injective g.0 x same) ∙ here)

-- none of these stands at this position
abbrev NoneAt : ℕ → List View → Type 0
NoneAt i [] = Unit {0}
NoneAt i (t ∷ ts) = (t.position ≢ i) × NoneAt i ts

none_at : (xs : List Outlook) (us : List View) (i : ℕ) (x : Outlook) → get_elem? xs i ≡ some x → x.gone ≡ false → (ts : List View) → AreTaken xs us ts → NoneAt i ts
none_at xs us i x at here [] a = tt
none_at xs us i x at here (t ∷ ts) a = (apart xs i t.position x at here a.0, none_at xs us i x at here ts a.2)

-- a seat that is there has its own view
put_here : (us : List View) (i : ℕ) (v : View) → get_elem? us i ≡ some v → (ts : List View) → NoneAt i ts → get_elem? (put ts us) i ≡ some v
put_here us i v at [] n = at
put_here us i v at (t ∷ ts) n = set_else (put ts us) t.position i t (λ e. n.0 (sym e)) ∙ put_here us i v at ts n.1

put_set : (us : List View) (i : ℕ) (w : View) (ts : List View) → NoneAt i ts → put ts (set us i w) ≡ set (put ts us) i w
put_set us i w [] n = refl
put_set us i w (t ∷ ts) n = ap (λ z. set z t.position t) (put_set us i w ts n.1) ∙ set_comm (put ts us) i t.position w t (λ e. n.0 (sym e))

owns_set : (xs : List Outlook) (i : ℕ) (x : Outlook) → owns (set xs i x) ≡ set (owns xs) i x.own
owns_set xs i x = map-set own_of xs i x

taken_set : (xs : List Outlook) (i : ℕ) (x y : Outlook) → get_elem? xs i ≡ some x → y.taken ≡ x.taken → taken_by (set xs i y) ≡ taken_by xs
taken_set [] i x y at same = refl
taken_set (z ∷ xs) zero x y at same = same ∙ ap (λ (u : Outlook). u.taken) (sym (some-injective z x at))
taken_set (z ∷ xs) (suc i) x y at same = refl

gone_set : (xs : List Outlook) (i j : ℕ) (y : Outlook) → j ≢ i → IsGoneAt xs j → IsGoneAt (set xs i y) j
gone_set xs i j y n g = (g.0, set_else xs i j y n ∙ g.1, g.2)

taken_stay : (xs : List Outlook) (us : List View) (i : ℕ) (y : Outlook) (w : View) (ts : List View) → NoneAt i ts → AreTaken xs us ts → AreTaken (set xs i y) (set us i w) ts
taken_stay xs us i y w [] n a = tt
taken_stay xs us i y w (t ∷ ts) n a = (gone_set xs i t.position y n.0 a.0, set_else us i t.position w n.0 ∙ a.1, taken_stay xs us i y w ts n.1 a.2)

-- steps

module _ (k : Layout) (s : State (Unit {0}) Outlook) (holds : TableHolds k s) (i : ℕ) (x : Outlook) (at : get_elem? s.views i ≡ some x) (here : x.gone ≡ false) where
  abbrev pub ts : List View
  ts = taken_by s.views

  pub nobody : NoneAt i ts
  nobody = none_at s.views (whole_views s.views) i x at here ts holds.taken

  pub there : get_elem? (whole_views s.views) i ≡ some x.own
  there = put_here (owns s.views) i x.own (at_map own_of s.views i x at) ts nobody

  -- the views after a step of a seat that is there
  pub views_after : (y : Outlook) → y.taken ≡ x.taken → whole_views (set s.views i y) ≡ set (whole_views s.views) i y.own
  views_after y same = (λ j. put (taken_set s.views i x y at same j) (owns_set s.views i y j)) ∙ put_set (owns s.views) i y.own ts nobody

  pub holds_after : (at_word n : ℕ) (c : List (ℕ × (Unit {0}))) (y : Outlook) (a : Act (Unit {0})) → y.taken ≡ x.taken → Shows k (stepped (whole s) at_word n i c y.own a) → TableHolds k (stepped s at_word n i c y a)
  holds_after at_word n c y a same shows = record {
    shown = subst (λ (us : List View). Shows k (record { words = set s.words at_word n; homes = homes_after s.homes c a; views = us })) (sym (views_after y same)) shows;
    taken = subst (λ (q : List View). AreTaken (set s.views i y) (whole_views (set s.views i y)) q) (sym (taken_set s.views i x y at same))
        (subst (λ (us : List View). AreTaken (set s.views i y) us ts) (sym (views_after y same))
        (taken_stay s.views (whole_views s.views) i y y.own ts nobody holds.taken));
  }

lift : (k : Layout) (slots id : ℕ) (me : Me (Unit {0}) Outlook) (at : ℕ) (f : ℕ → ℕ) (says : ℕ → Me (Unit {0}) View → Type 0) → me.0.gone ≡ false
    → Allows (Shows k) slots id (me.0.own, me.1) at f says
    → Allows (TableHolds k) slots id me at f (λ n m. says n (m.0.own, m.1) × (m.0.taken ≡ me.0.taken) × (m.0.gone ≡ false))
lift k slots id me at f says here allows s holds many found bound =
    let r = allows (whole s) holds.shown many (there k s holds id me.0 found here) bound in
    let y : Outlook = record me.0 { own = r.0 } in
    (y, r.1, r.2, holds_after k s holds id me.0 found here at (f (slice_index s.words at)) me.1 y r.1 refl r.3, (r.4, refl, here))

pub steps_lift : StepsLift
steps_lift k slots id me at f d st here allows = lift k slots id me at f (promises_step d st (me.0.own, me.1)) here allows

-- joins

module _ (k : Layout) (words : List ℕ) (homes : List (Option (Unit {0}))) (v w gone : Outlook) (rest : List Outlook) (j : ℕ) (here : v.gone ≡ false) (live : w.gone ≡ false) (lost : gone.gone ≡ true)
    (holds : TableHolds k (record { words = words; homes = homes; views = v ∷ rest })) (at : get_elem? rest j ≡ some w) where
  abbrev before : State (Unit {0}) Outlook
  before = record { words = words; homes = homes; views = v ∷ rest }

  no_first : NoneAt 0 v.taken
  no_first = nobody k before holds 0 v refl here

  no_other : NoneAt (suc j) v.taken
  no_other = nobody k before holds (suc j) w at live

  stands : get_elem? (whole_views (v ∷ rest)) (suc j) ≡ some w.own
  stands = there k before holds (suc j) w at live

  placed : w.own.position ≡ suc j
  placed = (holds.shown.now.seats (suc j) w.own stands).0

  pub same_views : whole_views (took v w ∷ set rest j gone) ≡ whole_views (v ∷ rest)
  same_views = (λ i. set (put v.taken (v.own ∷ owns_set rest j gone i)) (placed i) w.own)
      ∙ (ap (λ z. set z (suc j) w.own) (put_set (v.own ∷ owns rest) (suc j) gone.own v.taken no_other)
      ∙ (set_twice (put v.taken (v.own ∷ owns rest)) (suc j) gone.own w.own
      ∙ set_again (put v.taken (v.own ∷ owns rest)) (suc j) w.own stands))

  pub joined : TableHolds k (record { words = words; homes = homes; views = took v w ∷ set rest j gone })
  joined = record {
    shown = subst (λ (us : List View). Shows k (record { words = words; homes = homes; views = us })) (sym same_views) holds.shown;
    taken = subst (λ (us : List View). AreTaken (took v w ∷ set rest j gone) us (w.own ∷ v.taken)) (sym same_views) (
      (gone, ap (get_elem? (took v w ∷ set rest j gone)) placed ∙ set_here rest j gone (inside rest j w at), lost),
      ap (get_elem? (whole_views (v ∷ rest))) placed ∙ stands,
      still v.taken no_first no_other holds.taken,
    );
  }
    where
      still : (ts : List View) → NoneAt 0 ts → NoneAt (suc j) ts → AreTaken (v ∷ rest) (whole_views (v ∷ rest)) ts → AreTaken (took v w ∷ set rest j gone) (whole_views (v ∷ rest)) ts
      still [] n m a = tt
      still (t ∷ ts) n m a = (gone_set (took v w ∷ rest) (suc j) t.position gone m.0 (gone_set (v ∷ rest) 0 t.position (took v w) n.0 a.0), a.1, still ts n.1 m.1 a.2)

pub seats_join : SeatsJoin
seats_join k other v w gone here live lost s holds at ne found = by s.views s.words s.homes other holds at ne found
  where
    by : (xs : List Outlook) (ws : List ℕ) (hs : List (Option (Unit {0}))) (o : ℕ) → TableHolds k (record { words = ws; homes = hs; views = xs }) → get_elem? xs 0 ≡ some v → (o ≡ 0 → ⊥)
        → get_elem? (set xs 0 (took v w)) o ≡ some w → TableHolds k (record { words = ws; homes = hs; views = set (set xs 0 (took v w)) o gone })
    by [] ws hs o h e n f = absurd (some-ne-none v (sym e))
    by (x ∷ xs) ws hs zero h e n f = absurd (n refl)
    by (x ∷ xs) ws hs (suc o) h e n f = joined k ws hs v w gone xs o here live lost
        (subst (λ (u : Outlook). TableHolds k (record { words = ws; homes = hs; views = u ∷ xs })) (some-injective x v e) h) f

known : (xs : List Outlook) (us : List View) (ts : List View) → AreTaken xs us ts → AreIn us ts
known xs us [] a = tt
known xs us (t ∷ ts) a = (a.1, known xs us ts a.2)

pub holders_learn : HoldersLearn
holders_learn k s v holds at here = (
  whole s,
  holds.shown,
  there k s holds 0 v at here,
  known s.views (whole_views s.views) v.taken (subst (λ (q : List View). AreTaken s.views (whole_views s.views) q) (first s.views at) holds.taken),
)
  where
    first : (xs : List Outlook) → get_elem? xs 0 ≡ some v → taken_by xs ≡ v.taken
    first [] e = absurd (some-ne-none v (sym e))
    first (x ∷ xs) e = ap (λ (u : Outlook). u.taken) (some-injective x v e)

-- the start

pub opens_so : (k : Layout) (ws : List ℕ) (v : View) → Shows {S = Unit {0}} k (opening ws [] v) → TableHolds k (opening ws [] (outlook_of v))
opens_so k ws v shown = record { shown = shown; taken = tt }

pub opens_same : (k : Layout) (ws : List ℕ) (v : View) (shown : Shows {S = Unit {0}} k (opening ws [] v)) → (opens_so k ws v shown).shown.history ≡ shown.history
unfolding opens_so
opens_same k ws v shown = refl

owns_more : (xs : List Outlook) (x : Outlook) → owns (xs ++ x ∷ []) ≡ owns xs ++ x.own ∷ []
owns_more [] x = refl
owns_more (y ∷ xs) x = ap (λ us. y.own ∷ us) (owns_more xs x)

no_taken : (xs : List Outlook) (x : Outlook) → get_elem? xs 0 ≡ some x → x.taken ≡ [] → taken_by xs ≡ []
no_taken [] x at e = refl
no_taken (z ∷ xs) x at e = ap (λ (u : Outlook). u.taken) (some-injective z x at) ∙ e

pub dealt_views : (xs : List Outlook) (x : Outlook) → get_elem? xs 0 ≡ some x → x.taken ≡ []
    → whole_views (set xs 0 (dealing x) ++ dealt_outlook x ∷ []) ≡ set (whole_views xs) 0 (dealer_after x.own) ++ dealt_to x.own ∷ []
dealt_views [] x at e = absurd (some-ne-none x (sym at))
dealt_views (z ∷ xs) x at e = ap (λ (ts : List View). put ts (dealer_after x.own ∷ owns (xs ++ dealt_outlook x ∷ []))) e
    ∙ (ap (λ us. dealer_after x.own ∷ us) (owns_more xs (dealt_outlook x))
    ∙ ap (λ (ts : List View). set (put ts (z.own ∷ owns xs)) 0 (dealer_after x.own) ++ dealt_to x.own ∷ []) (sym (no_taken (z ∷ xs) x at e)))

dealt_taken : (xs : List Outlook) (x : Outlook) → get_elem? xs 0 ≡ some x → x.taken ≡ [] → taken_by (set xs 0 (dealing x) ++ dealt_outlook x ∷ []) ≡ []
dealt_taken [] x at e = absurd (some-ne-none x (sym at))
dealt_taken (z ∷ xs) x at e = e

pub deals_so : (k : Layout) (id : ℕ) (x : Outlook) → x.gone ≡ false → x.taken ≡ [] → x.own.position ≡ 0 → x.own.dealt < k.domains → Splits (TableHolds k) id x (dealing x) (dealt_outlook x)
deals_so k id x here none_taken own room s holds at =
    let stands = there k s holds id x at here in
    let zero_is : id ≡ 0 = sym (holds.shown.now.seats id x.own stands).0 ∙ own in
    let front : get_elem? s.views 0 ≡ some x = subst (λ (i : ℕ). get_elem? s.views i ≡ some x) zero_is at in
    let inner = deals k id x.own own room (whole s) holds.shown stands in record {
      shown = subst (λ (us : List View). Shows k (record { words = s.words; homes = s.homes; views = us }))
          ((λ j. set (whole_views s.views) (zero_is j) (dealer_after x.own) ++ dealt_to x.own ∷ []) ∙ (sym (dealt_views s.views x front none_taken)
          ∙ (λ j. whole_views (set s.views (sym zero_is j) (dealing x) ++ dealt_outlook x ∷ [])))) inner;
      taken = subst (λ (q : List View). AreTaken (set s.views id (dealing x) ++ dealt_outlook x ∷ []) (whole_views (set s.views id (dealing x) ++ dealt_outlook x ∷ [])) q)
          (sym ((λ j. taken_by (set s.views (zero_is j) (dealing x) ++ dealt_outlook x ∷ [])) ∙ dealt_taken s.views x front none_taken)) tt;
    }

-- at another number of the same place
pub lifted : (k : Layout) (slots id : ℕ) (me : Me (Unit {0}) Outlook) (at here : ℕ) (f : ℕ → ℕ) (d : StepKind) (st st' : TableStep (Unit {0})) → me.0.gone ≡ false → at ≡ here → st ≡ st'
    → Allows (Shows k) slots id (me.0.own, me.1) at f (promises_step d st (me.0.own, me.1)) → Allows (TableHolds k) slots id me here f (promises_own d st' me)
lifted k slots id me at here f d st st' live same also allows =
    subst (λ (i : ℕ). Allows (TableHolds k) slots id me i f (promises_own d st' me)) same
    (subst (λ (z : TableStep (Unit {0})). Allows (TableHolds k) slots id me at f (promises_own d z me)) also
    (lift k slots id me at f (promises_step d st (me.0.own, me.1)) live allows))

pub lifted_store : (k : Layout) (slots id : ℕ) (me : Me (Unit {0}) Outlook) (at here new : ℕ) (d : StepKind) (st st' : TableStep (Unit {0})) → me.0.gone ≡ false → at ≡ here → st ≡ st'
    → Allows (Shows k) slots id (me.0.own, me.1) at (λ _. new) (λ _. promises_stored d st (me.0.own, me.1)) → Allows (TableHolds k) slots id me here (λ _. new) (λ _. promises_own_stored d st' me)
lifted_store k slots id me at here new d st st' live same also allows =
    subst (λ (i : ℕ). Allows (TableHolds k) slots id me i (λ _. new) (λ _. promises_own_stored d st' me)) same
    (subst (λ (z : TableStep (Unit {0})). Allows (TableHolds k) slots id me at (λ _. new) (λ _. promises_own_stored d z me)) also
    (lift k slots id me at (λ _. new) (λ _. promises_stored d st (me.0.own, me.1)) live allows))

-- a look that tells of all

word_again : (ws : List ℕ) (i : ℕ) → set ws i (slice_index ws i) ≡ ws
word_again [] i = refl
word_again (w ∷ ws) zero = refl
word_again (w ∷ ws) (suc i) = ap (λ z. w ∷ z) (word_again ws i)

pub learns_so : (k : Layout) (slots : ℕ) (me : Me (Unit {0}) Outlook) (at : ℕ) (d : StepKind) (st : TableStep (Unit {0})) → me.0.gone ≡ false → d.layout ≡ k → Allows (TableHolds k) slots 0 me at (λ n. n) (learns_all d st me)
learns_so k slots me at d st here of_run s holds many found bound = (
  me.0,
  keeps,
  tt,
  subst (λ (ws : List ℕ). TableHolds k (record { words = ws; homes = s.homes; views = set s.views 0 me.0 })) (sym (word_again s.words at))
      (subst (λ (xs : List Outlook). TableHolds k (record { words = s.words; homes = s.homes; views = xs })) (sym (set_again s.views 0 me.0 found)) holds),
  (refl, subst (λ (l : Layout). Learns l me.0) (sym of_run) (holders_learn k s me.0 holds found here)),
)

-- the first seat is the one at position 0

pub first_id : (k : Layout) (s : State (Unit {0}) Outlook) → TableHolds k s → (id : ℕ) (v : Outlook) → get_elem? s.views id ≡ some v → v.gone ≡ false → v.own.position ≡ 0 → id ≡ 0
first_id k s holds id v at here own = sym (holds.shown.now.seats id v.own (there k s holds id v at here)).0 ∙ own

pub join_any : (k : Layout) (id other : ℕ) (v w gone : Outlook) → v.own.position ≡ 0 → v.gone ≡ false → w.gone ≡ false → gone.gone ≡ true → Joins (TableHolds k) id v other w (took v w) gone
join_any k id other v w gone own here live lost s holds at =
    subst (λ (i : ℕ). Joins (TableHolds k) i v other w (took v w) gone) (sym (first_id k s holds id v at here own)) (seats_join k other v w gone here live lost) s holds at

pub learns_any : (k : Layout) (slots id : ℕ) (me : Me (Unit {0}) Outlook) (at : ℕ) (d : StepKind) (st : TableStep (Unit {0})) → me.0.own.position ≡ 0 → me.0.gone ≡ false → d.layout ≡ k → Allows (TableHolds k) slots id me at (λ n. n) (learns_all d st me)
learns_any k slots id me at d st own here of_run s holds many found =
    subst (λ (i : ℕ). Allows (TableHolds k) slots i me at (λ n. n) (learns_all d st me)) (sym (first_id k s holds id me.0 found here own)) (learns_so k slots me at d st here of_run) s holds many found
