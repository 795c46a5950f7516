-- An access to a frame, and a step on a flag, is a step of the one history: words and views continue to show a state.
use Rattle.std.proofs.Common.{◌≡◌, ◌≢◌, ⊎_elim, ℕ, zero, suc, ◌<◌, false, List, [], ◌∷◌, map, set, sym, refl, ap, ◌∙◌}
use Rattle.std.proofs.Common.{subst, arith, length-set}
use mathlib.Core.Option.{some}
use lib.ListN.{get_elem?}
use lib.Seq.{map-set}
use Rattle.std.specs.Prelude.{slice_index}
use Rattle.atomic_table.specs.Table.{State, keeps, stepped}
use Rattle.atomic_table.proofs.Lists.{at_map, at_set, set_again}
use Rattle.gt_word_history.specs.History.{HasLedTo, IsOwners, Layout, PinsLast, RecordsWord, StepHistory, header_place, left_by}
use Rattle.gt_word_history.specs.History.{place, word_place_of}
use Rattle.gt_word_history.specs.Joining.{TableHolds, whole, whole_views}
use Rattle.gt_word_history.specs.Rule.{Shows, ShowsEntry, Stands, header_now}
use Rattle.gt_word_history.specs.Views.{entry_steps, header_steps, steps_on, steps_on_header, with_step}
use Rattle.gt_word_history.specs.declared.view.EntryStep.{EntryStep}
use Rattle.gt_word_history.specs.declared.view.HeaderStep.{HeaderStep}
use Rattle.gt_word_history.specs.declared.view.Outlook.{Outlook}
use Rattle.gt_word_history.specs.declared.view.SeatStep.{SeatStep}
use Rattle.gt_word_history.specs.declared.view.SeatStep.TheVariants.{Entry, Flag, Frame, Header}
use Rattle.gt_word_history.specs.declared.view.View.{View}
use Rattle.gt_word_history.proofs.Joining.{holds_after, there, views_after}
use Rattle.gt_word_history.proofs.Moments.{one_history}
use Rattle.gt_word_history.proofs.Order.{leads_on}
use Rattle.gt_shared_table.specs.Bytes.{IsAside}
use Rattle.gt_shared_table.specs.Recording.{outlook_after}

pub word_again : (ws : List ℕ) (i : ℕ) → set ws i (slice_index ws i) ≡ ws
word_again [] i = refl
word_again (w ∷ ws) zero = refl
word_again (w ∷ ws) (suc i) = ap (λ z. w ∷ z) (word_again ws i)

-- what such a step leaves

place_aside : (x : SeatStep) → IsAside x → word_place_of x ≡ 0
place_aside (Entry d q m) aside = absurd aside
place_aside (Header d m) aside = absurd aside
place_aside (Frame d q m) aside = refl
place_aside (Flag f m) aside = refl

left_aside : (x : SeatStep) → IsAside x → (n : ℕ) → n ≡ left_by x n
left_aside (Entry d q m) aside n = absurd aside
left_aside (Header d m) aside n = absurd aside
left_aside (Frame d q m) aside n = refl
left_aside (Flag f m) aside n = refl

says_aside : (x : SeatStep) → IsAside x → (n : ℕ) → RecordsWord x n
says_aside (Entry d q m) aside n = absurd aside
says_aside (Header d m) aside n = absurd aside
says_aside (Frame d q m) aside n = tt
says_aside (Flag f m) aside n = tt

owners_aside : (i : ℕ) (x : SeatStep) → IsAside x → IsOwners i x
owners_aside i (Entry d q m) aside = absurd aside
owners_aside i (Header d m) aside = absurd aside
owners_aside i (Frame d q m) aside = tt
owners_aside i (Flag f m) aside = tt

pins_aside : (k : Layout) (h : StepHistory) (x : SeatStep) → IsAside x → PinsLast k h x
pins_aside k h (Entry d q m) aside = absurd aside
pins_aside k h (Header d m) aside = absurd aside
pins_aside k h (Frame d q m) aside = tt
pins_aside k h (Flag f m) aside = tt

entries_aside : (t r : ℕ) (x : SeatStep) → IsAside x → (xs : List SeatStep) → entry_steps t r (x ∷ xs) ≡ entry_steps t r xs
entries_aside t r (Entry d q m) aside xs = absurd aside
entries_aside t r (Header d m) aside xs = absurd aside
entries_aside t r (Frame d q m) aside xs = refl
entries_aside t r (Flag f m) aside xs = refl

headers_aside : (t : ℕ) (x : SeatStep) → IsAside x → (xs : List SeatStep) → header_steps t (x ∷ xs) ≡ header_steps t xs
headers_aside t (Entry d q m) aside xs = absurd aside
headers_aside t (Header d m) aside xs = absurd aside
headers_aside t (Frame d q m) aside xs = refl
headers_aside t (Flag f m) aside xs = refl

-- such a step that comes next
module _ (k : Layout) (s : State (Unit {0}) View) (shown : Shows k s) (id : ℕ) (v : View) (at : get_elem? s.views id ≡ some v) (x : SeatStep) (aside : IsAside x) where
  abbrev pub w : View
  w = with_step shown.history x v

  own : v.position ≡ id
  own = (shown.now.seats id v at).0

  abbrev vs : List View
  vs = set s.views id w

  abbrev same_words : List ℕ → State (Unit {0}) View
  same_words ws = record { words = ws; homes = s.homes; views = vs }

  some_domain : 0 < header_place k.domains
  some_domain = let a = shown.now.dealt.1 in let b = shown.now.dealt.2 in omega arith

  led : HasLedTo k ((id, x) ∷ shown.history) (same_words s.words)
  led = subst (λ (ws : List ℕ). HasLedTo k ((id, x) ∷ shown.history) (same_words ws)) (word_again s.words 0)
      (leads_on k s id v shown.history x 0 (slice_index s.words 0) at shown.now.led_here own shown.now.wide some_domain (place_aside x aside) (left_aside x aside (slice_index s.words 0))
      (says_aside x aside (slice_index s.words 0)) (owners_aside id x aside) (pins_aside k shown.history x aside))

  stands : Stands k ((id, x) ∷ shown.history) (same_words s.words)
  stands = record {
    wide = shown.now.wide;
    dealt = (
      (λ u e. ⊎_elim (λ (q : (0 ≡ id) × (w ≡ u)). ap (λ (z : View). z.dealt) (sym q.1) ∙ (shown.now.dealt.0 v (ap (get_elem? s.views) q.0 ∙ at) ∙ sym (length-set s.views id w)))
          (λ (q : (0 ≢ id) × (get_elem? s.views 0 ≡ some u)). shown.now.dealt.0 u q.1 ∙ sym (length-set s.views id w))
          (at_set s.views id 0 w u e)),
      (let l = length-set s.views id w in let a = shown.now.dealt.1 in omega arith),
      (let l = length-set s.views id w in let a = shown.now.dealt.2 in omega arith),
    );
    seats = λ j u e. ⊎_elim (λ (q : (j ≡ id) × (w ≡ u)). let is = shown.now.seats id v at in
        (ap (λ (z : View). z.position) (sym q.1) ∙ (is.0 ∙ sym q.0), ap (λ (z : View). z.first) (sym q.1) ∙ is.1, ap (λ (z : View). z.headers) (sym q.1) ∙ is.2))
        (λ (q : (j ≢ id) × (get_elem? s.views j ≡ some u)). shown.now.seats j u q.1) (at_set s.views id j w u e);
    entries = λ t' r' tn rn. let hs : List (List EntryStep) = map (steps_on t' r') s.views in
        let q : map (steps_on t' r') vs ≡ hs = map-set (steps_on t' r') s.views id w ∙ (ap (set hs id) (entries_aside t' r' x aside v.steps) ∙ set_again hs id (steps_on t' r' v) (at_map (steps_on t' r') s.views id v at)) in
        subst (ShowsEntry k.first t' (slice_index s.words (place t' r' 0)) (slice_index s.words (place t' r' 1)) (slice_index s.words (place t' r' 2))) (sym q) (shown.now.entries t' r' tn rn);
    headers = λ t' tn. let hs : List (List HeaderStep) = map (steps_on_header t') s.views in let h = shown.now.headers t' tn in
        let q : map (steps_on_header t') vs ≡ hs = map-set (steps_on_header t') s.views id w ∙ (ap (set hs id) (headers_aside t' x aside v.steps) ∙ set_again hs id (steps_on_header t' v) (at_map (steps_on_header t') s.views id v at)) in
        (h.0 ∙ sym (ap (header_now k t') q), h.1);
    led_here = led;
  }

  pub shows_access : Shows k (stepped s 0 (slice_index s.words 0) id [] w keeps)
  shows_access = record {
    history = (id, x) ∷ shown.history;
    now = subst (λ (ws : List ℕ). Stands k ((id, x) ∷ shown.history) (same_words ws)) (sym (word_again s.words 0)) stands;
    stood = ((s, shown.now), shown.stood);
  }

-- the same where seats may be taken in
module _ (k : Layout) (z : State (Unit {0}) Outlook) (holds : TableHolds k z) (id : ℕ) (o : Outlook) (at : get_elem? z.views id ≡ some o) (here : o.gone ≡ false) (x : SeatStep) (aside : IsAside x) where
  abbrev pub y : Outlook
  y = outlook_after holds.shown.history x o

  pub seen_there : get_elem? (whole_views z.views) id ≡ some o.own
  seen_there = there k z holds id o at here

  pub access_shown : Shows k (stepped (whole z) 0 (slice_index z.words 0) id [] y.own keeps)
  access_shown = shows_access k (whole z) holds.shown id o.own seen_there x aside

  pub holds_access : TableHolds k (record { words = z.words; homes = z.homes; views = set z.views id y })
  holds_access = subst (λ (ws : List ℕ). TableHolds k (record { words = ws; homes = z.homes; views = set z.views id y })) (word_again z.words 0)
      (holds_after k z holds id o at here 0 (slice_index z.words 0) [] y keeps refl access_shown)

  pub history_goes_on : holds_access.shown.history ≡ (id, x) ∷ holds.shown.history
  unfolding access_shown shows_access
  history_goes_on = one_history k (whole (record { words = z.words; homes = z.homes; views = set z.views id y })) (stepped (whole z) 0 (slice_index z.words 0) id [] y.own keeps) holds_access.shown access_shown
      (views_after k z holds id o at here y refl)

  pub access_stands : Stands k ((id, x) ∷ holds.shown.history) (stepped (whole z) 0 (slice_index z.words 0) id [] y.own keeps)
  unfolding access_shown shows_access
  access_stands = access_shown.now

  pub own_place : o.own.position ≡ id
  own_place = (holds.shown.now.seats id o.own seen_there).0
