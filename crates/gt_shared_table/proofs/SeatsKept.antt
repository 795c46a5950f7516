-- Dealing a seat and taking one in leave words, frames and history as they are.
use Rattle.std.proofs.Common.{◌≡◌, ◌≢◌, ◌⊎◌, inl, inr, ⊎_elim, ℕ, zero, suc, ◌<◌, ◌≤◌, List, [], ◌∷◌, ◌++◌, map, set}
use Rattle.std.proofs.Common.{length, true, false, sym, refl, ap, ◌∙◌, subst, arith}
use mathlib.Core.Option.{Option as Maybe, some, none, some-injective, some-ne-none}
use lib.ListN.{get_elem?}
use lib.Seq.{map-set}
use Rattle.atomic_table.specs.Table.{State}
use Rattle.atomic_table.proofs.Lists.{at_map, at_set}
use Rattle.gt_word_history.proofs.Joining.{dealt_views, deals_so, first_id, join_any, same_views, there}
use Rattle.gt_word_history.proofs.Moments.{beyond, one_history, one_order}
use Rattle.gt_word_history.proofs.Order.{nothing_yet}
use Rattle.gt_word_history.specs.History.{Layout, StepHistory, part_of, up_to}
use Rattle.gt_word_history.specs.Joining.{TableHolds, took, whole, whole_views}
use Rattle.gt_word_history.specs.Places.{dealer_after, dealing, dealt_outlook, dealt_to}
use Rattle.gt_word_history.specs.Rule.{Shows}
use Rattle.gt_word_history.specs.Views.{IsAmong}
use Rattle.gt_word_history.specs.declared.view.Outlook.{Outlook}
use Rattle.gt_word_history.specs.declared.view.View.{View}
use Rattle.gt_shared_table.specs.declared.rule.FrameHolder.{FrameHolder}
use Rattle.gt_shared_table.specs.Rule.{AreOnce, Cell, Has, HoldsAll, FramesAreKept, Places, inner, newcomer, own_of}
use Rattle.gt_shared_table.specs.Seats.{SeatsAreDealt, SeatsAreTakenIn, dealer}
use Rattle.gt_shared_table.proofs.Steps.{all_by}

-- the view of a seat, as it was or without a frame
abbrev IsSameHolding : List FrameHolder → ℕ → FrameHolder → Type 0
IsSameHolding vs j w = ((v : FrameHolder) × (get_elem? vs j ≡ some v) × (w.held ≡ v.held)) ⊎ (w.held ≡ [])

-- frames are kept while no seat takes or gives one
views_keep : (b : Places) (h : StepHistory) (s : State Cell FrameHolder) (vs : List FrameHolder) → FramesAreKept b h s → ((j : ℕ) (w : FrameHolder) → get_elem? vs j ≡ some w → IsSameHolding s.views j w)
    → FramesAreKept b h (record { words = s.words; homes = s.homes; views = vs })
views_keep b h s vs kept same = record {
  truth = kept.truth;
  apart = kept.apart;
  home = kept.home;
  values = λ j w p n at among named. ⊎_elim
      (λ (f : (v : FrameHolder) × (get_elem? s.views j ≡ some v) × (w.held ≡ v.held)). kept.values j f.0 p n f.1 (subst (IsAmong p) f.2 among) named)
      (λ (e : w.held ≡ []). absurd (subst (IsAmong p) e among))
      (same j w at);
  out = λ j w q at has. ⊎_elim
      (λ (f : (v : FrameHolder) × (get_elem? s.views j ≡ some v) × (w.held ≡ v.held)). kept.out j f.0 q f.1 (subst (Has q) f.2 has))
      (λ (e : w.held ≡ []). absurd (subst (Has q) e has))
      (same j w at);
  one = λ i j v w q at also has too. ⊎_elim
      (λ (f : (u : FrameHolder) × (get_elem? s.views i ≡ some u) × (v.held ≡ u.held)). ⊎_elim
      (λ (g : (u : FrameHolder) × (get_elem? s.views j ≡ some u) × (w.held ≡ u.held)). kept.one i j f.0 g.0 q f.1 g.1 (subst (Has q) f.2 has) (subst (Has q) g.2 too))
      (λ (e : w.held ≡ []). absurd (subst (Has q) e too))
      (same j w also))
      (λ (e : v.held ≡ []). absurd (subst (Has q) e has))
      (same i v at);
  once = λ j w at. ⊎_elim
      (λ (f : (v : FrameHolder) × (get_elem? s.views j ≡ some v) × (w.held ≡ v.held)). subst AreOnce (sym f.2) (kept.once j f.0 f.1))
      (λ (e : w.held ≡ []). subst AreOnce (sym e) tt)
      (same j w at);
  free = kept.free;
  wide = kept.wide;
  flags = kept.flags;
}

more : (us : List View) (c : View) → length us ≤ length (us ++ c ∷ [])
more [] c = omega arith
more (x ∷ us) c = let r = more us c in omega arith

at_more : {A : Type 0} (xs : List A) (c : A) (j : ℕ) (v : A) → get_elem? (xs ++ c ∷ []) j ≡ some v → (get_elem? xs j ≡ some v) ⊎ ((c ≡ v) × (get_elem? xs j ≡ none))
at_more [] c zero v e = inr (some-injective c v e, refl)
at_more [] c (suc j) v e = absurd (some-ne-none v (sym e))
at_more (x ∷ xs) c zero v e = inl e
at_more (x ∷ xs) c (suc j) v e = at_more xs c j v e

map_more : (vs : List FrameHolder) (c : FrameHolder) → map own_of (vs ++ c ∷ []) ≡ map own_of vs ++ c.own ∷ []
map_more [] c = refl
map_more (v ∷ vs) c = ap (λ (us : List Outlook). v.own ∷ us) (map_more vs c)

-- a view that has the same steps as before, or none
abbrev IsSameView : List View → ℕ → View → Type 0
IsSameView vs j u =
    ((v : View) × (get_elem? vs j ≡ some v) × (v.steps ≡ u.steps) × (v.past ≡ u.past)) ⊎ ((get_elem? vs j ≡ none) × (u.steps ≡ []) × (u.past ≡ []))

-- two shown states whose seats have the same steps have one history
history_by : (k : Layout) (s z : State (Unit {0}) View) (a : Shows k s) (c : Shows k z) → length s.views ≤ length z.views → ((j : ℕ) (u : View) → get_elem? z.views j ≡ some u → IsSameView s.views j u)
    → a.history ≡ c.history
history_by k s z a c longer same = one_order 0 a.history c.history (λ j. (both j (get_elem? z.views j) refl).0) (λ j n. (both j (get_elem? z.views j) refl).1)
  where
    both : (j : ℕ) (o : Maybe View) → get_elem? z.views j ≡ o → (part_of j a.history ≡ part_of j c.history) × (up_to j a.history ≡ up_to j c.history)
    both j none e = let l = beyond z.views j e in let p = a.now.led_here.no_other j (omega arith) in let q = c.now.led_here.no_other j l in
        (p ∙ sym q, nothing_yet j a.history p ∙ sym (nothing_yet j c.history q))
    both j (some u) e = let q = c.now.led_here.parts j u e in ⊎_elim
        (λ (f : (v : View) × (get_elem? s.views j ≡ some v) × (v.steps ≡ u.steps) × (v.past ≡ u.past)).
        let p = a.now.led_here.parts j f.0 f.1 in (sym p.0 ∙ (f.2 ∙ q.0), sym p.1 ∙ (f.3 ∙ q.1)))
        (λ (f : (get_elem? s.views j ≡ none) × (u.steps ≡ []) × (u.past ≡ [])).
        let p = a.now.led_here.no_other j (beyond s.views j f.0) in
        let r : part_of j c.history ≡ [] = sym q.0 ∙ f.1 in
        (p ∙ sym r, nothing_yet j a.history p ∙ sym (nothing_yet j c.history r)))
        (same j u e)

-- one seat more
module _ (b : Places) (id : ℕ) (v : FrameHolder) (here : v.own.gone ≡ false) (none_taken : v.own.taken ≡ []) (own : v.own.own.position ≡ 0) (room : v.own.own.dealt < b.layout.domains)
    (s : State Cell FrameHolder) (holds : HoldsAll b s) (at : get_elem? s.views id ≡ some v) where
  abbrev os : List Outlook
  os = map own_of s.views

  own_at : get_elem? os id ≡ some v.own
  own_at = at_map own_of s.views id v at

  abbrev vs : List FrameHolder
  vs = set s.views id (dealer v) ++ newcomer (dealt_outlook v.own) ∷ []

  abbrev after : State Cell FrameHolder
  after = record { words = s.words; homes = s.homes; views = vs }

  outs : map own_of vs ≡ set os id (dealing v.own) ++ dealt_outlook v.own ∷ []
  outs = map_more (set s.views id (dealer v)) (newcomer (dealt_outlook v.own)) ∙ ap (λ (us : List Outlook). us ++ dealt_outlook v.own ∷ []) (map-set own_of s.views id (dealer v))

  words_then : TableHolds b.layout (record { words = (inner b s).words; homes = (inner b s).homes; views = set os id (dealing v.own) ++ dealt_outlook v.own ∷ [] })
  words_then = deals_so b.layout id v.own here none_taken own room (inner b s) holds.words own_at

  words_after : TableHolds b.layout (inner b after)
  words_after = subst (λ (us : List Outlook). TableHolds b.layout (record { words = (inner b s).words; homes = (inner b s).homes; views = us })) (sym outs) words_then

  seen : get_elem? (whole_views os) id ≡ some v.own.own
  seen = there b.layout (inner b s) holds.words id v.own own_at here

  zero_is : id ≡ 0
  zero_is = sym (holds.words.shown.now.seats id v.own.own seen).0 ∙ own

  wholes : whole_views (map own_of vs) ≡ set (whole_views os) id (dealer_after v.own.own) ++ dealt_to v.own.own ∷ []
  wholes = ap whole_views outs
      ∙ ((λ j. whole_views (set os (zero_is j) (dealing v.own) ++ dealt_outlook v.own ∷ []))
      ∙ (dealt_views os v.own (subst (λ (i : ℕ). get_elem? os i ≡ some v.own) zero_is own_at) none_taken
      ∙ (λ j. set (whole_views os) (sym zero_is j) (dealer_after v.own.own) ++ dealt_to v.own.own ∷ [])))

  same_view : (j : ℕ) (u : View) → get_elem? (whole_views (map own_of vs)) j ≡ some u → IsSameView (whole_views os) j u
  same_view j u e = ⊎_elim
      (λ (f : get_elem? (set (whole_views os) id (dealer_after v.own.own)) j ≡ some u). ⊎_elim
      (λ (g : (j ≡ id) × (dealer_after v.own.own ≡ u)). inl (v.own.own, ap (get_elem? (whole_views os)) g.0 ∙ seen, ap (λ (w : View). w.steps) g.1, ap (λ (w : View). w.past) g.1))
      (λ (g : (j ≢ id) × (get_elem? (whole_views os) j ≡ some u)). inl (u, g.1, refl, refl))
      (at_set (whole_views os) id j (dealer_after v.own.own) u f))
      (λ (f : (dealt_to v.own.own ≡ u) × (get_elem? (set (whole_views os) id (dealer_after v.own.own)) j ≡ none)).
      inr (gone_too (whole_views os) id j (dealer_after v.own.own) f.1, ap (λ (w : View). w.steps) (sym f.0), ap (λ (w : View). w.past) (sym f.0)))
      (at_more (set (whole_views os) id (dealer_after v.own.own)) (dealt_to v.own.own) j u (subst (λ (us : List View). get_elem? us j ≡ some u) wholes e))
    where
      gone_too : (us : List View) (i j : ℕ) (a : View) → get_elem? (set us i a) j ≡ none → get_elem? us j ≡ none
      gone_too [] i j a e = refl
      gone_too (x ∷ us) zero zero a e = absurd (some-ne-none a e)
      gone_too (x ∷ us) zero (suc j) a e = e
      gone_too (x ∷ us) (suc i) zero a e = e
      gone_too (x ∷ us) (suc i) (suc j) a e = gone_too us i j a e

  longer : length (whole_views os) ≤ length (whole_views (map own_of vs))
  longer = subst (λ (us : List View). length (whole_views os) ≤ length us) (sym wholes) (grow (whole_views os) id (dealer_after v.own.own) (dealt_to v.own.own))
    where
      grow : (us : List View) (i : ℕ) (a c : View) → length us ≤ length (set us i a ++ c ∷ [])
      grow [] i a c = omega arith
      grow (x ∷ us) zero a c = let r : length us ≤ length (us ++ c ∷ []) = more us c in omega arith
      grow (x ∷ us) (suc i) a c = let r = grow us i a c in omega arith

  same_order : words_after.shown.history ≡ holds.words.shown.history
  same_order = sym (history_by b.layout (whole (inner b s)) (whole (inner b after)) holds.words.shown words_after.shown longer same_view)

  kept : FramesAreKept b holds.words.shown.history after
  kept = views_keep b holds.words.shown.history s vs holds.frames held_same
    where
      held_same : (j : ℕ) (w : FrameHolder) → get_elem? vs j ≡ some w → IsSameHolding s.views j w
      held_same j w e = ⊎_elim
          (λ (f : get_elem? (set s.views id (dealer v)) j ≡ some w). ⊎_elim
          (λ (g : (j ≡ id) × (dealer v ≡ w)). inl (v, ap (get_elem? s.views) g.0 ∙ at, ap (λ (x : FrameHolder). x.held) (sym g.1)))
          (λ (g : (j ≢ id) × (get_elem? s.views j ≡ some w)). inl (w, g.1, refl))
          (at_set s.views id j (dealer v) w f))
          (λ (f : (newcomer (dealt_outlook v.own) ≡ w) × (get_elem? (set s.views id (dealer v)) j ≡ none)). inr (ap (λ (x : FrameHolder). x.held) (sym f.0)))
          (at_more (set s.views id (dealer v)) (newcomer (dealt_outlook v.own)) j w e)

  pub dealt_all : HoldsAll b after
  dealt_all = all_by b after words_after holds.words.shown.history same_order kept

pub dealt : SeatsAreDealt
dealt b id v here none_taken own room s holds at = dealt_all b id v here none_taken own room s holds at

-- a seat that is taken in changes no view of the whole
same_wholes : (k : Layout) (ws : List ℕ) (hs : List (Maybe (Unit {0}))) (v w gone : Outlook) → v.gone ≡ false → w.gone ≡ false → gone.gone ≡ true → (xs : List Outlook) (o : ℕ)
    → TableHolds k (record { words = ws; homes = hs; views = xs }) → get_elem? xs 0 ≡ some v → (o ≡ 0 → ⊥) → get_elem? (set xs 0 (took v w)) o ≡ some w
    → whole_views (set (set xs 0 (took v w)) o gone) ≡ whole_views xs
same_wholes k ws hs v w gone here live lost [] o holds at ne found = absurd (some-ne-none v (sym at))
same_wholes k ws hs v w gone here live lost (x ∷ xs) zero holds at ne found = absurd (ne refl)
same_wholes k ws hs v w gone here live lost (x ∷ xs) (suc j) holds at ne found =
    let x_is : x ≡ v = some-injective x v at in
    same_views k ws hs v w gone xs j here live lost (subst (λ (y : Outlook). TableHolds k (record { words = ws; homes = hs; views = y ∷ xs })) x_is holds) found
    ∙ ap (λ (y : Outlook). whole_views (y ∷ xs)) (sym x_is)

module _ (b : Places) (id other : ℕ) (v w gone : FrameHolder) (own : v.own.own.position ≡ 0) (here : v.own.gone ≡ false) (live : w.own.gone ≡ false) (empty : w.held ≡ []) (lost : gone.own.gone ≡ true) (spent : gone.held ≡ [])
    (s : State Cell FrameHolder) (holds : HoldsAll b s) (at : get_elem? s.views id ≡ some v) (ne : other ≡ id → ⊥) where
  abbrev both : FrameHolder
  both = record v { own = took v.own w.own }

  abbrev views : List Outlook
  views = map own_of s.views

  abbrev joined_views : List FrameHolder
  joined_views = set (set s.views id both) other gone

  abbrev joined : State Cell FrameHolder
  joined = record { words = s.words; homes = s.homes; views = joined_views }

  module _ (found : get_elem? (set s.views id both) other ≡ some w) where
    v_at : get_elem? views id ≡ some v.own
    v_at = at_map own_of s.views id v at

    w_at : get_elem? (set views id (took v.own w.own)) other ≡ some w.own
    w_at = subst (λ (us : List Outlook). get_elem? us other ≡ some w.own) (map-set own_of s.views id both) (at_map own_of (set s.views id both) other w found)

    joined_outs : map own_of joined_views ≡ set (set views id (took v.own w.own)) other gone.own
    joined_outs = map-set own_of (set s.views id both) other gone ∙ ap (λ (us : List Outlook). set us other gone.own) (map-set own_of s.views id both)

    words_joined : TableHolds b.layout (inner b joined)
    words_joined = subst (λ (us : List Outlook). TableHolds b.layout (record { words = (inner b s).words; homes = (inner b s).homes; views = us })) (sym joined_outs)
        (join_any b.layout id other v.own w.own gone.own own here live lost (inner b s) holds.words v_at ne w_at)

    first_is : id ≡ 0
    first_is = first_id b.layout (inner b s) holds.words id v.own v_at here own

    joined_wholes : whole_views (map own_of joined_views) ≡ whole_views views
    joined_wholes = ap whole_views joined_outs
        ∙ ((λ j. whole_views (set (set views (first_is j) (took v.own w.own)) other gone.own))
        ∙ same_wholes b.layout (inner b s).words (inner b s).homes v.own w.own gone.own here live lost views other holds.words
        (subst (λ (i : ℕ). get_elem? views i ≡ some v.own) first_is v_at) (λ e. ne (e ∙ sym first_is))
        (subst (λ (i : ℕ). get_elem? (set views i (took v.own w.own)) other ≡ some w.own) first_is w_at))

    joined_kept : FramesAreKept b holds.words.shown.history joined
    joined_kept = views_keep b holds.words.shown.history s joined_views holds.frames held_same
      where
        held_same : (j : ℕ) (u : FrameHolder) → get_elem? joined_views j ≡ some u → IsSameHolding s.views j u
        held_same j u e = ⊎_elim
            (λ (f : (j ≡ other) × (gone ≡ u)). inr (ap (λ (x : FrameHolder). x.held) (sym f.1) ∙ spent))
            (λ (f : (j ≢ other) × (get_elem? (set s.views id both) j ≡ some u)). ⊎_elim
            (λ (g : (j ≡ id) × (both ≡ u)). inl (v, ap (get_elem? s.views) g.0 ∙ at, ap (λ (x : FrameHolder). x.held) (sym g.1)))
            (λ (g : (j ≢ id) × (get_elem? s.views j ≡ some u)). inl (u, g.1, refl))
            (at_set s.views id j both u f.1))
            (at_set (set s.views id both) other j gone u e)

    pub joined_all : HoldsAll b joined
    joined_all = all_by b joined words_joined holds.words.shown.history
        (one_history b.layout (whole (inner b joined)) (whole (inner b s)) words_joined.shown holds.words.shown joined_wholes)
        joined_kept

pub taken_in : SeatsAreTakenIn
taken_in b id other v w gone own here live empty lost spent s holds at ne found = joined_all b id other v w gone own here live empty lost spent s holds at ne found
