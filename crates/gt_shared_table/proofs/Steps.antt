-- The steps on the whole table: those on words as they were, a lock, an access, and a step on a flag.
use Rattle.std.proofs.Common.{◌≡◌, ℕ, zero, suc, ◌+◌, ◌*◌, ◌<◌, ◌≤◌, Bool, true, false, ◌==◌, List, [], ◌∷◌, map, take}
use Rattle.std.proofs.Common.{◌≢◌, eq-eqb, set, length, sym, refl, ap, ◌∙◌, subst, arith}
use Rattle.std.proofs.lemmas.Bool.Decides.{nat_tests}
use Rattle.std.specs.Prelude.{IsTrue, slice_index, Some, MatchBool}
use mathlib.Core.Option.{Option as Maybe, some, none, some-injective, some-ne-none}
use lib.ListN.{get_elem?, length-map}
use lib.Seq.{map-set, take-set-le}
use Rattle.std.proofs.Math.Seq.{take-set-lt}
use prog.Atomic.{either}
use Rattle.atomic_table.specs.Table.{State, Me, Act, Valid, carried_after, homes_after, stepped, keeps, takes, gives}
use Rattle.atomic_table.specs.Table.{chain}
use Rattle.atomic_table.proofs.Lists.{at_map, set_again, set_here}
use Rattle.gt_frames.specs.Frames.{FrameState, bytes_at, is_rightful}
use Rattle.gt_word_history.proofs.Joining.{there as there_own, views_after}
use Rattle.gt_word_history.proofs.Order.{within}
use Rattle.gt_word_history.proofs.Moments.{one_history, taken_then}
use Rattle.gt_word_history.specs.History.{StepHistory, header_place}
use Rattle.gt_word_history.specs.Joining.{TableHolds, promises_own, whole, whole_views}
use Rattle.gt_word_history.specs.Rule.{Shows, Stands}
use Rattle.gt_word_history.specs.Views.{with_step}
use Rattle.gt_word_history.specs.declared.view.FlagStep.TheVariants.{Passed, Raised}
use Rattle.gt_word_history.specs.declared.view.FrameStep.{FrameStep}
use Rattle.gt_word_history.specs.declared.view.FrameStep.TheVariants.{Read, Wrote, Copied}
use Rattle.gt_word_history.specs.declared.view.Outlook.{Outlook}
use Rattle.gt_word_history.specs.declared.view.SeatStep.{SeatStep}
use Rattle.gt_word_history.specs.declared.view.SeatStep.TheVariants.{Flag, Frame}
use Rattle.gt_word_history.specs.declared.view.View.{View}
use Rattle.gt_shared_table.specs.declared.rule.FrameHolder.{FrameHolder}
use Rattle.gt_shared_table.specs.Bytes.{IsAside, IsOnWords, IsTrueStep, journal_by}
use Rattle.gt_shared_table.specs.Rule.{Cell, FrameAt, HoldsAll, IsNamed, FramesAreKept, Places, hidden, inner, lock_place, made}
use Rattle.gt_shared_table.specs.Rule.{flag_place, own_of}
use Rattle.gt_shared_table.specs.Recording.{Accesses, AddsStep, IsByHeld, TookAt, AreLeft, frame_holder_after, holding, outlook_after}
use Rattle.gt_shared_table.specs.Laws.{FlagsArePassed, FlagsMayBeRaised, FramesAreAwaited, FramesAreFreed, FramesAreLocked}
use Rattle.gt_shared_table.specs.Laws.{FramesAreReturned}
use Rattle.gt_shared_table.specs.Laws.{WordsAreStepped}
use Rattle.gt_shared_table.proofs.OneStep.{access_stands, history_goes_on, holds_access, own_place, seen_there}
use Rattle.gt_shared_table.proofs.OneStep.{word_again}
use Rattle.gt_shared_table.proofs.Keeping.{gives_keep, pass_keeps, raise_keeps, returns_keep, takes_keep, was_mine}
use Rattle.gt_shared_table.proofs.Keeping.{waits_keep, words_keep}

hidden_set : (hs : List (Maybe Cell)) (q : ℕ) (m : Maybe Cell) → map hidden (set hs q m) ≡ map hidden hs
hidden_set [] q m = refl
hidden_set (x ∷ xs) zero m = refl
hidden_set (x ∷ xs) (suc q) m = ap (λ (l : List (Maybe (Unit {0}))). none ∷ l) (hidden_set xs q m)

pub take_same : (n : ℕ) (ws : List ℕ) (i : ℕ) → i < n → slice_index (take n ws) i ≡ slice_index ws i
take_same zero ws i l = absurd (omega arith)
take_same (suc n) [] i l = refl
take_same (suc n) (w ∷ ws) zero l = refl
take_same (suc n) (w ∷ ws) (suc i) l = take_same n ws i (omega arith)

no_home : (hs : List (Maybe Cell)) (k : ℕ) (y : Unit {0}) → get_elem? (map hidden hs) k ≡ some (some y) → ⊥
no_home [] k y e = some-ne-none (some y) (sym e)
no_home (x ∷ xs) zero y e = some-ne-none y (sym (some-injective none (some y) e))
no_home (x ∷ xs) (suc k) y e = no_home xs k y e

nothing_moves : (hs : List (Maybe Cell)) (a : Act (Unit {0})) → Valid (map hidden hs) [] a → (homes_after (map hidden hs) [] a ≡ map hidden hs) × (carried_after {S = Unit {0}} [] a ≡ [])
nothing_moves hs keeps is = (refl, refl)
nothing_moves hs (takes k y) is = absurd (no_home hs k y is)
nothing_moves hs gives is = (refl, refl)
nothing_moves hs (chain a b) is = let f = nothing_moves hs a is.0 in
    let next : Valid (map hidden hs) [] b = subst (λ (z : List (Maybe (Unit {0})) × List (ℕ × (Unit {0}))). Valid z.0 z.1 b) (λ i. (f.0 i, f.1 i)) is.1 in
    let g = nothing_moves hs b next in
    ((λ i. homes_after (f.0 i) (f.1 i) b) ∙ g.0, (λ i. carried_after (f.1 i) b) ∙ g.1)

pub all_by : (b : Places) (s : State Cell FrameHolder) (words : TableHolds b.layout (inner b s)) (h : StepHistory) → words.shown.history ≡ h → FramesAreKept b h s → HoldsAll b s
all_by b s words h e kept = record { words = words; frames = subst (λ (g : StepHistory). FramesAreKept b g s) (sym e) kept }

module _ (b : Places) (s : State Cell FrameHolder) (holds : HoldsAll b s) (id : ℕ) (v : FrameHolder) (at : get_elem? s.views id ≡ some v) where
  abbrev n_words : ℕ
  n_words = header_place b.layout.domains

  abbrev h : StepHistory
  h = holds.words.shown.history

  own_at : get_elem? (map own_of s.views) id ≡ some v.own
  own_at = at_map own_of s.views id v at

  -- a frame is taken
  module _ (q : ℕ) (n : FrameAt) (named : IsNamed b q n) (lt : q < length b.names) (is_free : slice_index s.words (lock_place b q) ≡ 0) (k : ℕ) (busy : k ≢ 0) (carried : List (ℕ × Cell)) where
    abbrev pub x : FrameState
    x = made b h n

    pub there : get_elem? s.homes q ≡ some (some (Some x))
    there = let f = holds.frames.free q lt is_free in f.1 ∙ ap (λ (z : Cell). some (some z)) (holds.frames.home q n f.0 named f.1)

    abbrev pub after : State Cell FrameHolder
    after = stepped s (lock_place b q) k id carried (holding n q x v) (takes q (Some x))

    same_inner : inner b after ≡ inner b s
    same_inner = λ i. record {
      words = take-set-le n_words s.words (lock_place b q) k (let l : n_words ≤ n_words + 8 * q = omega arith in l) i;
      homes = hidden_set s.homes q none i;
      views = (map-set own_of s.views id (holding n q x v) ∙ set_again (map own_of s.views) id v.own own_at) i;
    }

    words_after : TableHolds b.layout (inner b after)
    words_after = subst (TableHolds b.layout) (sym same_inner) holds.words

    pub locked : HoldsAll b after
    locked = all_by b after words_after h
        (one_history b.layout (whole (inner b after)) (whole (inner b s)) words_after.shown holds.words.shown (λ i. whole_views (same_inner i).views))
        (takes_keep b h s holds.frames id v at q n named (Some x) there lt (holding n q x v) refl k busy carried)

  -- a seat waits for a frame that another seat has
  module _ (q : ℕ) (n : FrameAt) (named : IsNamed b q n) (lt : q < length b.names) (k : ℕ) (busy : k ≢ 0) (carried : List (ℕ × Cell)) where
    abbrev waited : State Cell FrameHolder
    waited = record { words = set s.words (lock_place b q) k; homes = s.homes; views = s.views }

    inner_waited : inner b waited ≡ inner b s
    inner_waited = λ i. record {
      words = take-set-le n_words s.words (lock_place b q) k (let l : n_words ≤ n_words + 8 * q = omega arith in l) i;
      homes = map hidden s.homes;
      views = map own_of s.views;
    }

    words_waited : TableHolds b.layout (inner b waited)
    words_waited = subst (TableHolds b.layout) (sym inner_waited) holds.words

    pub waits : HoldsAll b (stepped s (lock_place b q) k id carried v keeps)
    waits = subst (λ (vs : List FrameHolder). HoldsAll b (record { words = set s.words (lock_place b q) k; homes = s.homes; views = vs })) (sym (set_again s.views id v at))
        (all_by b waited words_waited h
        (one_history b.layout (whole (inner b waited)) (whole (inner b s)) words_waited.shown holds.words.shown (λ i. whole_views (inner_waited i).views))
        (waits_keep b h s holds.frames id v at q n named lt k busy))

  -- a step that leaves the words of entries and headers
  module _ (x : SeatStep) (aside : IsAside x) (here : v.own.gone ≡ false) where
    abbrev pub with_aside : State (Unit {0}) Outlook
    with_aside = record { words = take n_words s.words; homes = map hidden s.homes; views = set (map own_of s.views) id (outlook_after h x v.own) }

    went : TableHolds b.layout with_aside
    went = holds_access b.layout (inner b s) holds.words id v.own own_at here x aside

    pub aside_all : (z : State Cell FrameHolder) → inner b z ≡ with_aside → FramesAreKept b ((id, x) ∷ h) z → HoldsAll b z
    unfolding went
    aside_all z inner_is kept = let words_then : TableHolds b.layout (inner b z) = subst (TableHolds b.layout) (sym inner_is) went in
        all_by b z words_then ((id, x) ∷ h)
        (one_history b.layout (whole (inner b z)) (whole with_aside) words_then.shown went.shown (λ i. whole_views (inner_is i).views) ∙ history_goes_on b.layout (inner b s) holds.words id v.own own_at here x aside)
        kept

    place_is : v.own.own.position ≡ id
    place_is = own_place b.layout (inner b s) holds.words id v.own own_at here x aside

    seen_here : get_elem? (whole_views (map own_of s.views)) id ≡ some v.own.own
    seen_here = seen_there b.layout (inner b s) holds.words id v.own own_at here x aside

    pub accesses : IsTrueStep b.layout h x → Accesses b.layout v.own.own h x
    accesses says = let next : View = with_step h x v.own.own in
        let z : State (Unit {0}) View = stepped (whole (inner b s)) 0 (slice_index (take n_words s.words) 0) id [] next keeps in record {
          stood = (whole (inner b s), holds.words.shown.now, subst (λ (i : ℕ). get_elem? (whole_views (map own_of s.views)) i ≡ some v.own.own) (sym place_is) seen_here);
          still_stands = (
            z,
            subst (λ (i : ℕ). Stands b.layout ((i, x) ∷ h) z) (sym place_is) (access_stands b.layout (inner b s) holds.words id v.own own_at here x aside),
            subst (λ (i : ℕ). get_elem? z.views i ≡ some next) (sym place_is) (set_here (whole_views (map own_of s.views)) id next (within (whole_views (map own_of s.views)) id v.own.own seen_here)),
          );
          stood_before = holds.words.shown.stood;
          recorded = says;
          truth = holds.frames.truth;
        }

    -- a step on a flag
    module _ (f n : ℕ) (carried : List (ℕ × Cell)) where
      abbrev stepper : FrameHolder
      stepper = record v { own = outlook_after h x v.own }

      abbrev pub flagged : State Cell FrameHolder
      flagged = stepped s (flag_place b f) n id carried stepper keeps

      inner_flagged : inner b flagged ≡ with_aside
      inner_flagged = λ i. record {
        words = take-set-le n_words s.words (flag_place b f) n (let l : n_words ≤ n_words + 8 * length b.names + f = omega arith in l) i;
        homes = map hidden s.homes;
        views = map-set own_of s.views id stepper i;
      }

      pub flagged_all : FramesAreKept b ((id, x) ∷ h) flagged → HoldsAll b flagged
      flagged_all kept = aside_all flagged inner_flagged kept

  -- an access
  module _ (q : ℕ) (n : FrameAt) (named : IsNamed b q n) (x : FrameState) (hs : List (ℕ × FrameState)) (has : AreLeft q x v.held hs) (m : FrameStep) (y : FrameState) (is : y ≡ record x { journal = journal_by m x.journal })
      (by_held : IsByHeld b v.held x m) (here : v.own.gone ≡ false) (carried : List (ℕ × Cell)) where
    abbrev pub a_step : SeatStep
    a_step = Frame n.0 n.1 m

    x_is : x ≡ made b h n
    x_is = holds.frames.values id v (q, x) n at (was_mine q x v.held hs has) named

    says_by : (m : FrameStep) → IsByHeld b v.held x m → IsTrueStep b.layout h (Frame n.0 n.1 m)
    says_by (Read off bs) e = e ∙ ap (λ (z : FrameState). bytes_at z off (length bs)) x_is
    says_by (Wrote r) e = subst (λ (z : FrameState). IsTrue (is_rightful z.owner z.number r)) x_is e
    says_by (Copied d f off r) e = (
      e.3 ∙ ap (λ (z : FrameState). bytes_at z off (length r.bytes)) (holds.frames.values id v e.0 (d, f) at e.1 e.2),
      subst (λ (z : FrameState). IsTrue (is_rightful z.owner z.number r)) x_is e.4,
    )

    abbrev pub w : FrameHolder
    w = frame_holder_after h a_step hs v

    w_held : w.held ≡ hs
    w_held = refl

    abbrev pub freed : State Cell FrameHolder
    freed = stepped s (lock_place b q) 0 id ((q, Some y) ∷ carried) w gives

    inner_is : inner b freed ≡ with_aside a_step tt here
    inner_is = λ i. record {
      words = take-set-le n_words s.words (lock_place b q) 0 (let l : n_words ≤ n_words + 8 * q = omega arith in l) i;
      homes = hidden_set s.homes q (some (Some y)) i;
      views = map-set own_of s.views id w i;
    }

    pub frees_all : HoldsAll b freed
    frees_all = aside_all a_step tt here freed inner_is (gives_keep b h s holds.frames id v at q n named x hs has m y is (says_by m by_held) w w_held carried)

    pub accesses_frame : Accesses b.layout v.own.own h a_step
    accesses_frame = accesses a_step tt here (says_by m by_held)

  -- a frame is given back as it was taken
  module _ (q : ℕ) (n : FrameAt) (named : IsNamed b q n) (x : FrameState) (hs : List (ℕ × FrameState)) (has : AreLeft q x v.held hs) (carried : List (ℕ × Cell)) where
    abbrev without : FrameHolder
    without = record v { held = hs }

    abbrev pub returned : State Cell FrameHolder
    returned = stepped s (lock_place b q) 0 id ((q, Some x) ∷ carried) without gives

    inner_same : inner b returned ≡ inner b s
    inner_same = λ i. record {
      words = take-set-le n_words s.words (lock_place b q) 0 (let l : n_words ≤ n_words + 8 * q = omega arith in l) i;
      homes = hidden_set s.homes q (some (Some x)) i;
      views = (map-set own_of s.views id without ∙ set_again (map own_of s.views) id v.own own_at) i;
    }

    words_returned : TableHolds b.layout (inner b returned)
    words_returned = subst (TableHolds b.layout) (sym inner_same) holds.words

    pub returns_all : HoldsAll b returned
    returns_all = all_by b returned words_returned h
        (one_history b.layout (whole (inner b returned)) (whole (inner b s)) words_returned.shown holds.words.shown (λ i. whole_views (inner_same i).views))
        (returns_keep b h s holds.frames id v at q n named x hs has without refl carried)

  -- a step on words
  module _ (here : v.own.gone ≡ false) (at_word left : ℕ) (before : at_word < n_words) (past : StepHistory) (x : SeatStep) (is : IsOnWords x) (y : Outlook) (took_none : y.taken ≡ v.own.taken) (adds : y.own ≡ with_step past x v.own.own) (carried : List (ℕ × Cell)) where
    abbrev pub z_words : State (Unit {0}) Outlook
    z_words = record { words = set (take n_words s.words) at_word left; homes = map hidden s.homes; views = set (map own_of s.views) id y }

    module _ (stepped_words : TableHolds b.layout z_words) where
      abbrev next : FrameHolder
      next = record v { own = y }

      abbrev pub done : State Cell FrameHolder
      done = stepped s at_word left id carried next keeps

      seen_then : get_elem? (whole_views (map own_of s.views)) id ≡ some v.own.own
      seen_then = there_own b.layout (inner b s) holds.words id v.own own_at here

      views_are : whole_views (set (map own_of s.views) id y) ≡ set (whole_views (map own_of s.views)) id (with_step past x v.own.own)
      views_are = views_after b.layout (inner b s) holds.words id v.own own_at here y took_none ∙ ap (λ (u : View). set (whole_views (map own_of s.views)) id u) adds

      abbrev by_step : State (Unit {0}) View
      by_step = stepped (whole (inner b s)) at_word left id [] (with_step past x v.own.own) keeps

      shown_then : Shows b.layout by_step
      shown_then = subst (λ (us : List View). Shows b.layout (record { words = set (take n_words s.words) at_word left; homes = map hidden s.homes; views = us })) views_are stepped_words.shown

      goes : shown_then.history ≡ (id, x) ∷ h
      goes = (taken_then b.layout (whole (inner b s)) id v.own.own x past at_word left holds.words.shown shown_then seen_then).1

      inner_done : inner b done ≡ z_words
      inner_done = λ i. record { words = take-set-lt n_words s.words at_word left before i; homes = map hidden s.homes; views = map-set own_of s.views id next i }

      words_done : TableHolds b.layout (inner b done)
      words_done = subst (TableHolds b.layout) (sym inner_done) stepped_words

      pub steps_all : HoldsAll b done
      steps_all = all_by b done words_done ((id, x) ∷ h)
          (one_history b.layout (whole (inner b done)) by_step words_done.shown shown_then ((λ i. whole_views (inner_done i).views) ∙ views_are) ∙ goes)
          (words_keep b h s holds.frames id v at x is next refl at_word left before carried)

-- the three

pub nothing_found : (b : Places) (s : State Cell FrameHolder) → HoldsAll b s → (id : ℕ) (v : FrameHolder) → get_elem? s.views id ≡ some v → (i n : ℕ) → slice_index s.words i ≡ n → (c : List (ℕ × Cell)) → HoldsAll b (stepped s i n id c v keeps)
nothing_found b s holds id v at i n is c =
    subst (λ (ws : List ℕ). HoldsAll b (record { words = ws; homes = s.homes; views = set s.views id v })) (sym (ap (set s.words i) (sym is) ∙ word_again s.words i))
    (subst (λ (vs : List FrameHolder). HoldsAll b (record { words = s.words; homes = s.homes; views = vs })) (sym (set_again s.views id v at)) holds)

abbrev IsMe : Me Cell FrameHolder → Me Cell FrameHolder → Type 0
IsMe m n = m ≡ n

-- the frame was taken by a step that leaves k in its lock word
takes_by : (b : Places) (s : State Cell FrameHolder) → HoldsAll b s → (id : ℕ) (me : Me Cell FrameHolder) → get_elem? s.views id ≡ some me.0 → (q : ℕ) (n : FrameAt) → IsNamed b q n → q < length b.names → (k : ℕ) → k ≢ 0
    → slice_index s.words (lock_place b q) ≡ 0
    → (w : FrameHolder) × (a : Act Cell) × Valid s.homes me.1 a × HoldsAll b (stepped s (lock_place b q) k id me.1 w a) × TookAt b n q me (w, carried_after me.1 a)
takes_by b s holds id me at q n named lt k busy none_has = let y : FrameState = made b holds.words.shown.history n in
    (holding n q y me.0, takes q (Some y), there b s holds id me.0 at q n named lt none_has k busy me.1, locked b s holds id me.0 at q n named lt none_has k busy me.1, (y, refl, refl, refl, named))

is_none : (word : ℕ) → (word == 0) ≡ true → word ≡ 0
is_none word e = grind (arith, nat_tests)

a_number_is_busy : (k : ℕ) → suc k ≢ 0
a_number_is_busy k e = omega arith

locks_by : (b : Places) (s : State Cell FrameHolder) → HoldsAll b s → (id : ℕ) (me : Me Cell FrameHolder) → get_elem? s.views id ≡ some me.0 → (q : ℕ) (n : FrameAt) → IsNamed b q n → q < length b.names → (word : ℕ) → slice_index s.words (lock_place b q) ≡ word → (t : Bool) → (word == 0) ≡ t
    → (w : FrameHolder) × (a : Act Cell) × Valid s.homes me.1 a × HoldsAll b (stepped s (lock_place b q) (either t 1 word) id me.1 w a)
    × MatchBool t (TookAt b n q me (w, carried_after me.1 a)) (IsMe (w, carried_after me.1 a) me)
locks_by b s holds id me at q n named lt word is true e = takes_by b s holds id me at q n named lt 1 (a_number_is_busy 0) (is ∙ is_none word e)
locks_by b s holds id me at q n named lt word is false e = (me.0, keeps, tt, nothing_found b s holds id me.0 at (lock_place b q) word is me.1, refl)

pub locks : FramesAreLocked
locks b slots id me q n named lt s holds many at bound = locks_by b s holds id me at q n named lt (slice_index s.words (lock_place b q)) refl (slice_index s.words (lock_place b q) == 0) refl

awaits_by : (b : Places) (s : State Cell FrameHolder) → HoldsAll b s → (id : ℕ) (me : Me Cell FrameHolder) → get_elem? s.views id ≡ some me.0 → (q : ℕ) (n : FrameAt) → IsNamed b q n → q < length b.names → (word : ℕ) → slice_index s.words (lock_place b q) ≡ word → (t : Bool) → (word == 0) ≡ t
    → (w : FrameHolder) × (a : Act Cell) × Valid s.homes me.1 a × HoldsAll b (stepped s (lock_place b q) 2 id me.1 w a)
    × MatchBool t (TookAt b n q me (w, carried_after me.1 a)) (IsMe (w, carried_after me.1 a) me)
awaits_by b s holds id me at q n named lt word is true e = takes_by b s holds id me at q n named lt 2 (a_number_is_busy 1) (is ∙ is_none word e)
awaits_by b s holds id me at q n named lt word is false e = (me.0, keeps, tt, waits b s holds id me.0 at q n named lt 2 (a_number_is_busy 1) me.1, refl)

pub awaits : FramesAreAwaited
awaits b slots id me q n named lt s holds many at bound = awaits_by b s holds id me at q n named lt (slice_index s.words (lock_place b q)) refl (slice_index s.words (lock_place b q) == 0) refl

pub frees : FramesAreFreed
frees b slots id me q n named x hs has y c out m is by_held here s holds many at bound = (
  frame_holder_after holds.words.shown.history (Frame n.0 n.1 m) hs me.0,
  gives,
  tt,
  subst (λ (z : List (ℕ × Cell)). HoldsAll b (stepped s (lock_place b q) 0 id z (frame_holder_after holds.words.shown.history (Frame n.0 n.1 m) hs me.0) gives)) (sym out)
      (frees_all b s holds id me.0 at q n named x hs has m y is by_held here c),
  (holds.words.shown.history, refl, accesses_frame b s holds id me.0 at q n named x hs has m y is by_held here c, λ x' q' among a nm. holds.frames.values id me.0 (q', x') a at among nm),
)

pub steps : WordsAreStepped
steps b slots id me at f d st here before on allows s holds many found bound =
    let n_words : ℕ = header_place b.layout.domains in let ws : List ℕ = take n_words s.words in
    let word_is : slice_index ws at ≡ slice_index s.words at = take_same n_words s.words at before in
    let r = allows (inner b s) holds.words (length-map s.homes hidden ∙ many) (at_map own_of s.views id me.0 found) (subst (λ (n : ℕ). n < 18446744073709551616) (sym word_is) bound) in
    let still = nothing_moves s.homes r.1 r.2 in
    let y : Outlook = r.0 in
    let told = r.4 in
    let at_end : TableHolds b.layout (record { words = set ws at (f (slice_index ws at)); homes = map hidden s.homes; views = set (map own_of s.views) id y }) =
    subst (λ (hs : List (Maybe (Unit {0}))). TableHolds b.layout (record { words = set ws at (f (slice_index ws at)); homes = hs; views = set (map own_of s.views) id y })) still.0 r.3 in
    let says : promises_own d st (me.0.own, []) (slice_index s.words at) (y, []) = subst (λ (n : ℕ). promises_own d st (me.0.own, []) n (y, [])) word_is ((refl, told.0.1), told.1, told.2) in (
      record me.0 { own = y },
      keeps,
      tt,
      steps_all b s holds id me.0 found here at (f (slice_index s.words at)) before says.0.1.0 (d.step (slice_index s.words at)) (on (slice_index s.words at)) y says.1 says.0.1.1 me.1
          (subst (λ (n : ℕ). TableHolds b.layout (record { words = set ws at (f n); homes = map hidden s.homes; views = set (map own_of s.views) id y })) word_is at_end),
      (says, refl, refl, refl),
    )

pub returns : FramesAreReturned
returns b slots id me q n named x hs has c out s holds many at bound = (
  record me.0 { held = hs },
  gives,
  tt,
  subst (λ (z : List (ℕ × Cell)). HoldsAll b (stepped s (lock_place b q) 0 id z (record me.0 { held = hs }) gives)) (sym out) (returns_all b s holds id me.0 at q n named x hs has c),
  refl,
)

pub raises : FlagsMayBeRaised
raises b slots id me f here s holds many at bound = let x : SeatStep = Flag f Raised in (
  record me.0 { own = outlook_after holds.words.shown.history x me.0.own },
  keeps,
  tt,
  flagged_all b s holds id me.0 at x tt here f 1 me.1 (raise_keeps b holds.words.shown.history s holds.frames id me.0 at f _ refl me.1),
  (holds.words.shown.history, refl, accesses b s holds id me.0 at x tt here tt),
)

looks_by : (b : Places) (s : State Cell FrameHolder) (holds : HoldsAll b s) (id : ℕ) (me : Me Cell FrameHolder) → get_elem? s.views id ≡ some me.0 → (f : ℕ) → me.0.own.gone ≡ false → (word : ℕ) → slice_index s.words (flag_place b f) ≡ word → (t : Bool) → (word == 0) ≡ t
    → (w : FrameHolder) × (a : Act Cell) × Valid s.homes me.1 a × HoldsAll b (stepped s (flag_place b f) word id me.1 w a)
    × MatchBool t (IsMe (w, carried_after me.1 a) me) (AddsStep b.layout (Flag f Passed) me (w, carried_after me.1 a))
looks_by b s holds id me at f here word is true e = (me.0, keeps, tt, nothing_found b s holds id me.0 at (flag_place b f) word is me.1, refl)
looks_by b s holds id me at f here word is false e =
    let x : SeatStep = Flag f Passed in let h = holds.words.shown.history in let some_word : word ≢ 0 = (λ z. let n : (word == 0) ≡ true = eq-eqb word 0 z in cc) in (
      record me.0 { own = outlook_after h x me.0.own },
      keeps,
      tt,
      flagged_all b s holds id me.0 at x tt here f word me.1 (pass_keeps b h s holds.frames id me.0 at f word is some_word _ refl me.1),
      (h, refl, accesses b s holds id me.0 at x tt here (holds.frames.flags f (λ none. some_word (sym is ∙ none)))),
    )

pub passes : FlagsArePassed
passes b slots id me f here s holds many at bound = looks_by b s holds id me at f here (slice_index s.words (flag_place b f)) refl (slice_index s.words (flag_place b f) == 0) refl
