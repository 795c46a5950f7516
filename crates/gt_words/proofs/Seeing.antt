-- What a seat saw of an entry is of its owner's list: each step of the history said the word that was there.
use Rattle.std.proofs.Common.{◌≡◌, ◌⊎◌, inl, inr, ⊎_elim, ℕ, ◌<◌, ◌==◌, ◌&&◌, Bool, true, cond, List, []}
use Rattle.std.proofs.Common.{◌∷◌, map, get_or, sym, refl, ap, ◌∙◌, subst, arith, eq-eqb}
use mathlib.Core.Option.{some}
use mathlib.Core.Logic.{dite}
use native.Mathlib.Decide.{ℕ_discrete}
use lib.ListN.{get_elem?}
use Rattle.atomic_table.specs.Table.{State}
use Rattle.gt_types.specs.declared.Dir.TheVariants.{Read, Write}
use Rattle.gt_types.specs.declared.limits.TheConstants.{TABLE_ENTRIES}
use Rattle.gt_words.proofs.HistorySteps.{same_part}
use Rattle.gt_word_history.proofs.Order.{apart_test}
use Rattle.gt_words.proofs.Lifts.{inside, part_there_is}
use Rattle.gt_words.proofs.Looking.{saw_grown, saw_more}
use Rattle.gt_word_history.proofs.Order.{part_else, part_here}
use Rattle.gt_word_history.specs.History.{StepHistory, RecordsWord, RecordsFound, part_of, word_place_of, word_after, word_on}
use Rattle.gt_words.specs.Laws.{WhatWasSeenIsListed}
use Rattle.gt_word_history.specs.Rule.{HasStood, IsLawful, Layout, ShowsRecord, Stands, owner_steps, place, total_pins}
use Rattle.gt_words.specs.Sight.{SawRecord}
use Rattle.gt_word_history.specs.Views.{earlier_records, entry_steps, last_record, seen, steps_on}
use Rattle.gt_word_history.specs.declared.view.EntryStep.{EntryStep}
use Rattle.gt_word_history.specs.declared.view.SeatStep.{SeatStep}
use Rattle.gt_word_history.specs.declared.view.SeatStep.TheVariants.{Entry, Flag, Frame, Header}
use Rattle.gt_word_history.specs.declared.view.View.{View}

module _ (k : Layout) (t r : ℕ) where
  -- the steps on the entry of the seat at a position, out of a history
  abbrev on : ℕ → StepHistory → List EntryStep
  on i h = entry_steps t r (part_of i h)

  -- what the seat at the position i saw, against the owner's list
  abbrev Saw : ℕ → StepHistory → Type 0
  Saw i h = SawRecord (last_record k.first (on t h)) (earlier_records k.first (on t h)) (seen (on i h))

  -- the owner's list is lawful
  abbrev Lawful : StepHistory → Type 0
  Lawful h = IsLawful (last_record k.first (on t h)) (earlier_records k.first (on t h))

  -- the words of the entry that a history makes
  abbrev words : StepHistory → ℕ → ℕ
  words h j = word_after k h (place t r j)

  -- the owner's list as words and views show it that stand, by the words that the history makes
  shown_by : {S : Type 0} → t < k.domains → r < TABLE_ENTRIES → (h : StepHistory) (z : State S View) → Stands k h z → ShowsRecord (last_record k.first (on t h)) (earlier_records k.first (on t h)) (words h 0) (words h 1) (words h 2) (map (steps_on t r) z.views)
  shown_by tn rn h z st = let is : (j : ℕ) → j < 3 → get_or z.words (place t r j) 0 ≡ words h j = λ j jn. st.led_here.words (place t r j) (inside k.domains t r j tn rn jn) in
      let a = is 0 (omega arith) in let b = is 1 (omega arith) in let c = is 2 (omega arith) in let own = part_there_is k h z st.led_here t r t in
      subst (λ (u : ℕ × ℕ × ℕ × List EntryStep). ShowsRecord (last_record k.first u.3) (earlier_records k.first u.3) u.0 u.1 u.2 (map (steps_on t r) z.views)) (λ i. (a i, b i, c i, own i)) (st.entries t r tn rn).record_shown

  module _ (i j : ℕ) (x : SeatStep) (h : StepHistory) (saw : Saw i h) where
    -- a step that is not on the entry
    elsewhere : ((l : List SeatStep) → entry_steps t r (x ∷ l) ≡ entry_steps t r l) → Saw i ((j, x) ∷ h)
    elsewhere off = let own = same_part t r j x h off t in let here = same_part t r j x h off i in
        subst (λ (u : List EntryStep × List EntryStep). SawRecord (last_record k.first u.0) (earlier_records k.first u.0) (seen u.1)) (λ z. (sym own z, sym here z)) saw

    module _ (m : EntryStep) (adds : (l : List SeatStep) → entry_steps t r (x ∷ l) ≡ m ∷ entry_steps t r l) where
      -- the step is one more of its seat's, and none of another's
      one_more : (u : ℕ) → (on u ((j, x) ∷ h) ≡ m ∷ on u h) ⊎ (on u ((j, x) ∷ h) ≡ on u h)
      one_more u = dite (ℕ_discrete j u)
          (λ e. inl (subst (λ (z : ℕ). on z ((j, x) ∷ h) ≡ m ∷ on z h) e (ap (entry_steps t r) (part_here j x h) ∙ adds (part_of j h))))
          (λ n. inr (ap (entry_steps t r) (part_else j x h u n)))

      -- a step on the entry
      here : {S : Type 0} (z : State S View) → t < k.domains → r < TABLE_ENTRIES → Stands k h z → RecordsFound m (words h (word_on m)) → Lawful ((j, x) ∷ h) → Saw i ((j, x) ∷ h)
      here z tn rn st says lawful = let f = shown_by tn rn h z st in let g : ℕ = k.first in let own : List EntryStep = on t h in let hs : List (List EntryStep) = map (steps_on t r) z.views in
          let more : SawRecord (last_record g own) (earlier_records g own) (seen (on i ((j, x) ∷ h))) =
          ⊎_elim (λ (e : on i ((j, x) ∷ h) ≡ m ∷ on i h). subst (λ (l : List EntryStep). SawRecord (last_record g own) (earlier_records g own) (seen l)) (sym e)
          (saw_more (last_record g own) (earlier_records g own) (words h) (total_pins Read hs) (total_pins Write hs) f.in_range f.spelled f.body m (on i h) says saw))
          (λ (e : on i ((j, x) ∷ h) ≡ on i h). subst (λ (l : List EntryStep). SawRecord (last_record g own) (earlier_records g own) (seen l)) (sym e) saw) (one_more i) in
          ⊎_elim (λ (e : on t ((j, x) ∷ h) ≡ m ∷ own). subst (λ (l : List EntryStep). SawRecord (last_record g l) (earlier_records g l) (seen (on i ((j, x) ∷ h)))) (sym e)
          (saw_grown g own m (seen (on i ((j, x) ∷ h))) (subst (λ (l : List EntryStep). IsLawful (last_record g l) (earlier_records g l)) e lawful) more))
          (λ (e : on t ((j, x) ∷ h) ≡ own). subst (λ (l : List EntryStep). SawRecord (last_record g l) (earlier_records g l) (seen (on i ((j, x) ∷ h)))) (sym e) more) (one_more t)

  -- one more step of the history, which says the word that was there
  one_step : {S : Type 0} (i j : ℕ) (x : SeatStep) (h : StepHistory) (z : State S View) → t < k.domains → r < TABLE_ENTRIES → Stands k h z → RecordsWord x (word_after k h (word_place_of x)) → Lawful ((j, x) ∷ h) → Saw i h → Saw i ((j, x) ∷ h)
  one_step i j (Header d m) h z tn rn st says lawful saw = elsewhere i j (Header d m) h saw (λ l. refl)
  one_step i j (Frame d q m) h z tn rn st says lawful saw = elsewhere i j (Frame d q m) h saw (λ l. refl)
  one_step i j (Flag f m) h z tn rn st says lawful saw = elsewhere i j (Flag f m) h saw (λ l. refl)
  one_step i j (Entry d q m) h z tn rn st says lawful saw = dite (ℕ_discrete d t)
      (λ e. dite (ℕ_discrete q r) (λ f. same e f) (λ n. else (λ _ g. n g)))
      (λ n. else (λ g _. n g))
    where
      same : d ≡ t → q ≡ r → Saw i ((j, Entry d q m) ∷ h)
      same e f = let b : ((d == t) && (q == r)) ≡ true = λ u. eq-eqb d t e u && eq-eqb q r f u in
          here i j (Entry d q m) h saw m (λ l. ap (λ (c : Bool). cond c (m ∷ entry_steps t r l) (entry_steps t r l)) b) z tn rn st (subst (λ (u : ℕ × ℕ). RecordsFound m (word_after k h (place u.0 u.1 (word_on m)))) (λ u. (e u, f u)) says) lawful

      else : (d ≡ t → q ≡ r → ⊥) → Saw i ((j, Entry d q m) ∷ h)
      else n = elsewhere i j (Entry d q m) h saw (λ l. ap (λ (c : Bool). cond c (m ∷ entry_steps t r l) (entry_steps t r l)) (apart_test d q t r n))

  saw_by : {S : Type 0} → t < k.domains → r < TABLE_ENTRIES → (i : ℕ) (h : StepHistory) (z : State S View) → Stands k h z → HasStood S k h → Saw i h
  saw_by tn rn i [] z st stood = tt
  saw_by tn rn i (p ∷ h) z st stood = one_step i p.0 p.1 h stood.0.0 tn rn stood.0.1 st.led_here.true_steps.0 (shown_by tn rn (p ∷ h) z st).lawful (saw_by tn rn i h stood.0.0 stood.0.1 stood.1)

-- what a seat saw of an entry, where words and views stand, and did before each step
pub saw_there : {S : Type 0} (k : Layout) (h : StepHistory) (s : State S View) → Stands k h s → HasStood S k h → (i : ℕ) (v : View) → get_elem? s.views i ≡ some v → (t r : ℕ) → t < k.domains → r < TABLE_ENTRIES
    → SawRecord (last_record k.first (owner_steps t (map (steps_on t r) s.views))) (earlier_records k.first (owner_steps t (map (steps_on t r) s.views))) (seen (steps_on t r v))
saw_there k h s st stood i v at t r tn rn = let own = part_there_is k h s st.led_here t r t in let here = (st.led_here.parts i v at).0 in
    subst (λ (u : List EntryStep × List EntryStep). SawRecord (last_record k.first u.0) (earlier_records k.first u.0) (seen u.1)) (λ z. (sym own z, sym (ap (entry_steps t r) here) z)) (saw_by k t r tn rn i h s st stood)

pub saw_listed : WhatWasSeenIsListed
saw_listed k s i v t r shown at tn rn = saw_there k shown.history s shown.now shown.stood i v at t r tn rn
