-- After a revocation, and after a publication, no view has a pin of the record that was there.
use Rattle.std.proofs.Common.{◌≡◌, inl, inr, ℕ, suc, ◌<◌, ◌≤◌, Bool, true, false, cond, List, [], ◌∷◌, ◌++◌, map, sym}
use Rattle.std.proofs.Common.{refl, ap, ◌∙◌, subst, arith}
use Rattle.std.specs.Prelude.{◌==◌, ◌&&◌}
use mathlib.Core.Option.{some}
use lib.ListN.{get_elem?}
use Rattle.atomic_table.proofs.Lists.{at_map}
use Rattle.atomic_table.specs.Table.{State}
use Rattle.gt_types.specs.declared.Dir.{Dir}
use Rattle.gt_types.specs.declared.Dir.TheVariants.{Read, Write}
use Rattle.gt_types.specs.declared.limits.TheConstants.{TABLE_ENTRIES}
use Rattle.gt_model.specs.declared.change.EntryChange.{EntryChange}
use Rattle.gt_words.proofs.Lists.{whose_at}
use Rattle.gt_words.proofs.Past.{pins_left}
use Rattle.gt_words.proofs.Records.{legal_record, spelled_parts}
use Rattle.gt_words.proofs.StepFacts.{owners_entry}
use Rattle.gt_words.specs.Answers.{Changes}
use Rattle.gt_words.specs.Conditions.{HasNoPins}
use Rattle.gt_word_history.specs.Controls.{generation_of, pins_in}
use Rattle.gt_words.specs.Laws.{NoPinOutlivesItsRecord}
use Rattle.gt_word_history.specs.Rule.{Layout, Shows, owner_steps, total_pins}
use Rattle.gt_word_history.specs.Steps.{changed, changed_word}
use Rattle.gt_word_history.specs.Views.{IsAmong, LivePin, earlier_records, entry_steps, exchanged, last_of, pin_count}
use Rattle.gt_word_history.specs.Views.{live_pins, steps_on}
use Rattle.gt_word_history.specs.declared.view.EntryRecord.{EntryRecord}
use Rattle.gt_word_history.specs.declared.view.EntryStep.{EntryStep}
use Rattle.gt_word_history.specs.declared.view.EntryStep.TheVariants.{Changed}
use Rattle.gt_word_history.specs.declared.view.SeatStep.{SeatStep}
use Rattle.gt_word_history.specs.declared.view.SeatStep.TheVariants as seat_steps
use Rattle.gt_word_history.specs.declared.view.View.{View}

-- where no view has a pin, none is counted
none_held : (d : Dir) (t r : ℕ) (vs : List View) → ((i : ℕ) (v : View) → get_elem? vs i ≡ some v → live_pins (steps_on t r v) ≡ []) → total_pins d (map (steps_on t r) vs) ≡ 0
none_held d t r [] none = refl
none_held d t r (v ∷ vs) none = let a : pin_count d (live_pins (steps_on t r v)) ≡ 0 = ap (pin_count d) (none 0 v refl) in
    let b : total_pins d (map (steps_on t r) vs) ≡ 0 = none_held d t r vs (λ i u e. none (suc i) u e) in omega arith

-- a word that was exchanged stays one
one_more : (e : ℕ) (m : EntryStep) (ms : List EntryStep) → IsAmong e (exchanged ms) → IsAmong e (exchanged (m ∷ ms))
one_more e (Changed c f n x) ms is = inr is
one_more e m ms is = is

still_exchanged : (e t r : ℕ) (later steps : List SeatStep) → IsAmong e (exchanged (entry_steps t r steps)) → IsAmong e (exchanged (entry_steps t r (later ++ steps)))
still_exchanged e t r [] steps is = is
still_exchanged e t r (seat_steps.Entry d q m ∷ later) steps is = by ((d == t) && (q == r)) (still_exchanged e t r later steps is) where
  by : (b : Bool) → IsAmong e (exchanged (entry_steps t r (later ++ steps))) → IsAmong e (exchanged (cond b (m ∷ entry_steps t r (later ++ steps)) (entry_steps t r (later ++ steps))))
  by true there = one_more e m (entry_steps t r (later ++ steps)) there
  by false there = there
still_exchanged e t r (seat_steps.Header d m ∷ later) steps is = still_exchanged e t r later steps is
still_exchanged e t r (seat_steps.Frame d q m ∷ later) steps is = still_exchanged e t r later steps is
still_exchanged e t r (seat_steps.Flag f m ∷ later) steps is = still_exchanged e t r later steps is

module _ (k : Layout) (r word : ℕ) (c : EntryChange) (v w : View) (z : Changes k r c word v w) (none : HasNoPins v.position r z.steps.past) (vn : v.position < k.domains) (rn : r < TABLE_ENTRIES) where
  abbrev all : List (List EntryStep)
  all = map (steps_on v.position r) z.steps.step.stood.0.views

  -- no view had a pin then
  none_there : (i : ℕ) (u : View) → get_elem? z.steps.step.stood.0.views i ≡ some u → live_pins (steps_on v.position r u) ≡ []
  none_there i u e = ap (λ (steps : List SeatStep). live_pins (entry_steps v.position r steps)) (z.steps.step.stood.1.led_here.parts i u e).0 ∙ none i

  -- the word that was exchanged is of the record that was there, and counts no pin
  counted : (d : Dir) → (pins_in d word ≡ 0) × (generation_of word ≡ (last_of r v).generation)
  counted d = let x : EntryRecord = last_of r v in
      let f = owners_entry k v.position r (Changed c word (changed_word c x word) (changed c x)) word (changed_word c x word) v w vn rn z.steps refl in
      let parts = spelled_parts x.entry x.generation (total_pins Read all) (total_pins Write all) (legal_record x (earlier_records v.first (steps_on v.position r v)) f.lawful).0 f.in_range in (
        by d (ap (pins_in Read) f.spelled ∙ (parts.reads ∙ none_held Read v.position r z.steps.step.stood.0.views none_there))
            (ap (pins_in Write) f.spelled ∙ (parts.writes ∙ none_held Write v.position r z.steps.step.stood.0.views none_there)),
        ap generation_of f.spelled ∙ parts.generation,
      )
    where
      by : (d : Dir) → pins_in Read word ≡ 0 → pins_in Write word ≡ 0 → pins_in d word ≡ 0
      by Read a b = a
      by Write a b = b

  outlives_not : (s : State (Unit {0}) View) (i : ℕ) (u x : View) (later : List SeatStep) (p : LivePin) → Shows k s → get_elem? s.views v.position ≡ some u → u.steps ≡ later ++ w.steps → get_elem? s.views i ≡ some x
      → IsAmong p (live_pins (steps_on v.position r x)) → (last_of r v).generation < p.1.generation
  outlives_not s i u x later p shown owner went at is =
      let here : IsAmong word (exchanged (steps_on v.position r w)) = subst (λ (ms : List EntryStep). IsAmong word (exchanged ms)) (sym z.steps.adds.here) (inl refl) in
      let there : IsAmong word (exchanged (steps_on v.position r u)) = subst (λ (steps : List SeatStep). IsAmong word (exchanged (entry_steps v.position r steps))) (sym went) (still_exchanged word v.position r later w.steps here) in
      let own : owner_steps v.position (map (steps_on v.position r) s.views) ≡ steps_on v.position r u = whose_at (map (steps_on v.position r) s.views) v.position (steps_on v.position r u) (at_map (steps_on v.position r) s.views v.position u owner) in
      let gone : IsAmong word (exchanged (owner_steps v.position (map (steps_on v.position r) s.views))) = subst (λ (ms : List EntryStep). IsAmong word (exchanged ms)) (sym own) there in
      let left : p.1.generation ≤ generation_of word → 0 < pins_in p.0 word = pins_left k s i x v.position r word p shown at vn rn is gone in
      let a = (counted p.0).0 in let b = (counted p.0).1 in grind (arith, left)

-- no view has a pin of the record that was there
pub none_outlives : NoPinOutlivesItsRecord
none_outlives k s r word i v w u x later p (inl z) vn rn shown owner went at is = outlives_not k r word _ v w z.changes z.no_pins vn rn s i u x later p shown owner went at is
none_outlives k s r word i v w u x later p (inr z) vn rn shown owner went at is = outlives_not k r word _ v w z.1.changes z.1.no_pins vn rn s i u x later p shown owner went at is
