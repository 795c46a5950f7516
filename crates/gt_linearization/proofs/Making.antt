-- What a call's step is among the steps of the history.
use Rattle.std.proofs.Common.{◌≡◌, ℕ, refl, sym, ap, ◌∙◌, subst, [], ◌∷◌, get_or, map, arith, ◌<◌}
use Rattle.atomic_table.proofs.Lists.{at_map}
use Rattle.gt_model.specs.declared.change.EntryChange.{EntryChange}
use Rattle.gt_model.specs.declared.change.EntryChange.TheVariants.{Publish, Revoke, Withdraw, Demote, Promote}
use Rattle.gt_words.proofs.Lists.{whose_at}
use Rattle.gt_word_history.specs.History.{StepHistory, Layout, Moment, RecordsWord, word_place_of, word_after}
use Rattle.gt_word_history.specs.Rule.{header_place}
use Rattle.gt_word_history.specs.Steps.{StoodWith, TakesStep, changed, changed_word}
use Rattle.gt_word_history.specs.Views.{entry_steps, last_of, last_record, own_header, steps_on_header, with_step}
use Rattle.gt_word_history.specs.Views.{stored_header}
use Rattle.gt_word_history.specs.declared.view.EntryRecord.{EntryRecord}
use Rattle.gt_word_history.specs.declared.view.SeatStep.{SeatStep}
use Rattle.gt_word_history.specs.declared.view.View.{View}
use Rattle.gt_model.specs.declared.action.Observation.{Observation}
use Rattle.gt_model.specs.declared.action.Observation.TheVariants.{Nothing, Word, Taken, Missed}
use Rattle.gt_model.specs.declared.action.Step.{Step}
use Rattle.gt_model.specs.declared.action.Step.TheVariants.{LookHeader, LookControl, LookBody, Pin, Unpin, StoreBody}
use Rattle.gt_model.specs.declared.action.Step.TheVariants.{StoreHeader, Exchange}
use Rattle.gt_model.specs.declared.action.Step.TheVariants as call_steps
use Rattle.gt_core.specs.GoingOn.{AccessesNoBytes}
use Rattle.gt_live.specs.Walks.{Made, seen_in_step}
use Rattle.gt_linearization.specs.Agreeing.{IsThe, StoresChange, last_at}

-- a step of a call was made so: it is this step of its seat, taken after these steps of all seats
pub record MadeAs (k : Layout) (i : ℕ) (step : Step) (seen : Observation) (v w : View) (x : Moment) : Type 0 where
  pub view : w ≡ with_step x.0 x.1 v
  pub the : IsThe k i step x.1
  pub shows : seen_in_step x.1 ≡ seen
  pub stores : StoresChange k x.0 x.1
  pub recorded : RecordsWord x.1 (word_after k x.0 (word_place_of x.1))
  pub stood : StoodWith (Unit {0}) k x.0 v
  pub stands : StoodWith (Unit {0}) k ((v.position, x.1) ∷ x.0) w

-- the owner's last record by its own steps is that of the history
last-is : (k : Layout) (r : ℕ) (v : View) (past : StepHistory) → StoodWith (Unit {0}) k past v → last_of r v ≡ last_at k v.position r past
last-is k r v past stood = let p = stood.1.led_here.parts v.position v stood.2 in let q = stood.1.seats v.position v stood.2 in
    λ j. last_record (q.1 j) (entry_steps v.position r (p.0 j))

module _ (k : Layout) (i : ℕ) (v w : View) (at : v.position ≡ i) where
  made : (step : Step) (seen : Observation) (past : StepHistory) (x : SeatStep) (found left : ℕ) → w ≡ with_step past x v → TakesStep (Unit {0}) k v past x (word_place_of x) found left → IsThe k i step x → seen_in_step x ≡ seen → StoresChange k past x
      → (y : Moment) × MadeAs k i step seen v w y
  made step seen past x found left view takes the shows stores = (
    (past, x),
    record {
      view = view;
      the = the;
      shows = shows;
      stores = stores;
      recorded = subst (RecordsWord x) (sym takes.found_is) takes.recorded;
      stood = takes.stood;
      stands = subst (StoodWith (Unit {0}) k ((v.position, x) ∷ past)) (sym view) takes.still_stands;
    },
  )

  -- an exchange that was taken stores what its change makes of the last record
  stored : (q : ℕ) (word : ℕ) (change : EntryChange) (past : StepHistory) → StoodWith (Unit {0}) k past v
      → (changed_word change (last_of q v) word ≡ changed_word change (last_at k v.position q past) word) × (changed change (last_of q v) ≡ changed change (last_at k v.position q past))
  stored q word change past stood = let e = last-is k q v past stood in (ap (λ (z : EntryRecord). changed_word change z word) e, ap (λ (z : EntryRecord). changed change z) e)

  pub made-as : (step : Step) (seen : Observation) → Made k step seen v w → (x : Moment) × MadeAs k i step seen v w x
  made-as (LookHeader d) (Word n) m = made _ _ _ _ _ _ m.steps.adds.view m.steps.step refl refl tt
  made-as (LookControl d q) (Word n) m = made _ _ _ _ _ _ m.0.steps.adds.view m.0.steps.step (refl, refl) refl tt
  made-as (LookBody d q body_word) (Word n) m = made _ _ _ _ _ _ m.steps.adds.view m.steps.step (refl, refl, refl) refl tt
  made-as (Pin p) Taken m = made _ _ _ _ _ _ m.steps.adds.view m.steps.step (refl, refl, refl, refl) refl tt
  made-as (Pin p) (Missed n) m = made _ _ _ _ _ _ m.steps.adds.view m.steps.step (refl, refl, refl, refl) refl tt
  made-as (Unpin p holder) Nothing m = made _ _ _ _ _ _ m.steps.adds.view m.steps.step (refl, refl, refl, refl) refl tt
  made-as (StoreBody q body_word n) Nothing m = made _ _ _ _ _ _ m.steps.adds.view m.steps.step (at, refl, refl, refl) refl tt
  made-as (StoreHeader version frames) Nothing m = made _ _ _ _ _ _ m.steps.adds.view m.steps.step (at, refl) refl tt
  made-as (Exchange q looked (Publish e)) Taken m = made _ _ _ _ _ _ m.changes.steps.adds.view m.changes.steps.step (at, refl, refl, refl) refl (stored q.0 looked (Publish e) _ m.changes.steps.step.stood)
  made-as (Exchange q looked (Publish e)) (Missed n) m = made _ _ _ _ _ _ m.missed.steps.adds.view m.missed.steps.step (at, refl, refl, refl) refl tt
  made-as (Exchange q looked Revoke) Taken m = made _ _ _ _ _ _ m.changes.steps.adds.view m.changes.steps.step (at, refl, refl, refl) refl (stored q.0 looked Revoke _ m.changes.steps.step.stood)
  made-as (Exchange q looked Revoke) (Missed n) m = made _ _ _ _ _ _ m.missed.steps.adds.view m.missed.steps.step (at, refl, refl, refl) refl tt
  made-as (Exchange q looked Withdraw) Taken m = made _ _ _ _ _ _ m.steps.adds.view m.steps.step (at, refl, refl, refl) refl (stored q.0 looked Withdraw _ m.steps.step.stood)
  made-as (Exchange q looked Withdraw) (Missed n) m = made _ _ _ _ _ _ m.steps.adds.view m.steps.step (at, refl, refl, refl) refl tt
  made-as (Exchange q looked Demote) Taken m = made _ _ _ _ _ _ m.changes.steps.adds.view m.changes.steps.step (at, refl, refl, refl) refl (stored q.0 looked Demote _ m.changes.steps.step.stood)
  made-as (Exchange q looked Demote) (Missed n) m = made _ _ _ _ _ _ m.steps.adds.view m.steps.step (at, refl, refl, refl) refl tt
  made-as (Exchange q looked Promote) Taken m = made _ _ _ _ _ _ m.steps.adds.view m.steps.step (at, refl, refl, refl) refl (stored q.0 looked Promote _ m.steps.step.stood)
  made-as (Exchange q looked Promote) (Missed n) m = made _ _ _ _ _ _ m.steps.adds.view m.steps.step (at, refl, refl, refl) refl tt
  made-as _ _ m = absurd m

-- a step that was made is on words
pub on-words : (k : Layout) (step : Step) (seen : Observation) (v w : View) → Made k step seen v w → AccessesNoBytes step
on-words k (LookHeader d) seen v w m = tt
on-words k (LookControl d q) seen v w m = tt
on-words k (LookBody d q body_word) seen v w m = tt
on-words k (Pin p) seen v w m = tt
on-words k (Unpin p holder) seen v w m = tt
on-words k (StoreBody q body_word n) seen v w m = tt
on-words k (StoreHeader version frames) seen v w m = tt
on-words k (Exchange q looked change) seen v w m = tt
on-words k (call_steps.Read dom frame off len) (Word n) v w m = absurd m
on-words k (call_steps.Read dom frame off len) Taken v w m = absurd m
on-words k (call_steps.Read dom frame off len) (Missed n) v w m = absurd m
on-words k (call_steps.Read dom frame off len) Nothing v w m = absurd m
on-words k (call_steps.Write dom frame off len) (Word n) v w m = absurd m
on-words k (call_steps.Write dom frame off len) Taken v w m = absurd m
on-words k (call_steps.Write dom frame off len) (Missed n) v w m = absurd m
on-words k (call_steps.Write dom frame off len) Nothing v w m = absurd m
on-words k (call_steps.Copy from to len) (Word n) v w m = absurd m
on-words k (call_steps.Copy from to len) Taken v w m = absurd m
on-words k (call_steps.Copy from to len) (Missed n) v w m = absurd m
on-words k (call_steps.Copy from to len) Nothing v w m = absurd m

-- a step and what came before it are known by the view after it

abbrev first_or : SeatStep → StepHistory → SeatStep
first_or x [] = x
first_or x (p ∷ h) = p.1

abbrev rest_of : StepHistory → StepHistory
rest_of [] = []
rest_of (p ∷ h) = h

pub one-moment : (x y : Moment) (u : View) → with_step x.0 x.1 u ≡ with_step y.0 y.1 u → x ≡ y
one-moment x y u e =
    let same = ap (λ (w : View). w.past) e in let rest = ap rest_of same in let head = ap (first_or x.1) same in
    λ i. (rest i, head i)

-- the header in the words is the one that its domain stored last
pub header-is : (k : Layout) (h : StepHistory) (v : View) → StoodWith (Unit {0}) k h v → v.position < k.domains → word_after k h (header_place v.position) ≡ own_header v
header-is k h v stood inside =
    let p = stood.1.seats v.position v stood.2 in let n = stood.1.headers v.position inside in
    let here : get_or (map (steps_on_header v.position) stood.0.views) v.position [] ≡ steps_on_header v.position v = whose_at (map (steps_on_header v.position) stood.0.views) v.position (steps_on_header v.position v) (at_map (steps_on_header v.position) stood.0.views v.position v stood.2) in
    sym (stood.1.led_here.words (header_place v.position) (omega arith))
    ∙ (n.0 ∙ (λ j. stored_header (get_or (sym p.2 j) v.position 0) (here j)))
