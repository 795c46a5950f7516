-- What a step of a call adds to its seat's view.
use Rattle.std.proofs.Common.{◌≡◌, ℕ, ◌<◌, refl, sym, ap, ◌∙◌, subst, length, inl, inr, arith}
use Rattle.std.proofs.lemmas.Bool.{cases_eq}
use Rattle.gt_model.specs.declared.change.BodyWord.{BodyWord}
use Rattle.gt_words.specs.Conditions.{Board, IsSameSeat, IsSeatOf, Keeps, SeatOf}
use Rattle.gt_words.specs.Answers.{StoresBody}
use Rattle.gt_words.specs.Frames.{AccessesFrame}
use Rattle.gt_word_history.specs.declared.view.FrameStep.{FrameStep}
use Rattle.gt_word_history.specs.Rule.{Layout, id_at}
use Rattle.gt_word_history.specs.Views.{last_of, with_step}
use Rattle.gt_word_history.specs.Events.{TookPlace}
use Rattle.gt_word_history.specs.History.{StepHistory, Moment, RecordsWord, part_of, word_place_of}
use Rattle.gt_word_history.specs.Steps.{TakesStep}
use Rattle.gt_word_history.specs.declared.view.SeatStep.{SeatStep}
use Rattle.gt_word_history.specs.declared.view.View.{View}
use Rattle.gt_model.specs.declared.change.EntryChange.TheVariants.{Publish, Revoke, Withdraw, Demote, Promote}
use Rattle.gt_model.specs.declared.action.Observation.{Observation}
use Rattle.gt_model.specs.declared.action.Observation.TheVariants.{Nothing, Word, Taken, Missed}
use Rattle.gt_model.specs.declared.action.Step.{Step}
use Rattle.gt_model.specs.declared.action.Step.TheVariants.{LookHeader, LookControl, LookBody, Pin, Unpin, StoreBody}
use Rattle.gt_model.specs.declared.action.Step.TheVariants.{StoreHeader, Exchange}
use Rattle.gt_model.specs.Path.{FitsStep}
use Rattle.gt_live.specs.Walks.{Made, shown_by, seen_in_step}
use Rattle.gt_live.specs.Driving.{IsSame}

-- a step of a seat from one view to another, which shows this, and was taken at its moment
pub record Gains (k : Layout) (seen : Observation) (v w : View) : Type 0 where
  pub step : Moment
  pub view : w ≡ with_step step.0 step.1 v
  pub shows : shown_by step ≡ seen
  pub took : TookPlace k v.position step
  pub mine : part_of v.position step.0 ≡ v.steps

abbrev pub gained : (k : Layout) (seen : Observation) (v w : View) (past : StepHistory) (x : SeatStep) (found left : ℕ) → w ≡ with_step past x v → TakesStep (Unit {0}) k v past x (word_place_of x) found left → seen_in_step x ≡ seen → Gains k seen v w
gained k seen v w past x found left view step shows = record {
  step = (past, x);
  view = view;
  shows = shows;
  took = record { stood = (step.stood.0, step.stood.1); recorded = subst (RecordsWord x) (sym step.found_is) step.recorded; of_last = step.of_last; happens = step.happens };
  mine = sym (step.stood.1.led_here.parts v.position v step.stood.2).0;
}

unfoldable pub made-gains : (k : Layout) (s : Step) (seen : Observation) (v w : View) → Made k s seen v w → Gains k seen v w
made-gains k (LookHeader d) (Word n) v w m = gained k _ v w _ _ _ _ m.steps.adds.view m.steps.step refl
made-gains k (LookControl d q) (Word n) v w m = gained k _ v w _ _ _ _ m.0.steps.adds.view m.0.steps.step refl
made-gains k (LookBody d q body_word) (Word n) v w m = gained k _ v w _ _ _ _ m.steps.adds.view m.steps.step refl
made-gains k (Pin p) Taken v w m = gained k _ v w _ _ _ _ m.steps.adds.view m.steps.step refl
made-gains k (Pin p) (Missed n) v w m = gained k _ v w _ _ _ _ m.steps.adds.view m.steps.step refl
made-gains k (Unpin p holder) Nothing v w m = gained k _ v w _ _ _ _ m.steps.adds.view m.steps.step refl
made-gains k (StoreBody q body_word n) Nothing v w m = gained k _ v w _ _ _ _ m.steps.adds.view m.steps.step refl
made-gains k (StoreHeader version frames) Nothing v w m = gained k _ v w _ _ _ _ m.steps.adds.view m.steps.step refl
made-gains k (Exchange q looked (Publish e)) Taken v w m = gained k _ v w _ _ _ _ m.changes.steps.adds.view m.changes.steps.step refl
made-gains k (Exchange q looked (Publish e)) (Missed n) v w m = gained k _ v w _ _ _ _ m.missed.steps.adds.view m.missed.steps.step refl
made-gains k (Exchange q looked Revoke) Taken v w m = gained k _ v w _ _ _ _ m.changes.steps.adds.view m.changes.steps.step refl
made-gains k (Exchange q looked Revoke) (Missed n) v w m = gained k _ v w _ _ _ _ m.missed.steps.adds.view m.missed.steps.step refl
made-gains k (Exchange q looked Withdraw) Taken v w m = gained k _ v w _ _ _ _ m.steps.adds.view m.steps.step refl
made-gains k (Exchange q looked Withdraw) (Missed n) v w m = gained k _ v w _ _ _ _ m.steps.adds.view m.steps.step refl
made-gains k (Exchange q looked Demote) Taken v w m = gained k _ v w _ _ _ _ m.changes.steps.adds.view m.changes.steps.step refl
made-gains k (Exchange q looked Demote) (Missed n) v w m = gained k _ v w _ _ _ _ m.steps.adds.view m.steps.step refl
made-gains k (Exchange q looked Promote) Taken v w m = gained k _ v w _ _ _ _ m.steps.adds.view m.steps.step refl
made-gains k (Exchange q looked Promote) (Missed n) v w m = gained k _ v w _ _ _ _ m.steps.adds.view m.steps.step refl
made-gains k _ _ v w m = absurd m

-- what was shown is a value that the step can see
pub made-fits : (k : Layout) (s : Step) (seen : Observation) (v w : View) → Made k s seen v w → FitsStep s seen
made-fits k (LookHeader d) (Word n) v w m = tt
made-fits k (LookControl d q) (Word n) v w m = tt
made-fits k (LookBody d q body_word) (Word n) v w m = tt
made-fits k (Pin p) Taken v w m = tt
made-fits k (Pin p) (Missed n) v w m = m.another
made-fits k (Unpin p holder) Nothing v w m = refl
made-fits k (StoreBody q body_word n) Nothing v w m = refl
made-fits k (StoreHeader version frames) Nothing v w m = refl
made-fits k (Exchange q looked (Publish e)) Taken v w m = tt
made-fits k (Exchange q looked (Publish e)) (Missed n) v w m = m.missed.another
made-fits k (Exchange q looked Revoke) Taken v w m = tt
made-fits k (Exchange q looked Revoke) (Missed n) v w m = m.missed.another
made-fits k (Exchange q looked Withdraw) Taken v w m = tt
made-fits k (Exchange q looked Withdraw) (Missed n) v w m = m.another
made-fits k (Exchange q looked Demote) Taken v w m = tt
made-fits k (Exchange q looked Demote) (Missed n) v w m = m.another
made-fits k (Exchange q looked Promote) Taken v w m = tt
made-fits k (Exchange q looked Promote) (Missed n) v w m = m.another
made-fits k _ _ v w m = absurd m

-- the seat keeps what it knew
pub kept-same : (v w : View) (past : StepHistory) (s : SeatStep) → w ≡ with_step past s v → Keeps v w → IsSame v w
kept-same v w past s e keeps = record { pins = keeps.pins; records = keeps.rows.last; seen = keeps.seen; position = ap (λ (u : View). u.position) e; ids = ap (λ (u : View). u.ids) e }

-- an access keeps what the seat knew
pub accessed_same : (k : Layout) (t f : ℕ) (m : FrameStep) (v w : View) → AccessesFrame k t f m v w → IsSame v w
accessed_same k t f m v w a = kept-same v w _ _ a.view a.keeps

pub viewed_same : (v w : View) → w ≡ v → IsSame v w
viewed_same v w e = subst (λ (u : View). IsSame v u) (sym e) (record { pins = λ t r. refl; records = λ r. refl; seen = λ t r. omega arith; position = refl; ids = refl })

pub same-self : (v : View) → IsSame v v
same-self v = record { pins = λ t r. refl; records = λ r. refl; seen = λ t r. omega arith; position = refl; ids = refl }

pub same-then : (u v w : View) → IsSame u v → IsSame v w → IsSame u w
same-then u v w a b = record {
  pins = λ t r. b.pins t r ∙ a.pins t r;
  records = λ r. b.records r ∙ a.records r;
  seen = λ t r. let one = a.seen t r in let two = b.seen t r in omega (arith, one, two);
  position = b.position ∙ a.position;
  ids = b.ids ∙ a.ids;
}

-- a body word that the owner stored leaves all but that word
stored-same : (k : Layout) (q n : ℕ) (h : BodyWord) (v w : View) → StoresBody k q h n v w → IsSame v w
stored-same k q n h v w m = record {
  pins = m.pins;
  records = λ r. elim (cases_eq q r) [ inl e ↦ subst (λ (x : ℕ). last_of x w ≡ last_of x v) e m.last | inr ne ↦ m.rows.last r ne ];
  seen = m.seen;
  position = ap (λ (u : View). u.position) m.steps.adds.view;
  ids = ap (λ (u : View). u.ids) m.steps.adds.view;
}

-- a step that only looks, stores a body word or a header, or misses
abbrev pub IsLook : Step → Observation → Type 0
IsLook (Pin p) Taken = ⊥
IsLook (Unpin p holder) seen = ⊥
IsLook (Exchange q looked change) Taken = ⊥
IsLook s seen = Unit {0}

-- such a step keeps pins and records
pub look-same : (k : Layout) (s : Step) (seen : Observation) (v w : View) → Made k s seen v w → IsLook s seen → IsSame v w
look-same k (LookHeader d) (Word n) v w m l = kept-same v w _ _ m.steps.adds.view m.keeps
look-same k (LookControl d q) (Word n) v w m l = kept-same v w _ _ m.0.steps.adds.view m.0.keeps
look-same k (LookBody d q body_word) (Word n) v w m l = kept-same v w _ _ m.steps.adds.view m.keeps
look-same k (Pin p) Taken v w m l = absurd l
look-same k (Pin p) (Missed n) v w m l = kept-same v w _ _ m.steps.adds.view m.keeps
look-same k (Unpin p holder) Nothing v w m l = absurd l
look-same k (StoreBody q body_word n) Nothing v w m l = stored-same k q.0 n body_word v w m
look-same k (StoreHeader version frames) Nothing v w m l = record {
  pins = m.pins;
  records = m.rows.last;
  seen = m.seen;
  position = ap (λ (u : View). u.position) m.steps.adds.view;
  ids = ap (λ (u : View). u.ids) m.steps.adds.view;
}
look-same k (Exchange q looked (Publish e)) Taken v w m l = absurd l
look-same k (Exchange q looked (Publish e)) (Missed n) v w m l = kept-same v w _ _ m.missed.steps.adds.view m.missed.keeps
look-same k (Exchange q looked Revoke) Taken v w m l = absurd l
look-same k (Exchange q looked Revoke) (Missed n) v w m l = kept-same v w _ _ m.missed.steps.adds.view m.missed.keeps
look-same k (Exchange q looked Withdraw) Taken v w m l = absurd l
look-same k (Exchange q looked Withdraw) (Missed n) v w m l = kept-same v w _ _ m.steps.adds.view m.keeps
look-same k (Exchange q looked Demote) Taken v w m l = absurd l
look-same k (Exchange q looked Demote) (Missed n) v w m l = kept-same v w _ _ m.steps.adds.view m.keeps
look-same k (Exchange q looked Promote) Taken v w m l = absurd l
look-same k (Exchange q looked Promote) (Missed n) v w m l = kept-same v w _ _ m.steps.adds.view m.keeps
look-same k _ _ v w m l = absurd m

-- the same seat is of the same words
pub still_seat : (b : Board) (s s' : SeatOf) → IsSeatOf b s → IsSameSeat s s' → IsSeatOf b s'
still_seat b s s' is same = record {
  table = same.table ∙ is.table;
  inside = subst (λ (p : ℕ). p < length b.layout.ids) (sym same.position) is.inside;
  named = ap (λ (p : ℕ). id_at b.layout.ids p) same.position ∙ (is.named ∙ sym same.dom);
  ids = same.ids ∙ is.ids;
}

pub same_seat-then : (a b c : SeatOf) → IsSameSeat a b → IsSameSeat b c → IsSameSeat a c
same_seat-then a b c x y = record {
  table = y.table ∙ x.table;
  dom = y.dom ∙ x.dom;
  position = y.position ∙ x.position;
  first = y.first ∙ x.first;
  headers = y.headers ∙ x.headers;
  ids = y.ids ∙ x.ids;
}

pub same_seat-self : (a : SeatOf) → IsSameSeat a a
same_seat-self a = record { table = refl; dom = refl; position = refl; first = refl; headers = refl; ids = refl }
