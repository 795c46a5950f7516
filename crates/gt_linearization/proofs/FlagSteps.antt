-- A step on a flag and a look leave words, bytes and records, and a flag that the history raised is raised in the order.
use Rattle.std.proofs.Common.{◌≡◌, ℕ, [], ◌∷◌, inl, inr, refl, sym, ap, ◌∙◌, subst}
use Rattle.gt_word_history.specs.Flags.{IsRaised, Raises}
use Rattle.gt_word_history.specs.History.{Layout, StepHistory, body_word_index, left_by}
use Rattle.gt_word_history.specs.Rule.{header_place, place}
use Rattle.gt_word_history.specs.declared.view.EntryRecord.{EntryRecord}
use Rattle.gt_word_history.specs.declared.view.EntryStep.TheVariants.{Looked}
use Rattle.gt_word_history.specs.declared.view.FlagStep.{FlagStep}
use Rattle.gt_word_history.specs.declared.view.FlagStep.TheVariants.{Passed, Raised}
use Rattle.gt_word_history.specs.declared.view.SeatStep.{SeatStep}
use Rattle.gt_word_history.specs.declared.view.SeatStep.TheVariants.{Entry, Flag, Frame, Header}
use Rattle.gt_model.specs.declared.action.Step.{Step}
use Rattle.gt_model.specs.declared.action.Step.TheVariants.{Exchange, LookBody, LookControl, LookHeader, Pin, StoreBody}
use Rattle.gt_model.specs.declared.action.Step.TheVariants.{StoreHeader, Unpin}
use Rattle.gt_model.specs.declared.action.Step.TheVariants as call_steps
use Rattle.gt_model.specs.History.{History, Setting}
use Rattle.gt_model.specs.declared.trace.ItemEvent.{ItemEvent}
use Rattle.gt_model.specs.declared.trace.ItemEvent.TheVariants.{Began, Stepped}
use Rattle.gt_linearization.proofs.Places.{ChangesNothing, record-kept, word-kept}
use Rattle.gt_linearization.specs.Agreeing.{Agree, IsThe}
use Rattle.gt_linearization.specs.Ordering.{AreStepsOf, IsRaisedIn, RunOrder, ThenSteps}
use Rattle.gt_linearization.specs.Ordering.Occurrence.{OfCore, OfFlag, OfLook}

agree-kept : (s : Setting) (k : Layout) (g : History) (h : StepHistory) (i : ℕ) (x : SeatStep) → ((n : ℕ) → left_by x n ≡ n) → ChangesNothing x → Agree s k g h → Agree s k g ((i, x) ∷ h)
agree-kept s k g h i x leaves same agree = record {
  words = λ t r l lt. agree.words t r l lt ∙ sym (word-kept k i x h (place t r 0) leaves);
  bodies = λ t r body_word l lt. agree.bodies t r body_word l lt ∙ sym (word-kept k i x h (place t r (body_word_index body_word)) leaves);
  headers = λ t l. agree.headers t l ∙ sym (word-kept k i x h (header_place t) leaves);
  entries = λ t r l lt. agree.entries t r l lt ∙ ap (λ (z : EntryRecord). z.entry) (sym (record-kept k i x h t r same));
  generations = λ t r l lt. agree.generations t r l lt ∙ ap (λ (z : EntryRecord). z.generation) (sym (record-kept k i x h t r same));
}

pub agree-on-flag : (s : Setting) (k : Layout) (g : History) (h : StepHistory) (i flag : ℕ) (m : FlagStep) → Agree s k g h → Agree s k g ((i, Flag flag m) ∷ h)
agree-on-flag s k g h i flag m agree = agree-kept s k g h i (Flag flag m) (λ n. refl) tt agree

pub agree-on-look : (s : Setting) (k : Layout) (g : History) (h : StepHistory) (i t r n : ℕ) → Agree s k g h → Agree s k g ((i, Entry t r (Looked n)) ∷ h)
agree-on-look s k g h i t r n agree = agree-kept s k g h i (Entry t r (Looked n)) (λ m. refl) tt agree

-- a step of a call is none on a flag
not-flag : (k : Layout) (i : ℕ) (step : Step) (flag : ℕ) (m : FlagStep) → IsThe k i step (Flag flag m) → ⊥
not-flag k i (LookHeader dom) flag m the = the
not-flag k i (LookControl dom gref) flag m the = the
not-flag k i (LookBody dom gref body_word) flag m the = the
not-flag k i (Pin p) flag m the = the
not-flag k i (Unpin p holder) flag m the = the
not-flag k i (StoreBody gref body_word word) flag m the = the
not-flag k i (StoreHeader version frames) flag m the = the
not-flag k i (Exchange gref looked change) flag m the = the
not-flag k i (call_steps.Read dom frame off len) flag m the = the
not-flag k i (call_steps.Write dom frame off len) flag m the = the
not-flag k i (call_steps.Copy from to len) flag m the = the

raises-none : (k : Layout) (i : ℕ) (step : Step) (x : SeatStep) (flag : ℕ) → IsThe k i step x → Raises flag x → ⊥
raises-none k i step (Entry t r m) flag the raises = raises
raises-none k i step (Header t m) flag the raises = raises
raises-none k i step (Frame t f m) flag the raises = raises
raises-none k i step (Flag f m) flag the raises = not-flag k i step f m the

-- a flag that the history raised is raised in the order of its steps
pub raised-in : (k : Layout) (o : RunOrder) (h : StepHistory) (flag : ℕ) → AreStepsOf k o h → IsRaised flag h → IsRaisedIn flag o
raised-in k [] h flag steps raised = subst (IsRaised flag) steps raised
raised-in k (OfCore i ∷ o) h flag steps raised = by (raised-in k o) i.happened h steps raised
  where
    by : ((h' : StepHistory) (f : ℕ) → AreStepsOf k o h' → IsRaised f h' → IsRaisedIn f o) → (e : ItemEvent) (h' : StepHistory) → ThenSteps k i.actor e (AreStepsOf k o) h' → IsRaised flag h' → IsRaisedIn flag o
    by rec (Began request) h' then is = rec h' flag then is
    by rec (Stepped step seen) [] then is = absurd then
    by rec (Stepped step seen) (p ∷ h') then (inl here) = absurd (raises-none k p.0 step p.1 flag then.1 here)
    by rec (Stepped step seen) (p ∷ h') then (inr before) = rec h' flag then.3 before
raised-in k (OfFlag d f m ∷ o) [] flag steps raised = absurd steps
raised-in k (OfFlag d f Raised ∷ o) (p ∷ h) flag steps (inl here) = inl (subst (Raises flag) steps.1 here)
raised-in k (OfFlag d f Raised ∷ o) (p ∷ h) flag steps (inr before) = inr (raised-in k o h flag steps.2 before)
raised-in k (OfFlag d f Passed ∷ o) (p ∷ h) flag steps (inl here) = absurd (subst (Raises flag) steps.1 here)
raised-in k (OfFlag d f Passed ∷ o) (p ∷ h) flag steps (inr before) = raised-in k o h flag steps.2 before
raised-in k (OfLook d gref word ∷ o) [] flag steps raised = absurd steps
raised-in k (OfLook d gref word ∷ o) (p ∷ h) flag steps (inl here) = absurd (raises-none k p.0 (LookControl d gref) p.1 flag steps.1 here)
raised-in k (OfLook d gref word ∷ o) (p ∷ h) flag steps (inr before) = raised-in k o h flag steps.3 before
