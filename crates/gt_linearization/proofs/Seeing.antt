-- What a step of the words says is what the core's step sees.
use Rattle.std.proofs.Common.{◌≡◌, ◌≢◌, ℕ, ◌<◌, Bool, cond, sym, refl, ap, ◌∙◌, eq-eqb, ne_eqb}
use Rattle.gt_types.specs.declared.DomId.{DomId}
use Rattle.gt_types.specs.declared.config.Config.{Config}
use Rattle.gt_types.specs.declared.limits.TheConstants.{TABLE_ENTRIES}
use Rattle.gt_model.specs.Words.{header_word}
use Rattle.gt_model.specs.declared.change.BodyWord.{BodyWord}
use Rattle.gt_words.specs.Conditions.{HasDomain}
use Rattle.gt_word_history.specs.History.{StepHistory, Layout, RecordsWord, body_word_index, word_place_of, word_after}
use Rattle.gt_word_history.specs.Rule.{header_place, layout_of, place, position_in}
use Rattle.gt_word_history.specs.declared.view.EntryStep.TheVariants.{Looked, ReadBody, Pinned, PinMissed, Unpinned}
use Rattle.gt_word_history.specs.declared.view.EntryStep.TheVariants.{StoredBody, Changed, ChangeMissed}
use Rattle.gt_word_history.specs.declared.view.HeaderStep.TheVariants as header
use Rattle.gt_word_history.specs.declared.view.SeatStep.{SeatStep}
use Rattle.gt_word_history.specs.declared.view.SeatStep.TheVariants.{Entry, Header}
use Rattle.gt_model.specs.declared.action.Observation.TheVariants.{Word, Taken, Missed}
use Rattle.gt_model.specs.declared.action.Step.{Step}
use Rattle.gt_model.specs.declared.action.Step.TheVariants.{LookHeader, LookControl, LookBody, Unpin, StoreBody}
use Rattle.gt_model.specs.declared.action.Step.TheVariants.{StoreHeader, Exchange}
use Rattle.gt_model.specs.declared.action.Step.TheVariants as call_steps
use Rattle.gt_model.specs.History.{History, Setting, body_at, exchange_sees, seen_by, table_at, word_at, setting_of}
use Rattle.gt_live.specs.Walks.{seen_in_step}
use Rattle.gt_linearization.proofs.Places.{dom-there}
use Rattle.gt_linearization.specs.Agreeing.{Agree, IsThe, IsWithin, dom_at}
use Rattle.gt_linearization.specs.Laws.{CoreSeesTheWords}

module _ (c : Config) (s : Setting) (k : Layout) (g : History) (h : StepHistory) (i : ℕ) (is : k ≡ layout_of c) (agree : Agree s k g h) (inside : i < k.domains) where
  -- the words of another domain, and of the actor's own

  pub header-there : (d : DomId) (t : ℕ) → HasDomain k d → t ≡ position_in k.ids d → header_word (table_at s g d) ≡ word_after k h (header_place t)
  header-there d t has at = let p = dom-there c k d t is has at in ap (λ (z : DomId). header_word (table_at s g z)) (sym p.0) ∙ agree.headers t p.1

  pub word-there : (d : DomId) (t r q : ℕ) → HasDomain k d → q < TABLE_ENTRIES → t ≡ position_in k.ids d → r ≡ q → word_at s g d.0 q ≡ word_after k h (place t r 0)
  word-there d t r q has lt at e = let p = dom-there c k d t is has at in
      ap (λ (z : DomId). word_at s g z.0 q) (sym p.0) ∙ (agree.words t q p.1 lt ∙ ap (λ (z : ℕ). word_after k h (place t z 0)) (sym e))

  pub body-there : (d : DomId) (t r q : ℕ) (body_word : BodyWord) → HasDomain k d → q < TABLE_ENTRIES → t ≡ position_in k.ids d → r ≡ q → body_at g d.0 q body_word ≡ word_after k h (place t r (body_word_index body_word))
  body-there d t r q body_word has lt at e = let p = dom-there c k d t is has at in
      ap (λ (z : DomId). body_at g z.0 q body_word) (sym p.0) ∙ (agree.bodies t q body_word p.1 lt ∙ ap (λ (z : ℕ). word_after k h (place t z (body_word_index body_word))) (sym e))

  pub own-word : (t r q : ℕ) → q < TABLE_ENTRIES → t ≡ i → r ≡ q → word_at s g (dom_at k i).0 q ≡ word_after k h (place t r 0)
  own-word t r q lt at e = agree.words i q inside lt ∙ (λ z. word_after k h (place (sym at z) (sym e z) 0))

  taken : (w looked e : ℕ) → w ≡ e → e ≡ looked → exchange_sees w looked ≡ Taken
  taken w looked e a b = ap (λ (z : Bool). cond z Taken (Missed w)) (eq-eqb w looked (a ∙ b))

  missed : (w looked e n : ℕ) → w ≡ n → n ≢ e → e ≡ looked → exchange_sees w looked ≡ Missed n
  missed w looked e n a b f = ap (λ (z : Bool). cond z Taken (Missed w)) (ne_eqb w looked (λ y. b (sym a ∙ (y ∙ sym f)))) ∙ ap (λ (z : ℕ). Missed z) a

  pub sees : (step : Step) (x : SeatStep) → IsWithin k step → IsThe k i step x → RecordsWord x (word_after k h (word_place_of x)) → seen_by s g (dom_at k i) step ≡ seen_in_step x
  sees (LookHeader d) (Header t (header.Looked n)) w a b = ap (λ (z : ℕ). Word z) (header-there d t w a ∙ sym b)
  sees (LookControl d q) (Entry t r (Looked n)) w a b = ap (λ (z : ℕ). Word z) (word-there d t r q.0 w.0 w.1 a.0 a.1 ∙ sym b)
  sees (LookBody d q body_word) (Entry t r (ReadBody z n)) w a b =
      ap (λ (z : ℕ). Word z) (body-there d t r q.0 body_word w.0 w.1 a.0 a.1 ∙ (ap (λ (y : BodyWord). word_after k h (place t r (body_word_index y))) (sym a.2) ∙ sym b))
  sees (call_steps.Pin p) (Entry t r (Pinned d e y)) w a b = taken _ p.word e (word-there p.dom t r p.gref.0 w.0 w.1 a.0 a.1 ∙ sym b) a.3
  sees (call_steps.Pin p) (Entry t r (PinMissed d e f n)) w a b = missed _ p.word e n (word-there p.dom t r p.gref.0 w.0 w.1 a.0 a.1 ∙ sym b.0) b.1 a.3
  sees (Unpin p holder) (Entry t r (Unpinned d y)) w a b = refl
  sees (StoreBody q body_word n) (Entry t r (StoredBody z m)) w a b = refl
  sees (StoreHeader version frames) (Header t (header.Stored n)) w a b = refl
  sees (Exchange q looked change) (Entry t r (Changed z e n y)) w a b = taken _ looked e (own-word t r q.0 w a.0 a.1 ∙ sym b) a.3
  sees (Exchange q looked change) (Entry t r (ChangeMissed z e f n)) w a b = missed _ looked e n (own-word t r q.0 w a.0 a.1 ∙ sym b.0) b.1 a.3
  sees (call_steps.Read dom frame off len) x w a b = absurd w
  sees (call_steps.Write dom frame off len) x w a b = absurd w
  sees (call_steps.Copy from to len) x w a b = absurd w
  sees step x w a b = absurd a

pub core-sees : CoreSeesTheWords
core-sees c may k g h i step x is agree inside within the says = sees c (setting_of c may) k g h i is agree inside step x within the says
