-- The answer of a call, by its last step.
use Rattle.gt_core.proofs.Words.{◌≡◌, ◌⊎◌, inl, inr, ℕ, refl, Bool, true, false, List, [], ◌∷◌, length, Option, Some}
use Rattle.gt_core.proofs.Words.{cond, sym, ap, ◌∙◌, subst, eqb-true, ◌==◌, nat_lt, DomId, GrantRef, Denial, N18, N19}
use Rattle.gt_core.proofs.Words.{Entry, Header, EntryChange, control_of, header_of, header_word, HeldPin, OpenRequest}
use Rattle.gt_core.proofs.Words.{Map, Observation, Taken, Missed, CallResult, Granted, Given, Refused, Step, LookHeader}
use Rattle.gt_core.proofs.Words.{Unpin, StoreBody, Exchange, Action, Done, PinPurpose, Mapping, Phase, Storing}
use Rattle.gt_core.proofs.Words.{StoringSecond, Exchanging, Looking, Changing, Walking, Accessing, Asking, Last, Ending}
use Rattle.gt_core.proofs.Words.{Leg, LegPhase, Pinning, Pinned, last_first, pins_so_far, CallerKnowledge, path}
use Rattle.gt_core.proofs.Words.{held_of, is_stopped, Continuation, IsLegFor, RestsOnWord, RestsOnRequest, phase_after}
use Rattle.gt_core.proofs.Words.{action_at, leg_after, leg_step, after_store, refused_as, next_to_give, HasShown}
use Rattle.gt_core.proofs.Words.{IsQuiet, IsTurn, held_in, State, History, Setting, word_at, table_at, known_at}
use Rattle.gt_core.proofs.Words.{seen_by, StepsSoFar, GivesValue, PhaseStands, EndsAfter, EndsCopy, answer_with}
use Rattle.gt_core.proofs.Words.{MAX_TABLE_FRAMES, ◌-◌, without_last, Size, Version, cond_both, first_body, second_body}
use Rattle.gt_core.proofs.Words.{CopyArgs, LookControl, CallPins, LegStands, legs_at, numbered, pins_at, reverse, arith}
use Rattle.gt_core.proofs.Words.{stands}
use Rattle.gt_model.specs.declared.action.Action.TheVariants as actions
use Rattle.gt_model.specs.declared.trace.Answer.TheVariants as answers
use Rattle.gt_model.specs.declared.change.BodyWord.TheVariants as body_words
use Rattle.gt_model.specs.declared.action.Step.TheVariants as call_steps
use Rattle.gt_model.specs.declared.request.PinHolder.TheVariants as holders
use Rattle.gt_model.specs.declared.action.HeaderQuery.TheVariants as queries
use Rattle.gt_core.proofs.{Phases.OfAction, Phases.IsHere, Phases.makes-same, EachStep.walk-comes, Legs.ComesTo}
use Rattle.gt_core.proofs.{Legs.IsLegOf, Legs.Words, PinPurposes.pair_of, PinPurposes.leg-here, Phases.words-of, Phases.next_of}
use Rattle.gt_core.proofs.{Outcomes.walk-done, Steps.See.table-fits}
use Rattle.gt_model.specs.declared.action.CallResult.TheVariants.{Mapped}
use Rattle.gt_model.specs.Path.{end_spot}
use Rattle.gt_calls.specs.Resting.{IsCopyOf}

-- the next phase of a call that queries a header
abbrev Next : Setting → History → DomId → Phase → Step → CallResult → Type 0
Next s h d p step v = action_at d (next_of s h d p step) ≡ Done v

-- a map ends with the pin that it took
pub record MapEnds (s : Setting) (h : History) (d : DomId) (r : OpenRequest) (phase : Phase) (step : Step) (m : HeldPin) : Type 0 where
  pub is : step ≡ call_steps.Pin m
  pub taken : word_at s h m.dom.0 m.gref.0 ≡ m.word
  pub dom : DomId
  pub gref : GrantRef
  pub flags : ℕ
  pub of_map : r ≡ Map dom gref flags
  pub none : held_in phase ≡ []

-- what holds for a call that ends with this result
abbrev pub EndsWith : Setting → History → DomId → OpenRequest → Phase → Step → CallResult → Type 0
EndsWith s h d r phase step Granted = ((dom : DomId) (frame off len : ℕ) → step ≡ call_steps.Read dom frame off len → ⊥) → GivesValue s h d r (Some step) answers.Done
EndsWith s h d r phase step (Given value) = GivesValue s h d r (Some step) (answer_with value)
EndsWith s h d r phase step (Mapped m) = MapEnds s h d r phase step m
EndsWith s h d r phase step (Refused denial) = Unit {0}

granted : (s : Setting) (h : History) (d : DomId) (r q : OpenRequest) (step : Step) → r ≡ q → GivesValue s h d q (Some step) answers.Done → GivesValue s h d r (Some step) answers.Done
granted s h d r q step is g = subst (λ (z : OpenRequest). GivesValue s h d z (Some step) answers.Done) (sym is) g

copied : (s : Setting) (h : History) (d : DomId) (r : OpenRequest) (c : CopyArgs) (step : Step) → IsCopyOf r c → GivesValue s h d r (Some step) answers.Done
copied s h d r c step (inl is) = granted s h d r _ step is refl
copied s h d r c step (inr is) = granted s h d r _ step is refl

-- by its last step
last-ends : (s : Setting) (h : History) (d : DomId) (r : OpenRequest) (phase : Phase) (last : Step) (verdict : CallResult) → IsQuiet last → RestsOnRequest (known_at s h d) d r last → EndsAfter r last verdict → EndsWith s h d r phase last verdict
last-ends s h d r phase last verdict q a b = grind arith

last-next : (s : Setting) (h : History) (d : DomId) (last : Step) (verdict v : CallResult) → IsQuiet last → Next s h d (Last last verdict) last v → verdict ≡ v
last-next s h d last verdict v q = grind arith

turn-value : (s : Setting) (h : History) (d : DomId) (r : OpenRequest) (gref : GrantRef) (change : EntryChange) (step : Option Step) → IsTurn r gref change → GivesValue s h d r step answers.Done
turn-value s h d r gref change step a = grind arith

once-value : (s : Setting) (h : History) (way : Continuation) (d : DomId) (r : OpenRequest) (shown : List Observation) (so_far : StepsSoFar) (gref : GrantRef) (looked : ℕ) (change : EntryChange) (step : Option Step) → RestsOnWord (known_at s h d) way d r shown gref looked change
    → PhaseStands s h d r so_far (Exchanging gref looked change) → GivesValue s h d r step answers.Done
once-value s h way d r shown so_far gref looked change step a b = grind arith

-- what holds for the end in a phase, if it is one
abbrev AtEnd : (CallResult → Type 0) → Action → Type 0
AtEnd Q (actions.Step step) = Unit {0}
AtEnd Q (Done v) = Q v

-- an end by Ok or by a refusal
abbrev Plain : (CallResult → Type 0) → Type 0
Plain Q = Q Granted × ((denial : Denial) → Q (Refused denial))

store-end : (Q : CallResult → Type 0) (k : CallerKnowledge) (d : DomId) (gref : GrantRef) (entry : Entry) → AtEnd Q (action_at d (after_store k gref entry))
store-end Q k d gref entry = grind arith

give-end : (Q : CallResult → Type 0) (held : List HeldPin) (v : CallResult) → Q v → AtEnd Q (next_to_give held v)
give-end Q held v a = grind arith

at-end : (Q : CallResult → Type 0) (a : Action) (v : CallResult) → AtEnd Q a → a ≡ Done v → Q v
at-end Q a v q e = subst (AtEnd Q) e q

copy-end : (Q : CallResult → Type 0) (v : CallResult) → EndsCopy v → Plain Q → Q v
copy-end Q v e plain = grind arith

pinned-leg : (s : Setting) (h : History) (d : DomId) (r : OpenRequest) (so_far : StepsSoFar) (pin_purpose : PinPurpose) (l : Leg) (at : LegPhase) (m : HeldPin) → Words s h l → IsLegFor (known_at s h d) d r pin_purpose l → IsLegOf s h d r l (pair_of d pin_purpose) → LegStands s h l so_far at
    → leg_after l at (seen_by s h d (leg_step l at)) ≡ Pinned m → (leg_step l at ≡ call_steps.Pin m) × (word_at s h m.dom.0 m.gref.0 ≡ m.word)
pinned-leg s h d r so_far pin_purpose l (Pinning more word body second) m ws is leg a e = by (word_at s h l.dom.0 l.gref.0 == word) refl where
  q : HeldPin
  q = held_of l word body second

  by : (b : Bool) → (word_at s h l.dom.0 l.gref.0 == word) ≡ b → (call_steps.Pin q ≡ call_steps.Pin m) × (word_at s h m.dom.0 m.gref.0 ≡ m.word)
  by true same =
      let f : Pinned q ≡ Pinned m = sym (ap (λ (b : Bool). leg_after l (Pinning more word body second) (cond b Taken (Missed (word_at s h l.dom.0 l.gref.0)))) same) ∙ e in
      let p : q ≡ m = cc in
      (ap call_steps.Pin p, subst (λ (z : HeldPin). word_at s h z.dom.0 z.gref.0 ≡ z.word) p (eqb-true (word_at s h l.dom.0 l.gref.0) word same))
  by false same = absurd (subst (ComesTo s h l _ _) e (walk-comes s h d r so_far pin_purpose l (Pinning more word body second) ws is leg a same))
pinned-leg s h d r so_far pin_purpose l at m ws is leg a e = absurd (subst (ComesTo s h l _ _) e (walk-comes s h d r so_far pin_purpose l at ws is leg a tt))

of-map : (k : CallerKnowledge) (d : DomId) (r : OpenRequest) (pin_purpose : PinPurpose) (l : Leg) → IsLegFor k d r pin_purpose l → pin_purpose ≡ Mapping → (dom : DomId) × (gref : GrantRef) × (flags : ℕ) × (r ≡ Map dom gref flags)
of-map k d r pin_purpose l a is = grind arith

-- a call in this phase that ends after its step ends like this
pub call-ends : (s : Setting) (h : History) (xs : List State) (d : DomId) (r : OpenRequest) (shown : List Observation) (so_far : StepsSoFar) (phase : Phase) (step : Step) → IsHere s h xs d r shown so_far phase step
    → (v : CallResult) → Next s h d phase step v → EndsWith s h d r phase step v
call-ends s h xs d r shown so_far phase step i = subst (OfAction (Led phase)) i.acts (by phase i.at.has_shown i.place i.acts i.held) where
  k : CallerKnowledge
  k = known_at s h d

  w : GrantRef → ℕ
  w gref = word_at s h d.0 gref.0

  Led : Phase → Step → Type 0
  Led p z = (v : CallResult) → Next s h d p z v → EndsWith s h d r p z v

  led : (p : Phase) (z : Step) → AtEnd (EndsWith s h d r p z) (action_at d (next_of s h d p z)) → Led p z
  led p z q v n = at-end (EndsWith s h d r p z) _ v q n

  walked : (pin_purpose : PinPurpose) (l : Leg) (at : LegPhase) (v : CallResult) → IsLegFor k d r pin_purpose l → IsLegOf s h d r l (pair_of d pin_purpose) → LegStands s h l so_far at
      → ((denial : Denial) × (v ≡ Refused denial)) ⊎ ((p : HeldPin) × (v ≡ Mapped p) × (leg_after l at (seen_by s h d (leg_step l at)) ≡ Pinned p) × (pin_purpose ≡ Mapping)) → EndsWith s h d r (Walking pin_purpose l at) (leg_step l at) v
  walked pin_purpose l at v is leg stands (inl x) = subst (EndsWith s h d r (Walking pin_purpose l at) (leg_step l at)) (sym x.1) tt
  walked pin_purpose l at v is leg stands (inr x) = let g = pinned-leg s h d r so_far pin_purpose l at x.0 (words-of s h xs l i.legal i.st) is leg stands x.2 in let map = of-map k d r pin_purpose l is x.3 in subst (EndsWith s h d r (Walking pin_purpose l at) (leg_step l at)) (sym x.1)
      (record { is = g.0; taken = g.1; dom = map.0; gref = map.1; flags = map.2; of_map = map.3; none = ap (λ (z : PinPurpose). last_first (pins_so_far z)) x.3 })

  ending : (pins : CallPins) (verdict : CallResult) (held : List HeldPin) → next_to_give held verdict ≡ actions.Step step → (copy : CopyArgs) × IsCopyOf r copy × EndsCopy verdict → Led (Ending pins verdict) step
  ending pins verdict [] f c = cc
  ending pins verdict (q ∷ qs) f c = let z = Unpin q (holders.Leg (length qs)) in let Q = EndsWith s h d r (Ending pins verdict) z in subst (Led (Ending pins verdict)) (makes-same z step f)
      (led (Ending pins verdict) z (give-end Q (last_first (without_last pins)) verdict (copy-end Q verdict c.2 (λ read. copied s h d r c.0 z c.1, λ denial. tt))))

  by : (p : Phase) → HasShown k (path k d r) d r shown p → PhaseStands s h d r so_far p → action_at d p ≡ actions.Step step → legs_at h d.0 ≡ numbered 0 (reverse (last_first (pins_at p))) → OfAction (Led p) (action_at d p)
  by (Storing gref entry) a b e held = led (Storing gref entry) (StoreBody gref body_words.First (first_body entry)) (store-end _ k d gref entry)
  by (StoringSecond gref entry) a b e held = led (StoringSecond gref entry) (StoreBody gref body_words.Second (second_body entry)) tt
  by (Exchanging gref looked change) a b e held = let z = Exchange gref looked change in let Q = EndsWith s h d r (Exchanging gref looked change) z in led (Exchanging gref looked change) z
      (cond_both (w gref == looked) Taken (Missed (w gref)) (λ v. AtEnd Q (action_at d (phase_after k d (Exchanging gref looked change) v))) (λ y read. once-value s h (path k d r) d r shown so_far gref looked change (Some z) a b) (λ y. tt))
  by (Looking gref change more) a b e held = let Q = EndsWith s h d r (Looking gref change more) (LookControl d gref) in led (Looking gref change more) (LookControl d gref)
      (cond_both (is_stopped change (control_of (w gref))) (refused_as d gref N19 (w gref)) (Changing gref change more (w gref)) (λ p. AtEnd Q (action_at d p)) (λ y. tt) (λ y. tt))
  by (Changing gref change more looked) a b e held = let z = Exchange gref looked change in let Q = EndsWith s h d r (Changing gref change more looked) z in led (Changing gref change more looked) z
      (cond_both (w gref == looked) Taken (Missed (w gref)) (λ v. AtEnd Q (action_at d (phase_after k d (Changing gref change more looked) v))) (λ y read. turn-value s h d r gref change (Some z) a.1)
      (λ y. cond_both (nat_lt 0 more) (Looking gref change (more - 1)) (refused_as d gref N18 (w gref)) (λ p. AtEnd Q (action_at d p)) (λ x. tt) (λ x. tt)))
  by (Walking pin_purpose l at) a b e held = λ v n. walked pin_purpose l at v a.1 (leg-here s h d r pin_purpose l a.1 held) b.1 (walk-done k d pin_purpose l (leg_after l at (seen_by s h d (leg_step l at))) v n)
  by (Accessing c source dest) a b e held = let z = call_steps.Copy (end_spot d c.source source) (end_spot d c.dest dest) c.len in
      led (Accessing c source dest) z (give-end (EndsWith s h d r (Accessing c source dest) z) (last_first (record { source = source; dest = dest })) Granted (λ read. copied s h d r c z a.0))
  by (Asking dom queries.Size) a b e held = let t = header_of (header_word (table_at s h dom)) in led (Asking dom queries.Size) (LookHeader dom)
      (subst (λ (z : OpenRequest). GivesValue s h d z (Some (LookHeader dom)) (Size (record { frames = t.frames; max = MAX_TABLE_FRAMES }))) (sym b.1)
      (ap (λ (x : Header). Size (record { frames = x.frames; max = MAX_TABLE_FRAMES })) (table-fits _ (i.st.tables dom)).1))
  by (Asking dom queries.Version) a b e held = let t = header_of (header_word (table_at s h dom)) in led (Asking dom queries.Version) (LookHeader dom)
      (subst (λ (z : OpenRequest). GivesValue s h d z (Some (LookHeader dom)) (Version t.version)) (sym b.1) (ap (λ (x : Header). Version x.version) (table-fits _ (i.st.tables dom)).1))
  by (Last last verdict) a b e held = λ v n. subst (EndsWith s h d r (Last last verdict) last) (last-next s h d last verdict v a.0 n) (last-ends s h d r (Last last verdict) last verdict a.0 a.1 b)
  by (Ending pins verdict) a (inl none) e held = absurd (let f : Done verdict ≡ actions.Step step = sym (ap (λ (l : List HeldPin). next_to_give l verdict) none) ∙ e in cc)
  by (Ending pins verdict) a (inr c) e held = subst (OfAction (Led (Ending pins verdict))) (sym e) (ending pins verdict (last_first pins) e c)
