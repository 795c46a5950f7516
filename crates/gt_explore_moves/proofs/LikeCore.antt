-- A step of an open call after a history that is, but for keys, one that a core stands for.
use Rattle.gt_core.proofs.Words.{◌≡◌, ◌≢◌, inl, inr, ◌++◌, ℕ, refl, Bool, List, [], ◌∷◌, Option, Some, None, cond, sym}
use Rattle.gt_core.proofs.Words.{ap, ◌∙◌, arith, subst, eq-eqb, none-some, same_Some, take, drop, reverse, option_map}
use Rattle.gt_core.proofs.Words.{DomId, GrantRef, Denial, Header, header_word, Handle, HeldPin, OpenRequest, Map, Load}
use Rattle.gt_core.proofs.Words.{Store, Peek, Observation, Word, Taken, Missed, Action, Done, CallResult, Granted}
use Rattle.gt_core.proofs.Words.{Given, Refused, Step, LookHeader, LookControl, LookBody, Unpin, Exchange, Phase}
use Rattle.gt_core.proofs.Words.{Exchanging, Changing, Walking, Last, Ending, State, state_of, History, Setting}
use Rattle.gt_core.proofs.Words.{Underway, open_call, values, known_at, seen_by, exchange_sees, word_at, entry_at}
use Rattle.gt_core.proofs.Words.{table_at, contents_at, maps_answered_at, path, OpenAgrees, CallAgrees, StateAgrees}
use Rattle.gt_core.proofs.Words.{StepsRight, AnsweredBy, GivesValue, AreAlike, IsRun, bare_step, action_at, phase_after}
use Rattle.gt_core.proofs.Words.{last_first, refusal_in, verdict_in, stood, CallerKnowledge, HasShown, EntryChange}
use Rattle.gt_core.proofs.Words.{IsQuiet, Poke, RestsOnRequest, true, false, eqb-true, ◌==◌}
use Rattle.gt_model.specs.declared.action.Action.TheVariants as actions
use Rattle.gt_model.specs.declared.action.Step.TheVariants as call_steps
use Rattle.gt_model.specs.declared.request.PinHolder.TheVariants as holders
use Rattle.gt_model.specs.declared.action.CallResult.TheVariants as results
use Rattle.gt_core.proofs.{Phases.makes-same, Phases.by-leg, Phases.by-giving, Phases.IsHere, Phases.next_of}
use Rattle.gt_core.proofs.{Phases.seen-fits, Steps.See.state-there, WithoutKeys.bare, WithoutKeys.bared}
use Rattle.gt_core.proofs.{WithoutKeys.bare-same, WithoutKeys.bare_asked, WithoutKeys.bare_call}
use Rattle.gt_core.proofs.{WithoutKeys.values-bare, Pins.word-bare, HandlesGiven.open-known, HandlesGiven.CallKnown}
use Rattle.gt_core.proofs.{AlikeRuns.bare_action, Outcomes.IsSingle, Outcomes.single-ends, Values.call-ends}
use Rattle.gt_core.proofs.{Values.EndsWith, Steps.Pin.can-pin}
use Rattle.gt_model.proofs.Observers.{stepped}
use Rattle.gt_core.specs.Acting.{answer_with}
use Rattle.gt_core.specs.GoingOn.{CanBeReached}
use Rattle.gt_model.specs.Legal.{gives_back, next_in, refusal_of}
use Rattle.gt_model.specs.declared.trace.Answer.{Answer}
use Rattle.gt_model.specs.declared.trace.Answer.TheVariants as answers
use Rattle.gt_model.specs.declared.trace.Bytes.{Bytes}
use Rattle.gt_core.specs.declared.underway.OpenCall.{OpenCall}
use Rattle.gt_calls.proofs.Advancing.{continues}
use Rattle.gt_model.specs.declared.action.CallValue.{CallValue}
use Rattle.gt_calls.specs.Following.{FitsNext, Goes, HoldsAfter}
use Rattle.gt_model.specs.Path.{Continuation}
use Rattle.gt_explore_state.specs.Likeness.{IsLikeReached}
use Rattle.gt_explore_state.specs.Shows.{IsInRun}
use Rattle.gt_explore_state.proofs.AlikeFitting.{path-at, same-bare}
use Rattle.gt_explore_moves.specs.Ticking.{AnswersEnd}
use Rattle.gt_model.specs.Holding.{no_pins}
use Rattle.gt_calls.specs.Machine.{next_to_give, settled}
use Rattle.gt_calls.specs.Standing.{held_in}
use Rattle.gt_core.proofs.Probes.{done-settled, ends-settled}
use Rattle.gt_core.proofs.Outcomes.{ends-so}

-- without keys

seen-bare : (s : Setting) (h : History) (d : DomId) (z : Step) → seen_by s h d (bare_step z) ≡ seen_by s h d z
seen-bare s h d (Unpin p (holders.Mapping handle)) = refl
seen-bare s h d z = refl

seen-at : (s : Setting) (h : History) (d : DomId) (z : Step) → IsRun s h → seen_by s (bare h) d z ≡ seen_by s h d z
seen-at s h d (LookHeader dom) run = ap (λ (x : Header). Word (header_word x)) ((bared h).table s dom)
seen-at s h d (LookControl dom gref) run = ap (λ (w : ℕ). Word w) (word-bare s h dom.0 gref.0 run)
seen-at s h d (LookBody dom gref body_word) run = ap (λ (w : ℕ). Word w) ((bared h).body dom.0 gref.0 body_word)
seen-at s h d (call_steps.Pin p) run = ap (λ (w : ℕ). exchange_sees w p.word) (word-bare s h p.dom.0 p.gref.0 run)
seen-at s h d (Exchange gref looked change) run = ap (λ (w : ℕ). exchange_sees w looked) (word-bare s h d.0 gref.0 run)
seen-at s h d z run = refl

to-single : (z : Step) → IsSingle z → IsSingle (bare_step z)
to-single (Unpin p (holders.Mapping handle)) a = tt
to-single z a = a

from-single : (z : Step) → IsSingle (bare_step z) → IsSingle z
from-single (Unpin p (holders.Mapping handle)) a = tt
from-single z a = a

-- a step that gives up no mapping is the same without keys
abbrev HasNoKey : Step → Type 0
HasNoKey (Unpin p (holders.Mapping handle)) = ⊥
HasNoKey z = Unit {0}

no-key : (y z : Step) → HasNoKey z → bare_step z ≡ bare_step y → y ≡ z
no-key (Unpin p (holders.Mapping handle)) z n e = grind arith
no-key y z n e = grind arith

done-bare : (a : Action) (v : CallResult) → bare_action a ≡ Done v → a ≡ Done v
done-bare (actions.Step z) v e = absurd (let f : actions.Step (bare_step z) ≡ Done v = e in cc)
done-bare (Done u) v e = e

value-bare : (s : Setting) (h : History) (d : DomId) (r : OpenRequest) (z : Step) (answer : Answer) → GivesValue s h d r (Some z) answer → GivesValue s h d (bare_asked r) (Some (bare_step z)) answer
value-bare s h d r z answer g = grind arith

bare-value : (s : Setting) (h : History) (d : DomId) (r : OpenRequest) (z : Step) (answer : Answer) → GivesValue s h d (bare_asked r) (Some (bare_step z)) answer → GivesValue s h d r (Some z) answer
bare-value s h d r z answer g = grind arith

-- what a call asks that comes to an access of one range

-- it loads or peeks
abbrev IsReading : OpenRequest → Type 0
IsReading (Load handle off len) = Unit {0}
IsReading (Peek frame off len) = Unit {0}
IsReading r = ⊥

-- it stores or pokes
abbrev pub IsWriting : OpenRequest → Type 0
IsWriting (Store handle off len) = Unit {0}
IsWriting (Poke frame off len) = Unit {0}
IsWriting r = ⊥

-- it maps
abbrev pub AsksMapping : OpenRequest → Type 0
AsksMapping (Map dom gref flags) = Unit {0}
AsksMapping r = ⊥

from-reading : (r : OpenRequest) → IsReading (bare_asked r) → IsReading r
from-reading r a = grind arith

to-reading : (r : OpenRequest) → IsReading r → IsReading (bare_asked r)
to-reading r a = grind arith

from-writing : (r : OpenRequest) → IsWriting (bare_asked r) → IsWriting r
from-writing r a = grind arith

to-writing : (r : OpenRequest) → IsWriting r → IsWriting (bare_asked r)
to-writing r a = grind arith

from-mapping : (r : OpenRequest) → AsksMapping (bare_asked r) → AsksMapping r
from-mapping r a = grind arith

to-mapping : (r : OpenRequest) → AsksMapping r → AsksMapping (bare_asked r)
to-mapping r a = grind arith

-- answers

-- how a call of a run ends after its step: a map with a taken pin of the entry as it is, under the next serial; else as its
-- verdict tells
abbrev pub EndsAs : History → DomId → OpenRequest → Step → Observation → CallResult → Answer → Type 0
EndsAs h d r z seen (results.Mapped m) answer =
    (handle : Handle) × (answer ≡ answers.Mapped handle) × (handle.serial ≡ maps_answered_at h d.0) × (z ≡ call_steps.Pin m) × (seen ≡ Taken) × (entry_at h m.dom.0 m.gref.0 ≡ m.entry) × AsksMapping r
EndsAs h d r z seen v answer = AnswersEnd h z v answer

tells-value : (h : History) (z : Step) (told : CallValue) (answer : Answer) → answer ≡ answer_with told → AnswersEnd h z (Given told) answer
tells-value h (call_steps.Read dom frame off len) told answer e = e
tells-value h z told answer e = e

tells-denial : (h : History) (z : Step) (denial : Denial) (answer : Answer) → answer ≡ answers.Denied denial → AnswersEnd h z (Refused denial) answer
tells-denial h (call_steps.Read dom frame off len) denial answer e = e
tells-denial h z denial answer e = e

-- an answer that has a refusal is that
refused-so : (answer : Answer) (denial : Denial) → refusal_of answer ≡ Some denial → answer ≡ answers.Denied denial
refused-so answer denial e = grind arith

done-so : (s : Setting) (h g : History) (d : DomId) (r : OpenRequest) (z : Step) (answer : Answer) → GivesValue s g d r (Some z) answers.Done → GivesValue s h d r (Some z) answer → refusal_of answer ≡ None → answer ≡ answers.Done
done-so s h g d r z answer one other none = grind arith

value-so : (s : Setting) (h g : History) (d : DomId) (r : OpenRequest) (z : Step) (value : CallValue) (answer : Answer) → ((t : DomId) → table_at s g t ≡ table_at s h t) → GivesValue s g d r (Some z) (answer_with value) → GivesValue s h d r (Some z) answer
    → refusal_of answer ≡ None → answer ≡ answer_with value
value-so s h g d r z value answer tables one other none = grind (arith, tables)

read-so : (s : Setting) (h : History) (d : DomId) (r : OpenRequest) (dom : DomId) (frame off len : ℕ) (answer : Answer) → IsReading r → GivesValue s h d r (Some (call_steps.Read dom frame off len)) answer → refusal_of answer ≡ None
    → (b : Bytes) × (answer ≡ answers.Bytes b) × (b.bytes.items ≡ take len (drop off (contents_at h dom.0 frame)))
read-so s h d (Load handle o n) dom frame off len (answers.Bytes b) is g none = (b, refl, g)
read-so s h d (Peek f o n) dom frame off len (answers.Bytes b) is g none = (b, refl, g)
read-so s h d (Load handle o n) dom frame off len (answers.Denied denial) is g none = absurd (none-some denial (sym none))
read-so s h d (Peek f o n) dom frame off len (answers.Denied denial) is g none = absurd (none-some denial (sym none))
read-so s h d r dom frame off len answer is g none = absurd (grind arith)

mapped-so : (s : Setting) (h : History) (d : DomId) (r : OpenRequest) (m : HeldPin) (answer : Answer) → AsksMapping r → GivesValue s h d r (Some (call_steps.Pin m)) answer → refusal_of answer ≡ None
    → (handle : Handle) × (answer ≡ answers.Mapped handle) × (handle.serial ≡ maps_answered_at h d.0)
mapped-so s h d (Map dom gref flags) m (answers.Mapped handle) is g none = (handle, refl, g)
mapped-so s h d (Map dom gref flags) m (answers.Denied denial) is g none = absurd (none-some denial (sym none))
mapped-so s h d r m answer is g none = absurd (grind arith)

-- an exchange that was taken ends its call
taken-ends : (k : CallerKnowledge) (way : Continuation) (d : DomId) (r : OpenRequest) (shown : List Observation) (phase : Phase) (gref : GrantRef) (looked : ℕ) (change : EntryChange) → HasShown k way d r shown phase
    → action_at d phase ≡ actions.Step (Exchange gref looked change) → (v : CallResult) × (action_at d (phase_after k d phase Taken) ≡ Done v)
taken-ends k way d r shown (Exchanging g l c) gref looked change a e = (Granted, refl)
taken-ends k way d r shown (Changing g c more l) gref looked change a e = (Granted, refl)
taken-ends k way d r shown (Walking pin_purpose l at) gref looked change a e =
    absurd (by-leg (λ (y : Step). y ≡ Exchange gref looked change → ⊥) (λ dom f. cc) (λ dom g f. cc) (λ dom g body_word f. cc) (λ q f. cc) l at (makes-same _ _ e))
taken-ends k way d r shown (Ending pins verdict) gref looked change a e =
    absurd (by-giving (λ (y : Step). y ≡ Exchange gref looked change → ⊥) (λ q n f. cc) (last_first pins) verdict (Exchange gref looked change) e refl)
taken-ends k way d r shown (Last last verdict) gref looked change a e = absurd (subst IsQuiet (makes-same last (Exchange gref looked change) e) a.0)
taken-ends k way d r shown phase gref looked change a e = absurd (let f = makes-same _ _ e in cc)

-- an exchange that is taken has found the word that was looked at
pub same-word : (found looked : ℕ) → exchange_sees found looked ≡ Taken → found ≡ looked
same-word found looked took = by (found == looked) refl took where
  by : (b : Bool) → (found == looked) ≡ b → cond b Taken (Missed found) ≡ Taken → found ≡ looked
  by true e f = eqb-true found looked e
  by false e f = absurd (cc)

-- a step

-- what is so of a step of an open call
pub record StepInRun (s : Setting) (h : History) (d : DomId) (c : Underway) (z : Step) (seen : Observation) (answer : Option Answer) : Type 0 where
  -- if the call goes on, it is no last step, and no exchange that was taken
  pub going : (y : Step) → next_in s h d c seen ≡ Some (actions.Step y)
      → (answer ≡ None) × (IsSingle z → ⊥) × ((gref : GrantRef) (looked : ℕ) (change : EntryChange) → z ≡ Exchange gref looked change → seen ≡ Taken → ⊥)
  -- if it ends, its answer is that of its verdict
  pub ending : (v : CallResult) → next_in s h d c seen ≡ Some (Done v) → (a : Answer) × (answer ≡ Some a) × EndsAs h d c.request z seen v a
  -- only a store or a poke writes what its call was given
  pub writing : (dom : DomId) (frame off len : ℕ) → z ≡ call_steps.Write dom frame off len → IsWriting c.request
  -- a pin that is taken has the entry as it is
  pub pinning : (m : HeldPin) → z ≡ call_steps.Pin m → seen ≡ Taken → m.entry ≡ entry_at h m.dom.0 m.gref.0

none-answered : (s : Setting) (h : History) (d : DomId) (r : OpenRequest) (z : Step) (giving : Bool) (v : Option CallResult) (answer : Option Answer) (against : Option Denial) → v ≡ None → AnsweredBy s h d r (Some z) giving v answer against → answer ≡ None
none-answered s h d r z giving v answer against none by = grind arith

some-answered : (s : Setting) (h : History) (d : DomId) (r : OpenRequest) (z : Step) (giving : Bool) (v : CallResult) (answer : Option Answer) (against : Option Denial) → AnsweredBy s h d r (Some z) giving (Some v) answer against
    → (a : Answer) × (answer ≡ Some a) × (refusal_of a ≡ refusal_in (Some v)) × GivesValue s h d r (Some z) a
some-answered s h d r z giving v None against by = absurd by
some-answered s h d r z giving v (Some a) against by = (a, refl, by.0, by.2)

module _ (s : Setting) (h g : History) (alike : AreAlike s h g) (reached : CanBeReached s g) (x : State) (here : state_of reached.0.domains x.id.0 ≡ Some x)
    (c w : Underway) (o : OpenCall) (call_h : open_call h x.id.0 ≡ Some c) (call_g : open_call g x.id.0 ≡ Some w) (b : OpenAgrees s g x.id o w) (z : Step) (seen : Observation) (answer : Option Answer) (right : StepsRight s h (stepped x.id z seen answer) z seen c) where
  bares : bare h ≡ bare g
  bares = bare-same h g alike.same

  calls : bare_call c ≡ bare_call w
  calls = same_Some (bare_call c) (bare_call w) (sym ((bared h).open_calls x.id.0 ∙ ap (option_map bare_call) call_h) ∙ ap (λ (l : History). open_call l x.id.0) bares ∙ (bared g).open_calls x.id.0 ∙ ap (option_map bare_call) call_g)

  requests : bare_asked c.request ≡ bare_asked w.request
  requests = ap (λ (u : Underway). u.request) calls

  same-values : values c ≡ values w
  same-values = sym (values-bare c) ∙ ap values calls ∙ values-bare w

  same-step : bare_step z ≡ bare_step o.step
  same-step = same-bare s h g x.id c w z o.step alike call_h call_g right.continues b.follows

  stands : IsHere s g reached.0.domains x.id w.request (values w) (reverse w.steps) b.phase o.step
  stands = record { legal = reached.1.legal; st = reached.1.domains; own = λ e. none-some x (sym e ∙ here); at = b.at; acts = b.acts; place = b.place; held = b.held; rests = b.rests; fits = b.fits }

  stands-at : (y : Step) → o.step ≡ y → IsHere s g reached.0.domains x.id w.request (values w) (reverse w.steps) b.phase y
  stands-at y e = subst (IsHere s g reached.0.domains x.id w.request (values w) (reverse w.steps) b.phase) e stands

  saw : seen_by s g x.id o.step ≡ seen
  saw = sym (seen-at s g x.id o.step alike.second) ∙ ap (λ (l : History). seen_by s l x.id o.step) (sym bares) ∙ seen-at s h x.id o.step alike.first
      ∙ sym (seen-bare s h x.id o.step) ∙ ap (seen_by s h x.id) (sym same-step) ∙ seen-bare s h x.id z ∙ sym right.sees

  abbrev there : Action
  there = action_at x.id (settled w.request (next_of s g x.id b.phase o.step))

  goes-there : Goes (known_at s g x.id) (record { caller = x.id; request = w.request; phase = Some b.phase }) (seen_by s g x.id o.step)
      (record { caller = x.id; request = w.request; phase = Some (settled w.request (next_of s g x.id b.phase o.step)) }) there
  goes-there = continues (known_at s g x.id) x.id w.request (Some b.phase) (seen_by s g x.id o.step) (Some (settled w.request (next_of s g x.id b.phase o.step))) there refl refl

  fits-there : FitsNext (path (known_at s g x.id) x.id w.request (values w)) (seen_by s g x.id o.step)
  fits-there = subst (λ (p : Option Action). FitsNext p (seen_by s g x.id o.step)) (sym b.follows) (seen-fits s g x.id o.step)

  next-there : path (known_at s g x.id) x.id w.request (values w ++ seen_by s g x.id o.step ∷ []) ≡ Some there
  next-there = (goes-there.later (values w) b.at fits-there).0.follows

  -- if it ends there, its phase is an end
  next-over : (v : CallResult) → there ≡ Done v → action_at x.id (next_of s g x.id b.phase o.step) ≡ Done v
  next-over v e =
      let holds : HoldsAfter o.step (seen_by s g x.id o.step) (held_in b.phase) (held_in (settled w.request (next_of s g x.id b.phase o.step))) (Done v) =
      subst (λ (a : Action). HoldsAfter o.step (seen_by s g x.id o.step) (held_in b.phase) (held_in (settled w.request (next_of s g x.id b.phase o.step))) a) e ((goes-there.later (values w) b.at fits-there).1 (actions.Step o.step) b.follows) in
      sym (done-settled (known_at s g x.id) x.id w.request b.phase (seen_by s g x.id o.step) o.step (held_in b.phase) v b.at.may_be b.acts holds (sym e))

  -- what follows in both is the same but for keys
  next-same : option_map bare_action (next_in s h x.id c seen) ≡ Some (bare_action there)
  next-same = sym (path-at s h x.id c.request (values c ++ seen ∷ []) alike.first (subst (CallKnown h x.id.0) call_h (open-known s h x.id.0 alike.first)))
      ∙ ap (λ (l : History). option_map bare_action (path (known_at s l x.id) x.id (bare_asked c.request) (values c ++ seen ∷ []))) bares
      ∙ ap (λ (r : OpenRequest). option_map bare_action (path (known_at s (bare g) x.id) x.id r (values c ++ seen ∷ []))) requests
      ∙ ap (λ (vs : List Observation). option_map bare_action (path (known_at s (bare g) x.id) x.id (bare_asked w.request) (vs ++ seen ∷ []))) same-values
      ∙ path-at s g x.id w.request (values w ++ seen ∷ []) alike.second (subst (CallKnown g x.id.0) call_g (open-known s g x.id.0 alike.second))
      ∙ ap (λ (v : Observation). option_map bare_action (path (known_at s g x.id) x.id w.request (values w ++ v ∷ []))) (sym saw)
      ∙ ap (option_map bare_action) next-there

  not-over : (y : Step) (v : CallResult) → next_in s h x.id c seen ≡ Some (actions.Step y) → there ≡ Done v → ⊥
  not-over y v e f = let k : actions.Step (bare_step y) ≡ Done v = same_Some _ _ (sym (ap (option_map bare_action) e) ∙ next-same ∙ ap (λ (a : Action). Some (bare_action a)) f) in cc

  over : (v : CallResult) → next_in s h x.id c seen ≡ Some (Done v) → there ≡ Done v
  over v e = done-bare there v (same_Some _ _ (sym next-same ∙ ap (option_map bare_action) e))

  no-single : (y : Step) → next_in s h x.id c seen ≡ Some (actions.Step y) → IsSingle z → ⊥
  no-single y e single =
      let r = single-ends s g x.id w.request (reverse w.steps) b.phase o.step b.acts b.place (from-single o.step (subst IsSingle same-step (to-single z single))) in
      not-over y r.0 e (ap (action_at x.id) (ends-settled w.request _ no_pins r.0 r.1))

  no-taken : (y : Step) → next_in s h x.id c seen ≡ Some (actions.Step y) → (gref : GrantRef) (looked : ℕ) (change : EntryChange) → z ≡ Exchange gref looked change → seen ≡ Taken → ⊥
  no-taken y e gref looked change is taken =
      let made : o.step ≡ Exchange gref looked change = no-key o.step (Exchange gref looked change) tt (ap bare_step (sym is) ∙ same-step) in
      let r = taken-ends (known_at s g x.id) (path (known_at s g x.id) x.id w.request) x.id w.request (values w) b.phase gref looked change b.at.has_shown (b.acts ∙ ap (λ (q : Step). actions.Step q) made) in
      let done = ap (λ (v : Observation). action_at x.id (phase_after (known_at s g x.id) x.id b.phase v)) (saw ∙ taken) ∙ r.1 in
      let ends = ends-so x.id (next_of s g x.id b.phase o.step) r.0 done in
      not-over y r.0 e (ap (action_at x.id) (ends-settled w.request _ ends.0 r.0 ends.1) ∙ ap (λ (l : List HeldPin). next_to_give l r.0) ends.2)

  same-table : (t : DomId) → table_at s g t ≡ table_at s h t
  same-table t = sym ((bared g).table s t) ∙ ap (λ (l : History). table_at s l t) (sym bares) ∙ (bared h).table s t

  same-entry : (t r : ℕ) → entry_at h t r ≡ entry_at g t r
  same-entry t r = sym ((bared h).entry t r) ∙ ap (λ (l : History). entry_at l t r) bares ∙ (bared g).entry t r

  -- the value there is one here
  value-here : (a : Answer) → GivesValue s g x.id w.request (Some o.step) a → GivesValue s g x.id c.request (Some z) a
  value-here a v = bare-value s g x.id c.request z a (subst (λ (r : OpenRequest). GivesValue s g x.id r (Some (bare_step z)) a) (sym requests)
      (subst (λ (y : Step). GivesValue s g x.id (bare_asked w.request) (Some y) a) (sym same-step) (value-bare s g x.id w.request o.step a v)))

  reading : (dom : DomId) (frame off len : ℕ) → z ≡ call_steps.Read dom frame off len → IsReading c.request
  reading dom frame off len is =
      let made : o.step ≡ call_steps.Read dom frame off len = no-key o.step (call_steps.Read dom frame off len) tt (ap bare_step (sym is) ∙ same-step) in
      from-reading c.request (subst IsReading (sym requests) (to-reading w.request (by (stands-at (call_steps.Read dom frame off len) made).rests.1)))
    where
      by : RestsOnRequest (known_at s g x.id) x.id w.request (call_steps.Read dom frame off len) → IsReading w.request
      by (inl r) = subst IsReading (sym r.1) tt
      by (inr r) = subst IsReading (sym r.0) tt

  writing-here : (dom : DomId) (frame off len : ℕ) → z ≡ call_steps.Write dom frame off len → IsWriting c.request
  writing-here dom frame off len is =
      let made : o.step ≡ call_steps.Write dom frame off len = no-key o.step (call_steps.Write dom frame off len) tt (ap bare_step (sym is) ∙ same-step) in
      from-writing c.request (subst IsWriting (sym requests) (to-writing w.request (by (stands-at (call_steps.Write dom frame off len) made).rests.1)))
    where
      by : RestsOnRequest (known_at s g x.id) x.id w.request (call_steps.Write dom frame off len) → IsWriting w.request
      by (inl r) = subst IsWriting (sym r.1) tt
      by (inr r) = subst IsWriting (sym r.0) tt

  granted-here : (y : Step) (a : Answer) → z ≡ y → EndsWith s g x.id w.request b.phase o.step Granted → GivesValue s h x.id c.request (Some y) a → refusal_of a ≡ None → AnswersEnd h y Granted a
  granted-here (call_steps.Read dom frame off len) a is ends value none = read-so s h x.id c.request dom frame off len a (reading dom frame off len is) value none
  granted-here y a is ends value none = done-so s h g x.id c.request y a
      (subst (λ (q : Step). GivesValue s g x.id c.request (Some q) answers.Done) is (value-here answers.Done (ends (λ dom frame off len e.
      let f : y ≡ call_steps.Read dom frame off len = sym is ∙ no-key z (call_steps.Read dom frame off len) tt (ap bare_step (sym e) ∙ sym same-step) in cc)))) value none

  ended-here : (v : CallResult) (a : Answer) → EndsWith s g x.id w.request b.phase o.step v → refusal_of a ≡ refusal_in (Some v) → GivesValue s h x.id c.request (Some z) a → EndsAs h x.id c.request z seen v a
  ended-here Granted a ends refusal value = granted-here z a refl ends value refusal
  ended-here (Given told) a ends refusal value = tells-value h z told a (value-so s h g x.id c.request z told a same-table (value-here (answer_with told) ends) value refusal)
  ended-here (Refused denial) a ends refusal value = tells-denial h z denial a (refused-so a denial refusal)
  ended-here (results.Mapped m) a ends refusal value =
      let made : z ≡ call_steps.Pin m = no-key z (call_steps.Pin m) tt (ap bare_step (sym ends.is) ∙ sym same-step) in
      let pin = can-pin s g reached.0.domains x.id w.request (values w) (reverse w.steps) b.phase m (stands-at (call_steps.Pin m) ends.is) ends.taken in
      let map : AsksMapping c.request = from-mapping c.request (subst AsksMapping (sym requests) (to-mapping w.request (subst AsksMapping (sym ends.of_map) tt))) in
      let r = mapped-so s h x.id c.request m a map (subst (λ (y : Step). GivesValue s h x.id c.request (Some y) a) made value) refusal in (
        r.0,
        r.1,
        r.2,
        made,
        sym saw ∙ ap (seen_by s g x.id) ends.is ∙ ap (λ (q : Bool). cond q Taken (Missed (word_at s g m.dom.0 m.gref.0))) (eq-eqb (word_at s g m.dom.0 m.gref.0) m.word ends.taken),
        same-entry m.dom.0 m.gref.0 ∙ ap (λ (p : HeldPin). p.entry) pin.is,
        map,
      )

  pinned-here : (m : HeldPin) → z ≡ call_steps.Pin m → seen ≡ Taken → m.entry ≡ entry_at h m.dom.0 m.gref.0
  pinned-here m is taken =
      let made : o.step ≡ call_steps.Pin m = no-key o.step (call_steps.Pin m) tt (ap bare_step (sym is) ∙ same-step) in
      let pin = can-pin s g reached.0.domains x.id w.request (values w) (reverse w.steps) b.phase m (stands-at (call_steps.Pin m) made)
      (same-word (word_at s g m.dom.0 m.gref.0) m.word (ap (seen_by s g x.id) (sym made) ∙ saw ∙ taken)) in
      sym (ap (λ (p : HeldPin). p.entry) pin.is) ∙ sym (same-entry m.dom.0 m.gref.0)

  in-run : StepInRun s h x.id c z seen answer
  in-run = record {
    pinning = pinned-here;
    going = λ y e. (none-answered s h x.id c.request z _ (verdict_in (next_in s h x.id c seen)) answer _ (ap verdict_in e) right.answered, no-single y e, no-taken y e);
    ending = λ v e. let against = stood s (stepped x.id z seen answer ∷ h) x.id.0 in let giving = gives_back (next_in s h x.id c seen) in
        let r = some-answered s h x.id c.request z giving v answer against (subst (λ (u : Option CallResult). AnsweredBy s h x.id c.request (Some z) giving u answer against) (ap verdict_in e) right.answered) in
        (r.0, r.1, ended-here v r.0 (call-ends s g reached.0.domains x.id w.request (values w) (reverse w.steps) b.phase o.step stands v (next-over v (over v e))) r.2 r.3);
    writing = writing-here;
  }

-- by whatever is open in the core
home : (s : Setting) (h g : History) (x : State) (z : Step) (seen : Observation) (answer : Option Answer) → AreAlike s h g → (reached : CanBeReached s g) → state_of reached.0.domains x.id.0 ≡ Some x → (c : Underway) (w : Option Underway) → open_call h x.id.0 ≡ Some c → open_call g x.id.0 ≡ w
    → (o : Option OpenCall) → CallAgrees s g x.id o w → StepsRight s h (stepped x.id z seen answer) z seen c → StepInRun s h x.id c z seen answer
home s h g x z seen answer alike reached here c None hu gw o a right =
    absurd (none-some (bare_call c) (sym (sym ((bared h).open_calls x.id.0 ∙ ap (option_map bare_call) hu) ∙ ap (λ (l : History). open_call l x.id.0) (bare-same h g alike.same) ∙ (bared g).open_calls x.id.0 ∙ ap (option_map bare_call) gw)))
home s h g x z seen answer alike reached here c (Some w) hu gw None a right = absurd a
home s h g x z seen answer alike reached here c (Some w) hu gw (Some o) a right = in-run s h g alike reached x here c w o hu gw a z seen answer right

-- a step that is right after a history which is like one that a core stands for
pub step-in-run : (s : Setting) (h : History) (d : DomId) (c : Underway) (z : Step) (seen : Observation) (answer : Option Answer) → IsLikeReached s h → IsInRun s d → open_call h d.0 ≡ Some c → StepsRight s h (stepped d z seen answer) z seen c → StepInRun s h d c z seen answer
step-in-run s h d c z seen answer (g, alike, reached) run call right =
    let st = reached.1.domains in let xs = reached.0.domains in
    let some : state_of xs d.0 ≢ None = λ e. run (subst (StateAgrees s g d) e (st.each d)) in
    let t = state-there s g xs d st some in let x = t.0 in
    let here : state_of xs x.id.0 ≡ Some x = ap (λ (n : DomId). state_of xs n.0) t.2 ∙ t.1 in
    subst (λ (n : DomId). StepInRun s h n c z seen answer) t.2
    (home s h g x z seen answer alike reached here c (open_call g x.id.0) (ap (λ (n : DomId). open_call h n.0) t.2 ∙ call) refl x.underway t.3.call
    (subst (λ (n : DomId). StepsRight s h (stepped n z seen answer) z seen c) (sym t.2) right))
