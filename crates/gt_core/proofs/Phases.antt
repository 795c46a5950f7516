-- An open call by its phase: which steps it may make, and what has to be shown of each (EachStep does).
use Rattle.gt_core.proofs.Words.{◌≡◌, ◌≢◌, ℕ, refl, false, List, [], ◌∷◌, Option, Some, None, cond, sym, ap, ◌∙◌, subst}
use Rattle.gt_core.proofs.Words.{reverse, ◌==◌, is_none, eq-eqb, true≢false, none-some, domain_of, DomId, GrantRef}
use Rattle.gt_core.proofs.Words.{DomainConfig, HeldPin, OpenRequest, CallResult, Step, LookHeader, LookControl}
use Rattle.gt_core.proofs.Words.{LookBody, Unpin, StoreBody, StoreHeader, Exchange, Observation, Taken, Missed, Action}
use Rattle.gt_core.proofs.Words.{Done, Phase, Leg, LegPhase, Look, Body, last_first, begun, FitsStep, action_at}
use Rattle.gt_core.proofs.Words.{leg_step, next_to_give, IsQuiet, StandsAt, State, state_of, History, Setting, word_at}
use Rattle.gt_core.proofs.Words.{known_at, seen_by, legs_at, StepsSoFar, DomainsStand, StateAgrees, PhaseStands}
use Rattle.gt_core.proofs.Words.{numbered, pins_at, Rests, FitsAsked, length, IsExchanged, CallerKnowledge, Handle}
use Rattle.gt_core.proofs.Words.{BodyWord, Call, Second, Pinning, Relook, held_of, cond_both, IsLegalHistory, ◌⊎◌}
use Rattle.gt_core.proofs.Words.{option_or, Denial, phase_after, LeavesAll, first_at, IsClean, phase_refusal}
use Rattle.gt_model.specs.declared.action.Action.TheVariants as actions
use Rattle.gt_model.specs.declared.change.BodyWord.TheVariants as body_words
use Rattle.gt_model.specs.declared.action.Step.TheVariants as call_steps
use Rattle.gt_model.specs.declared.request.PinHolder.TheVariants as holders
use Rattle.gt_calls.specs.declared.leg.LegPhase.TheVariants as leg_phases
use Rattle.gt_core.proofs.{Steps.See.word-shows, Steps.See.table-fits, Legs.Words, Entries.spelled}

pub none-of : (k : CallerKnowledge) (d : DomId) (r q : OpenRequest) → r ≡ q → begun k d r ≡ None → begun k d q ≡ None
none-of k d r q is none = subst (λ (z : OpenRequest). begun k d z ≡ None) is none

-- the call by its parts
pub call-is : (call : Call) (d : DomId) (r : OpenRequest) (p : Phase) → call.caller ≡ d → call.request ≡ r → call.phase ≡ Some p → call ≡ record { caller = d; request = r; phase = Some p }
call-is call d r p a b e = ap (λ (z : DomId). record { caller = z; request = call.request; phase = call.phase }) a
    ∙ ap (λ (z : OpenRequest). record { caller = d; request = z; phase = call.phase }) b
    ∙ ap (λ (z : Option Phase). record { caller = d; request = r; phase = z }) e

-- the phase of a call before its next step, in a core that represents the history
pub record IsHere (s : Setting) (h : History) (xs : List State) (d : DomId) (r : OpenRequest) (shown : List Observation) (so_far : StepsSoFar) (phase : Phase) (step : Step) : Type 0 where
  pub legal : IsLegalHistory s h
  pub st : DomainsStand s h xs
  pub own : state_of xs d.0 ≢ None
  pub at : StandsAt (known_at s h d) d r shown phase
  pub acts : action_at d phase ≡ actions.Step step
  pub place : PhaseStands s h d r so_far phase
  pub held : legs_at h d.0 ≡ numbered 0 (reverse (last_first (pins_at phase)))
  pub rests : Rests (known_at s h d) d r (pins_at phase) shown (actions.Step step)
  pub fits : FitsAsked r

pub makes-same : (a b : Step) → actions.Step a ≡ actions.Step b → a ≡ b
makes-same a b e = cc

-- what holds for the step of an action
abbrev pub OfAction : (Step → Type 0) → Action → Type 0
OfAction P (actions.Step z) = P z
OfAction P (Done v) = Unit {0}

-- a leg looks, or pins
pub by-leg : (P : Step → Type 0) → ((dom : DomId) → P (LookHeader dom)) → ((dom : DomId) (gref : GrantRef) → P (LookControl dom gref)) → ((dom : DomId) (gref : GrantRef) (body_word : BodyWord) → P (LookBody dom gref body_word))
    → ((p : HeldPin) → P (call_steps.Pin p)) → (l : Leg) (at : LegPhase) → P (leg_step l at)
by-leg P headers looks bodies pins l leg_phases.Header = headers l.dom
by-leg P headers looks bodies pins l (Look more) = looks l.dom l.gref
by-leg P headers looks bodies pins l (Body more word) = bodies l.dom l.gref body_words.First
by-leg P headers looks bodies pins l (Second more word body) = bodies l.dom l.gref body_words.Second
by-leg P headers looks bodies pins l (Pinning more word body second) = pins (held_of l word body second)
by-leg P headers looks bodies pins l (Relook more word rule) = looks l.dom l.gref

-- a call that releases its pins makes a step that releases one by its position
pub by-giving : (P : Step → Type 0) → ((p : HeldPin) (n : ℕ) → P (Unpin p (holders.Leg n))) → (held : List HeldPin) (verdict : CallResult) (step : Step) → next_to_give held verdict ≡ actions.Step step → P step
by-giving P each [] verdict step e = absurd (let f : Done verdict ≡ actions.Step step = e in cc)
by-giving P each (p ∷ ps) verdict step e = subst P (makes-same _ _ e) (each p (length ps))

pub state-some : (s : Setting) (h : History) (xs : List State) (dom : DomId) → DomainsStand s h xs → domain_of s.domains dom ≢ None → state_of xs dom.0 ≢ None
state-some s h xs dom st some e = some (subst (λ (o : Option State). StateAgrees s h dom o) e (st.each dom))

pub of-run : (o : Option DomainConfig) → is_none o ≡ false → o ≢ None
of-run None e n = absurd (true≢false e)
of-run (Some c) e n = absurd (none-some c (sym n))

pub words-of : (s : Setting) (h : History) (xs : List State) (l : Leg) → IsLegalHistory s h → DomainsStand s h xs → Words s h l
words-of s h xs l legal st = record {
  round = λ within. word-shows s h xs l.dom.0 l.gref.0 st within;
  is_entry = st.entries l.dom.0 l.gref.0;
  spelled = spelled s h l.dom.0 l.gref.0 legal;
  size = (table-fits _ (st.tables l.dom)).0;
  header = (table-fits _ (st.tables l.dom)).1;
}

-- what holds for each step that is a call's only one
pub by-quiet : (P : Step → Type 0) → ((p : HeldPin) (handle : Handle) → P (Unpin p (holders.Mapping handle))) → ((gref : GrantRef) (body_word : BodyWord) (word : ℕ) → P (StoreBody gref body_word word)) → ((version frames : ℕ) → P (StoreHeader version frames))
    → ((dom : DomId) (frame off len : ℕ) → P (call_steps.Read dom frame off len) × P (call_steps.Write dom frame off len)) → (step : Step) → IsQuiet step → P step
by-quiet P unpins bodies headers accesses (Unpin p (holders.Mapping handle)) q = unpins p handle
by-quiet P unpins bodies headers accesses (StoreBody gref body_word word) q = bodies gref body_word word
by-quiet P unpins bodies headers accesses (StoreHeader version frames) q = headers version frames
by-quiet P unpins bodies headers accesses (call_steps.Read dom frame off len) q = (accesses dom frame off len).0
by-quiet P unpins bodies headers accesses (call_steps.Write dom frame off len) q = (accesses dom frame off len).1
by-quiet P unpins bodies headers accesses step q = absurd q

-- what a step sees fits it

pub exchanged-fits : (word w : ℕ) → IsExchanged word (cond (w == word) Taken (Missed w))
exchanged-fits word w = cond_both (w == word) Taken (Missed w) (IsExchanged word) (λ e. tt) (λ e same. true≢false (sym (eq-eqb w word same) ∙ e))

pub seen-fits : (s : Setting) (h : History) (d : DomId) (step : Step) → FitsStep step (seen_by s h d step)
seen-fits s h d (LookHeader dom) = tt
seen-fits s h d (LookControl dom gref) = tt
seen-fits s h d (LookBody dom gref body_word) = tt
seen-fits s h d (call_steps.Pin q) = exchanged-fits q.word (word_at s h q.dom.0 q.gref.0)
seen-fits s h d (Exchange gref looked change) = exchanged-fits looked (word_at s h d.0 gref.0)
seen-fits s h d step = refl

-- where a step leads

-- the first rule that applies at this step, or before it, is the refusal that the call gets
abbrev pub Judged : Setting → History → DomId → OpenRequest → StepsSoFar → Phase → Step → Type 0
Judged s h d r so_far phase step = option_or (phase_refusal phase) (first_at s h d r so_far step) ≡ phase_refusal (phase_after (known_at s h d) d phase (seen_by s h d step))

-- the step leads to this phase: the refusal there is the first rule that applies, and the call is in that phase
abbrev pub Leads : Setting → History → DomId → OpenRequest → StepsSoFar → Option Denial → Phase → Type 0
Leads s h d r now rule next = (rule ≡ phase_refusal next) × PhaseStands s h d r now next

-- the phase of a call after a step
abbrev pub Placed : Setting → History → DomId → OpenRequest → StepsSoFar → Phase → Step → Type 0
Placed s h d r so_far phase step = PhaseStands s h d r ((step, seen_by s h d step) ∷ so_far) (phase_after (known_at s h d) d phase (seen_by s h d step))

-- the next phase
abbrev pub next_of : Setting → History → DomId → Phase → Step → Phase
next_of s h d phase step = phase_after (known_at s h d) d phase (seen_by s h d step)

-- a step of a call that is not at its end leaves everything unchanged, or ends it with Ok
abbrev pub LeavesOrEnds : Setting → History → DomId → Phase → Step → Type 0
LeavesOrEnds s h d phase step = LeavesAll (step, seen_by s h d step) ⊎ ((steps : List (Step × Observation)) → IsClean (next_of s h d phase step) steps)
