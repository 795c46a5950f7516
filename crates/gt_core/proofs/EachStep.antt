-- What holds for each step of an open call: a line for each phase, from the file of the step that it makes.
use Rattle.gt_core.proofs.Words.{◌≡◌, ◌≢◌, ◌⊎◌, inl, inr, ℕ, refl, false, List, [], ◌∷◌, Option, Some, None, sym, ap}
use Rattle.gt_core.proofs.Words.{subst, ◌==◌, domain_of, DomId, GrantRef, EntryChange, control_of, OpenRequest}
use Rattle.gt_core.proofs.Words.{CopyArgs, Step, Exchange, Observation, Taken, Missed, PinPurpose, Mapping, Source}
use Rattle.gt_core.proofs.Words.{Dest, Phase, Storing, StoringSecond, Exchanging, Looking, Changing, Walking, Accessing}
use Rattle.gt_core.proofs.Words.{Asking, Last, Ending, Leg, LegPhase, Pinning, LegNext, Going, Pinned, last_first}
use Rattle.gt_core.proofs.Words.{pins_so_far, CallerKnowledge, begun, path, is_stopped, IsLegFor, phase_after}
use Rattle.gt_core.proofs.Words.{action_at, after_leg, leg_after, leg_step, HasShown, State, History, Setting, word_at}
use Rattle.gt_core.proofs.Words.{known_at, seen_by, StepsSoFar, PhaseStands, cond_both, Denial, legs_at, numbered}
use Rattle.gt_core.proofs.Words.{pins_at, reverse, refusal_in, IsClean, LeavesAll, first_at, is_demote, LegStands, Bool}
use Rattle.gt_core.proofs.Words.{true, eqb-true}
use Rattle.gt_model.specs.declared.action.Action.TheVariants as actions
use Rattle.gt_calls.specs.declared.leg.LegNext.TheVariants as leg_outcomes
use Rattle.gt_calls.specs.Resting.{IsCopyOf}
use Rattle.gt_core.proofs.{Phases.OfAction, Phases.IsHere, Phases.words-of, Phases.by-quiet, Legs.Words, Legs.ComesTo}
use Rattle.gt_core.proofs.{Legs.IsLegOf, PinPurposes.pair_of, PinPurposes.leg-here, Legs.as-tried, Phases.Judged}
use Rattle.gt_core.proofs.{Steps.Look.asked-judged, Steps.Look.look-judged, Steps.Exchange.once-judged}
use Rattle.gt_core.proofs.{Steps.Store.stored-refusal, Steps.Exchange.turn-below, Outcomes.after-plain}
use Rattle.gt_core.proofs.{Steps.See.word-shows, Steps.See.IsWithin, Steps.Look.asks-run, Phases.by-giving}
use Rattle.gt_core.proofs.{Phases.by-leg, Steps.Look.leg-within, Phases.state-some, Steps.Exchange.word-below}
use Rattle.gt_core.proofs.{Phases.LeavesOrEnds, Phases.Leads, Steps.Exchange.turn-leads, Steps.Unpin.then-none}
use Rattle.gt_core.proofs.{Phases.Placed, Steps.Unpin.give-placed, Steps.Pin.missed-comes, Steps.Look.looks-come}
use Rattle.gt_core.proofs.{Steps.Store.IsStore, Steps.Pin.taken-leads, Steps.Look.look-placed}

-- the pins of a leg that ends are those of a copy, or none
walk-over : (k : CallerKnowledge) (d : DomId) (r : OpenRequest) (pin_purpose : PinPurpose) (l : Leg) → IsLegFor k d r pin_purpose l → (last_first (pins_so_far pin_purpose) ≡ []) ⊎ ((copy : CopyArgs) × IsCopyOf r copy × Unit {0})
walk-over k d r Mapping l is = inl refl
walk-over k d r (Source c via) l is = inr (c, is.0, tt)
walk-over k d r (Dest c source via) l is = inr (c, is.0, tt)

-- each step of a walk

-- a step of a leg that takes no pin
abbrev pub TakesNone : Setting → History → DomId → Leg → LegPhase → Type 0
TakesNone s h d l (Pinning more word body second) = (word_at s h l.dom.0 l.gref.0 == word) ≡ false
TakesNone s h d l phase = Unit {0}

-- a copy and a probe are no demotions
no-demote : (r : OpenRequest) (c : CopyArgs) → IsCopyOf r c → is_demote r ≡ false
no-demote r c (inl is) = ap is_demote is
no-demote r c (inr is) = ap is_demote is

-- the purpose is not a demotion: a demotion makes no leg
plain-leg : (k : CallerKnowledge) (d : DomId) (r : OpenRequest) (pin_purpose : PinPurpose) (l : Leg) → IsLegFor k d r pin_purpose l → is_demote r ≡ false
plain-leg k d r Mapping l is = ap is_demote is.of_map
plain-leg k d r (Source c via) l is = no-demote r c is.0
plain-leg k d r (Dest c source via) l is = no-demote r c is.0

pub walk-comes : (s : Setting) (h : History) (d : DomId) (r : OpenRequest) (so_far : StepsSoFar) (pin_purpose : PinPurpose) (l : Leg) (at : LegPhase) → Words s h l → IsLegFor (known_at s h d) d r pin_purpose l → IsLegOf s h d r l (pair_of d pin_purpose) → LegStands s h l so_far at
    → TakesNone s h d l at → ComesTo s h l ((leg_step l at, seen_by s h d (leg_step l at)) ∷ so_far) (first_at s h d r so_far (leg_step l at)) (leg_after l at (seen_by s h d (leg_step l at)))
walk-comes s h d r so_far pin_purpose l (Pinning more word body second) ws is leg a none = missed-comes s h l d r more word body second so_far (word_at s h l.dom.0 l.gref.0 == word) none a.0
walk-comes s h d r so_far pin_purpose l at ws is leg a none = looks-come s h l ws d r (pair_of d pin_purpose) leg (plain-leg (known_at s h d) d r pin_purpose l is) so_far at a tt

module _ (s : Setting) (h : History) (d : DomId) (r : OpenRequest) where
  leg-leads : (pin_purpose : PinPurpose) (l : Leg) (now : StepsSoFar) (rule : Option Denial) (next : LegNext) → IsLegFor (known_at s h d) d r pin_purpose l → domain_of s.domains l.dom ≢ None → ComesTo s h l now rule next
      → Leads s h d r now rule (after_leg (known_at s h d) d pin_purpose l next)
  leg-leads pin_purpose l now rule (Going phase) is some a = (sym a.0, (some, a.1))
  leg-leads pin_purpose l now rule (leg_outcomes.Refused denial) is some a = (sym a, walk-over (known_at s h d) d r pin_purpose l is)
  leg-leads pin_purpose l now rule (Pinned p) is some a = absurd a

  -- each step of a walk
  walk-leads : (so_far : StepsSoFar) (pin_purpose : PinPurpose) (l : Leg) (at : LegPhase) → Words s h l → IsLegFor (known_at s h d) d r pin_purpose l → IsLegOf s h d r l (pair_of d pin_purpose) → begun (known_at s h d) d r ≡ None
      → PhaseStands s h d r so_far (Walking pin_purpose l at) → Judged s h d r so_far (Walking pin_purpose l at) (leg_step l at) × Placed s h d r so_far (Walking pin_purpose l at) (leg_step l at)
  walk-leads so_far pin_purpose l (Pinning more word body second) ws is leg none a = by (word_at s h l.dom.0 l.gref.0 == word) refl
    where
      at : LegPhase
      at = Pinning more word body second

      by : (b : Bool) → (word_at s h l.dom.0 l.gref.0 == word) ≡ b → Judged s h d r so_far (Walking pin_purpose l at) (leg_step l at) × Placed s h d r so_far (Walking pin_purpose l at) (leg_step l at)
      by false e = leg-leads pin_purpose l _ _ (leg_after l at (seen_by s h d (leg_step l at))) is a.0 (walk-comes s h d r so_far pin_purpose l at ws is leg a.1 e)
      by true e = taken-leads s h d r so_far _ pin_purpose l more word body second (word_at s h l.dom.0 l.gref.0 == word) e is leg none a.1.0.passed
          (as-tried s h l so_far more word body second None a.1.0 a.1.1 ws (eqb-true (word_at s h l.dom.0 l.gref.0) word e))
  walk-leads so_far pin_purpose l at ws is leg none a = leg-leads pin_purpose l _ _ (leg_after l at (seen_by s h d (leg_step l at))) is a.0 (walk-comes s h d r so_far pin_purpose l at ws is leg a.1 tt)

-- At each step: it is on words that exist. It leaves everything unchanged or ends its call with Ok. The first rule
-- that applies, here or before, is the refusal that its words lead to. Each step except a store leads to its next
-- phase.
abbrev pub OfStep : Setting → History → List State → DomId → OpenRequest → StepsSoFar → Phase → Step → Type 0
OfStep s h xs d r so_far p z = IsWithin xs d z × LeavesOrEnds s h d p z × Judged s h d r so_far p z × ((IsStore z → ⊥) → Placed s h d r so_far p z)

pub each-step : (s : Setting) (h : History) (xs : List State) (d : DomId) (r : OpenRequest) (shown : List Observation) (so_far : StepsSoFar) (phase : Phase) (step : Step) → IsHere s h xs d r shown so_far phase step → OfStep s h xs d r so_far phase step
each-step s h xs d r shown so_far phase step i = subst (OfAction (Led phase)) i.acts (by phase i.at.has_shown i.place i.acts i.held)
  where
    k : CallerKnowledge
    k = known_at s h d

    Led : Phase → Step → Type 0
    Led = OfStep s h xs d r so_far

    exchanged : (p : Phase) (gref : GrantRef) (looked : ℕ) (change : EntryChange) → ((steps : List (Step × Observation)) → IsClean (phase_after k d p Taken) steps) → LeavesOrEnds s h d p (Exchange gref looked change)
    exchanged p gref looked change clean = cond_both (word_at s h d.0 gref.0 == looked) Taken (Missed (word_at s h d.0 gref.0))
        (λ v. LeavesAll (Exchange gref looked change, v) ⊎ ((steps : List (Step × Observation)) → IsClean (phase_after k d p v) steps)) (λ is. inr clean) (λ is. inl tt)

    by : (p : Phase) → HasShown k (path k d r) d r shown p → PhaseStands s h d r so_far p → action_at d p ≡ actions.Step step → legs_at h d.0 ≡ numbered 0 (reverse (last_first (pins_at p))) → OfAction (Led p) (action_at d p)
    by (Storing gref entry) a b e held = (tt, inl tt, stored-refusal k gref entry, λ quiet. absurd (quiet tt))
    by (StoringSecond gref entry) a b e held = (tt, inl tt, refl, λ quiet. absurd (quiet tt))
    by (Exchanging gref looked change) a b e held = (
      (i.own, word-below s h xs d r (path k d r) shown gref looked change i.st i.at.unanswered a),
      exchanged (Exchanging gref looked change) gref looked change (λ steps. inl refl),
      once-judged s h d r (path k d r) shown so_far gref looked change a b,
      λ quiet. cond_both (word_at s h d.0 gref.0 == looked) Taken (Missed (word_at s h d.0 gref.0)) (λ v. PhaseStands s h d r ((Exchange gref looked change, v) ∷ so_far) (phase_after k d (Exchanging gref looked change) v)) (λ is. inl refl) (λ is. inl refl),
    )
    by (Looking gref change more) a b e held = let below = turn-below s h xs d r gref change i.st i.at.unanswered a in let w = word_at s h d.0 gref.0 in
        ((i.own, below), inl tt, look-judged s h d r so_far gref change more (word-shows s h xs d.0 gref.0 i.st below) a b, λ quiet. look-placed s h d r gref change more w so_far (is_stopped change (control_of w)) b)
    by (Changing gref change more looked) a b e held = let w = turn-leads s h d r so_far gref change more looked a.1 b.0 in
        ((i.own, turn-below s h xs d r gref change i.st i.at.unanswered a.1), exchanged (Changing gref change more looked) gref looked change (λ steps. inl refl), w.0, λ quiet. w.1)
    by (Walking pin_purpose l at) a b e held = let w = walk-leads s h d r so_far pin_purpose l at (words-of s h xs l i.legal i.st) a.1 (leg-here s h d r pin_purpose l a.1 held) i.at.unanswered b in
        let q = by-leg (λ (z : Step). LeavesOrEnds s h d (Walking pin_purpose l at) z) (λ dom. inl tt) (λ dom gref. inl tt) (λ dom gref body_word. inl tt) (λ p. inl tt) l at in
        (leg-within s h xs d l so_far at (state-some s h xs l.dom i.st b.0) b.1, q, w.0, λ quiet. w.1)
    by (Accessing c source dest) a b e held = (tt, inr (λ steps. inl refl), refl, λ quiet. inr (c, a.0, tt))
    by (Asking dom question) a b e held = (state-some s h xs dom i.st (asks-run s h d r dom question i.at.unanswered b), inl tt, asked-judged s h d r so_far dom question b, λ quiet. inl refl)
    by (Last last verdict) a b e held = let none = after-plain r last verdict b in by-quiet (λ z. Led (Last z verdict) z) (λ p handle. (tt, inr (λ steps. inl none), sym none, λ quiet. inl refl))
        (λ gref body_word word. (tt, inl tt, sym none, λ quiet. inl refl)) (λ version frames. (tt, inr (λ steps. inl none), sym none, λ quiet. inl refl))
        (λ dom frame off len. ((tt, inl tt, sym none, λ quiet. inl refl), (tt, inr (λ steps. inl none), sym none, λ quiet. inl refl))) last a.0
    by (Ending pins verdict) a b e held = let q = by-giving (λ (z : Step). IsWithin xs d z × LeavesOrEnds s h d (Ending pins verdict) z × Judged s h d r so_far (Ending pins verdict) z)
        (λ p n. (tt, inl tt, then-none (refusal_in (Some verdict)))) (last_first pins) verdict step e in
        subst (OfAction (Led (Ending pins verdict))) (sym e) (q.0, q.1, q.2, λ quiet. give-placed s h d r so_far pins verdict step e b)
