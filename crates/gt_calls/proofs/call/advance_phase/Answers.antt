use Rattle.gt_calls.proofs.Words.{◌≡◌, refl, ◌∙◌, DomId, CallResult, CopyArgs, PinPurpose, AccessPath, CallerKnowledge}
use Rattle.gt_calls.proofs.Words.{Leg, LegPhase, Phase, Walking, Accessing, Asking, Last, Ending, Observation, Step}
use Rattle.gt_calls.proofs.Words.{CallPins, after_leg, ap, knows, leg_after, phase_after, pins_so_far, sym}
use Rattle.gt_calls.specs.declared.leg.LegNext.TheVariants as leg_outcomes
use Rattle.gt_calls.specs.Prelude.{Denial}
use Rattle.gt_model.specs.declared.action.CallResult.TheVariants.{Refused}
use Rattle.gt_calls.specs.Machine.{change_after}
use Rattle.gt_model.specs.declared.action.HeaderQuery.{HeaderQuery}
use Rattle.gt_calls.proofs.call.advance_phase.Goals as goal

-- the phases that are left are those of a change
of-change : (k : CallerKnowledge) (caller : DomId) (phase : Phase) (seen : Observation)
    → ((pin_purpose : PinPurpose) (l : Leg) (at : LegPhase) → phase ≡ Walking pin_purpose l at → ⊥)
    → ((c : CopyArgs) (source dest : AccessPath) → phase ≡ Accessing c source dest → ⊥)
    → ((dom : DomId) (question : HeaderQuery) → phase ≡ Asking dom question → ⊥)
    → ((step : Step) (verdict : CallResult) → phase ≡ Last step verdict → ⊥)
    → ((pins : CallPins) (verdict : CallResult) → phase ≡ Ending pins verdict → ⊥)
    → change_after k caller phase seen ≡ phase_after k caller phase seen
of-change k caller (Walking pin_purpose l at) seen w a q s e = absurd (w pin_purpose l at refl)
of-change k caller (Accessing c source dest) seen w a q s e = absurd (a c source dest refl)
of-change k caller (Asking dom question) seen w a q s e = absurd (q dom question refl)
of-change k caller (Last step verdict) seen w a q s e = absurd (s step verdict refl)
of-change k caller (Ending pins verdict) seen w a q s e = absurd (e pins verdict refl)
of-change k caller phase seen w a q s e = refl

pub returns-in_default : goal.returns-in_default
returns-in_default g c =
    c.advance_change.ensures
    ∙ of-change (knows g.P.Allows.may c.args.known.now) c.args.caller c.args.phase.now c.args.seen c.in_default.not-Walking c.in_default.not-Accessing c.in_default.not-Asking c.in_default.not-Last c.in_default.not-Ending

-- a leg that is refused is followed by the release of the pins so far
of-refused : (k : CallerKnowledge) (caller : DomId) (pin_purpose : PinPurpose) (l : Leg) (at : LegPhase) (seen : Observation)
    (denial : Denial) (pins : CallPins) (phase : Phase)
    → phase ≡ Walking pin_purpose l at → leg_after l at seen ≡ leg_outcomes.Refused denial → pins ≡ pins_so_far pin_purpose
    → Ending pins (Refused denial) ≡ phase_after k caller phase seen
of-refused k caller pin_purpose l at seen denial pins phase w r p =
    ap (λ (x : CallPins). Ending x (Refused denial)) p ∙ ap (after_leg k caller pin_purpose l) (sym r)
    ∙ ap (λ (x : Phase). phase_after k caller x seen) (sym w)

pub returns-in-Refused : goal.returns-in-Refused
returns-in-Refused g c =
    let w = c.in-Walking in
    of-refused (knows g.P.Allows.may c.args.known.now) c.args.caller w.pin_purpose w.leg w.at c.args.seen c.in-Refused.denial
    c.pins_so_far.result c.args.phase.now w.is (sym c.leg_next.ensures ∙ c.in-Refused.is) c.pins_so_far.ensures
