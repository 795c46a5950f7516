-- What the last step of a call did besides looking, and the result of the call.
use Rattle.std.specs.Prelude.{◌≡◌, ℕ}
use Rattle.gt_types.specs.declared.DomId.{DomId}
use Rattle.gt_types.specs.declared.GrantRef.{GrantRef}
use Rattle.gt_types.specs.declared.denial.Facts.{Facts}
use Rattle.gt_types.specs.declared.denial.Facts.TheVariants as facts
use Rattle.gt_model.specs.declared.action.Action.{Action}
use Rattle.gt_model.specs.declared.action.Action.TheVariants.{Done}
use Rattle.gt_model.specs.declared.action.Action.TheVariants as actions
use Rattle.gt_model.specs.declared.action.Observation.{Observation}
use Rattle.gt_model.specs.declared.action.Observation.TheVariants.{Taken, Word, Missed}
use Rattle.gt_model.specs.declared.action.Step.{Step}
use Rattle.gt_model.specs.declared.action.Step.TheVariants.{LookHeader, LookControl, Pin, Unpin, StoreHeader}
use Rattle.gt_model.specs.declared.action.Step.TheVariants.{Exchange}
use Rattle.gt_model.specs.declared.action.CallResult.{CallResult}
use Rattle.gt_model.specs.declared.action.CallResult.TheVariants.{Granted, Given, Mapped, Refused}
use Rattle.gt_model.specs.declared.request.PinHolder.TheVariants as holders
use Rattle.gt_live.specs.declared.driving.Effect.{Effect}
use Rattle.gt_live.specs.declared.driving.Effect.TheVariants.{Nothing, Pinned, Unpinned, Changed, Stored}

-- what a step with this observation did
abbrev pub effect_of : Step → Observation → Effect
effect_of (Pin p) Taken = Pinned p
effect_of (Unpin p (holders.Mapping handle)) seen = Unpinned handle
effect_of (Exchange gref looked change) Taken = Changed gref change
effect_of (StoreHeader version frames) seen = Stored
effect_of step seen = Nothing

-- the result of a call that did this: what it did is granted, and nothing else
abbrev pub Answers : Effect → CallResult → Type 0
Answers Nothing (Refused denial) = Unit {0}
Answers Nothing (Given value) = Unit {0}
Answers (Pinned p) (Mapped q) = q ≡ p
Answers (Unpinned handle) Granted = Unit {0}
Answers (Changed gref change) Granted = Unit {0}
Answers Stored Granted = Unit {0}
Answers Stored (Given value) = Unit {0}
Answers effect verdict = ⊥

-- the step found this control word in this entry
abbrev pub IsFoundAt : DomId → Step → Observation → DomId → GrantRef → ℕ → Type 0
IsFoundAt caller (LookControl d q) (Word n) dom gref word = (d ≡ dom) × (q ≡ gref) × (n ≡ word)
IsFoundAt caller (Pin p) (Missed n) dom gref word = (p.dom ≡ dom) × (p.gref ≡ gref) × (n ≡ word)
IsFoundAt caller (Exchange q looked change) (Missed n) dom gref word = (caller ≡ dom) × (q ≡ gref) × (n ≡ word)
IsFoundAt caller step seen dom gref word = ⊥

-- the step saw this header word of this domain
abbrev pub IsFoundIn : Step → Observation → DomId → ℕ → Type 0
IsFoundIn (LookHeader d) (Word n) dom word = (d ≡ dom) × (n ≡ word)
IsFoundIn step seen dom word = ⊥

-- the word that a refusal carries, if it carries one, is the one that the step found
abbrev pub IsFound : DomId → Step → Observation → Facts → Type 0
IsFound caller step seen (facts.Entry dom gref word) = IsFoundAt caller step seen dom gref word
IsFound caller step seen (facts.Header dom word) = IsFoundIn step seen dom word
IsFound caller step seen other = Unit {0}

-- the same for a result
abbrev pub ResultIsFound : DomId → Step → Observation → CallResult → Type 0
ResultIsFound caller step seen (Refused denial) = IsFound caller step seen denial.facts
ResultIsFound caller step seen verdict = Unit {0}

-- what follows a step with this observation: a step that did more than look is the last one, and the call's result
-- agrees with what its last step did and found
abbrev pub EndsSo : DomId → Step → Observation → Action → Type 0
EndsSo caller step seen (actions.Step next) = effect_of step seen ≡ Nothing
EndsSo caller step seen (Done verdict) = Answers (effect_of step seen) verdict × ResultIsFound caller step seen verdict
