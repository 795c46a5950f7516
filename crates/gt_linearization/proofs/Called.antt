-- The contracts of the calls of a domain say that each is a call of a run.
use Rattle.std.proofs.Common.{[], List, Ok, Err, Result, refl, inl, inr}
use Rattle.gt_handles.specs.Handles.{HandleMap}
use Rattle.gt_model.specs.Asking.{asked}
use Rattle.gt_model.specs.declared.action.CallResult.{CallResult}
use Rattle.gt_model.specs.declared.action.CallResult.TheVariants.{Refused}
use Rattle.gt_model.specs.declared.held.HeldPin.{HeldPin}
use Rattle.gt_model.specs.declared.request.Request.{Request}
use Rattle.gt_model.specs.declared.request.Request.TheVariants as requests
use Rattle.gt_model.specs.declared.request.OpenRequest.{OpenRequest}
use Rattle.gt_model.specs.declared.request.OpenRequest.TheVariants.{Release, Unmap}
use Rattle.gt_live.specs.Domains.{AllowRelation}
use Rattle.gt_live.specs.Ending.{IsOfMapping}
use Rattle.gt_live.specs.Mappings.{KeepsMappings}
use Rattle.gt_live.specs.declared.monitor.Monitor.{Monitor}
use Rattle.gt_linearization.specs.Calling.{MapsAreMade, PlainCallsAreMade, ReleasesAreMade, StaysOf, UnmapsAreMade, WasMade}
use Rattle.gt_linearization.specs.Prelude.{Answered, Denial, Domain, Moment, verdict_of}
use Rattle.gt_linearization.specs.Runs.{FitsTypes, KeepsNoPin, LeavesMappings}
use Rattle.gt_linearization.specs.Runs.CallOutcome.{Judged, MadeMapping, NoMemory}

pub leaves : (request : OpenRequest) (verdict : CallResult) (old new : HandleMap HeldPin) → (IsOfMapping request → ⊥) → KeepsMappings old new → LeavesMappings request verdict old new
leaves (Unmap handle) verdict old new n k = absurd (n tt)
leaves (Release handle) verdict old new n k = absurd (n tt)
leaves request verdict old new n k = k

pub plain-made : {P : Type 0} (may : P → AllowRelation) (m : Monitor P) → PlainCallsAreMade may m
plain-made may m d e request verdict stays other fits plain answered kept = (
  answered.steps,
  record {
    before = stays.before;
    afterwards = stays.afterwards;
    seat = stays.seat;
    fits = fits;
    answered = (plain, (answered, refl), leaves (asked request) verdict d.mappings e.mappings other kept.0);
  },
)

-- a call that drops a mapping, or is refused
pub no-pin : (result : Result (Unit {0}) Denial) → KeepsNoPin (verdict_of result)
no-pin (Ok done) = tt
no-pin (Err denial) = tt

drop-made : {P : Type 0} (may : P → AllowRelation) (m : Monitor P) (d e : Domain) (request : Request) (result : Result (Unit {0}) Denial) → StaysOf may m d e → FitsTypes request → Answered may m d request (verdict_of result) e
    → LeavesMappings (asked request) (verdict_of result) d.mappings e.mappings → (steps : List Moment) × WasMade may m request (Judged (verdict_of result)) steps d e
drop-made may m d e request result stays fits answered left = (
  answered.steps,
  record {
    before = stays.before;
    afterwards = stays.afterwards;
    seat = stays.seat;
    fits = fits;
    answered = (no-pin result, (answered, refl), left);
  },
)

pub unmap-made : {P : Type 0} (may : P → AllowRelation) (m : Monitor P) → UnmapsAreMade may m
unmap-made may m d e handle (Ok tt) stays answered removed refused = drop-made may m d e (requests.Unmap handle) (Ok tt) stays (tt, tt) answered removed
unmap-made may m d e handle (Err denial) stays answered removed refused = drop-made may m d e (requests.Unmap handle) (Err denial) stays (tt, tt) answered refused.0

pub release-made : {P : Type 0} (may : P → AllowRelation) (m : Monitor P) → ReleasesAreMade may m
release-made may m d e handle (Ok tt) stays answered removed refused = drop-made may m d e (requests.Release handle) (Ok tt) stays (tt, tt) answered removed
release-made may m d e handle (Err denial) stays answered removed refused = drop-made may m d e (requests.Release handle) (Err denial) stays (tt, tt) answered refused.0

pub map-made : {P : Type 0} (may : P → AllowRelation) (m : Monitor P) → MapsAreMade may m
map-made may m d e dom gref flags (Ok handle) stays answered = (
  MadeMapping handle answered.0,
  refl,
  (
    answered.1.steps,
    record {
      before = stays.before;
      afterwards = stays.afterwards;
      seat = stays.seat;
      fits = (tt, tt);
      answered = (tt, (answered.1, refl), answered.2);
    },
  ),
)
map-made may m d e dom gref flags (Err denial) stays (inl answered, kept) = (
  Judged (Refused denial),
  refl,
  (
    answered.steps,
    record {
      before = stays.before;
      afterwards = stays.afterwards;
      seat = stays.seat;
      fits = (tt, tt);
      answered = (tt, (answered, refl), kept.0);
    },
  ),
)
map-made may m d e dom gref flags (Err denial) stays (inr starved, kept) = (
  NoMemory,
  starved.0,
  (
    [],
    record {
      before = stays.before;
      afterwards = stays.afterwards;
      seat = stays.seat;
      fits = (tt, tt);
      answered = (refl, starved.3, kept.0);
    },
  ),
)
