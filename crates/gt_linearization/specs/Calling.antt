-- Each call of a domain is a call of a run, by the clauses of its contract.
use Rattle.std.specs.Prelude.{◌≡◌, ℕ, List, [], Result, Ok, Err, OnOk, OnErr}
use Rattle.gt_linearization.specs.Prelude.{denial_of, DomId, GrantRef, Denial, N26, IsSameSeat, Moment, Handle, asked}
use Rattle.gt_linearization.specs.Prelude.{CallResult, Refused, HeldPin, Request, Writing, path_of, Step, EndsAfterAccess}
use Rattle.gt_linearization.specs.Prelude.{IsWrittenBy, AnswersWithAccess, AllowRelation, Answered, BelongsTo, KeepsPinned}
use Rattle.gt_linearization.specs.Prelude.{MapAnswered, known_on, verdict_of, IsOfMapping, Removes, Domain, Monitor, Bytes}
use Rattle.gt_linearization.specs.Prelude.{Copying, IsCopiedBy, IsReadBy, IsUnmade, Reading}
use Rattle.gt_types.specs.declared.denial.Facts.TheVariants as facts
use Rattle.gt_types.specs.declared.copies.CopyArgs.{CopyArgs}
use Rattle.gt_model.specs.declared.action.CallResult.TheVariants.{Granted}
use Rattle.gt_model.specs.declared.request.Request.TheVariants as requests
use Rattle.gt_live.specs.Halves.{BecomesPending, EndsPending}
use Rattle.gt_live.specs.declared.domain.copies.PendingCopy.{PendingCopy}
use Rattle.gt_linearization.specs.Runs.{FitsTypes, IsCall, KeepsNoPin, CallOutcome}
use Rattle.gt_linearization.specs.Runs.CallOutcome.{Judged, MadeMapping, NoMemory, Read, Written}
use Rattle.gt_live.specs.Parts.{config_of, mappings_of, rights_of, seat_of, words_of}

-- the domain d of the monitor m was asked this, with these steps and this outcome, and is then e: a call of a run
abbrev pub WasMade : {P : Type 0} → (P → AllowRelation) → Monitor P → Request → CallOutcome → List Moment → Domain
    → Domain
    → Type 0
WasMade may m request outcome steps d e =
    IsCall (words_of m) (config_of m) (may (rights_of m))
    (record { request = request; outcome = outcome; steps = steps; old = d; new = e })

-- what each call of a domain ensures: the domain belongs to the monitor before and after, and has the same seat
pub record StaysOf {P : Type 0} (may : P → AllowRelation) (m : Monitor P) (d e : Domain) : Type 0 where
  pub before : BelongsTo may m d
  pub afterwards : BelongsTo may m e
  pub seat : IsSameSeat (seat_of d) (seat_of e)

-- calls other than map, unmap and release whose result is that of their path; so a call with an access is one of them
-- only if it is refused
abbrev pub PlainCallsAreMade : {P : Type 0} → (P → AllowRelation) → Monitor P → Type 0
PlainCallsAreMade may m =
    (d e : Domain) (request : Request) (verdict : CallResult) → StaysOf may m d e
    → (IsOfMapping (asked request) → ⊥) → FitsTypes request → KeepsNoPin verdict → Answered may m d request verdict e
    → KeepsPinned d e → (steps : List Moment) × WasMade may m request (Judged verdict) steps d e

-- a call that drops the mapping of a handle
abbrev pub DropsAreMade : {P : Type 0} → (P → AllowRelation) → Monitor P → (Handle → Request) → Type 0
DropsAreMade may m request =
    (d e : Domain) (handle : Handle) (result : Result (Unit {0}) Denial) → StaysOf may m d e
    → Answered may m d (request handle) (verdict_of result) e
    → OnOk result ((p : HeldPin) × Removes (mappings_of d) (mappings_of e) handle p) → OnErr result (KeepsPinned d e)
    → (steps : List Moment) × WasMade may m (request handle) (Judged (verdict_of result)) steps d e

-- an unmap
abbrev pub UnmapsAreMade : {P : Type 0} → (P → AllowRelation) → Monitor P → Type 0
UnmapsAreMade may m = DropsAreMade may m (λ handle. requests.Unmap handle)

-- a release
abbrev pub ReleasesAreMade : {P : Type 0} → (P → AllowRelation) → Monitor P → Type 0
ReleasesAreMade may m = DropsAreMade may m (λ handle. requests.Release handle)

-- the outcome of a map with this result
abbrev pub IsOutcomeOf : Result Handle Denial → CallOutcome → Type 0
IsOutcomeOf (Ok handle) (MadeMapping given p) = given ≡ handle
IsOutcomeOf (Err denial) (Judged verdict) = verdict ≡ Refused denial
IsOutcomeOf (Err denial) NoMemory = denial ≡ denial_of N26 facts.None
IsOutcomeOf result outcome = ⊥

-- a map
abbrev pub MapsAreMade : {P : Type 0} → (P → AllowRelation) → Monitor P → Type 0
MapsAreMade may m =
    (d e : Domain) (dom : DomId) (gref : GrantRef) (flags : ℕ) (result : Result Handle Denial) → StaysOf may m d e
    → MapAnswered may m d (requests.Map dom gref flags) result e
    → (outcome : CallOutcome) × IsOutcomeOf result outcome
    × ((steps : List Moment) × WasMade may m (requests.Map dom gref flags) outcome steps d e)

-- the request is a store or a poke
abbrev pub IsStoring : Request → Type 0
IsStoring (requests.Store handle off bytes) = Unit {0}
IsStoring (requests.Poke frame off bytes) = Unit {0}
IsStoring request = ⊥

-- the request is a load or a peek
abbrev pub IsLoadOrPeek : Request → Type 0
IsLoadOrPeek (requests.Load handle off len) = Unit {0}
IsLoadOrPeek (requests.Peek frame off len) = Unit {0}
IsLoadOrPeek request = ⊥

-- the request makes one access, and no step on the words
abbrev pub IsSingle : Request → Type 0
IsSingle (requests.Load handle off len) = Unit {0}
IsSingle (requests.Peek frame off len) = Unit {0}
IsSingle (requests.Store handle off bytes) = Unit {0}
IsSingle (requests.Poke frame off bytes) = Unit {0}
IsSingle request = ⊥

-- a store or a poke that is Ok
abbrev pub WritesAreMade : {P : Type 0} → (P → AllowRelation) → Monitor P → Type 0
WritesAreMade may m =
    (d e : Domain) (request : Request) (r : Writing) → StaysOf may m d e → IsStoring request
    → AnswersWithAccess may m d request (IsWrittenBy (words_of m).layout d request) (Ok r) e
    → KeepsPinned d e → (steps : List Moment) × WasMade may m request Written steps d e

-- a copy that is Ok
abbrev pub CopiesAreMade : {P : Type 0} → (P → AllowRelation) → Monitor P → Type 0
CopiesAreMade may m =
    (d e : Domain) (args : CopyArgs) (r : Copying) → StaysOf may m d e → FitsTypes (requests.Copy args)
    → AnswersWithAccess may m d (requests.Copy args) (IsCopiedBy (known_on may m d) (words_of m).layout d args) (Ok r) e
    → KeepsPinned d e → (steps : List Moment) × WasMade may m (requests.Copy args) Written steps d e

-- a load or a peek that is Ok, with the bytes that it read
abbrev pub ReadsAreMade : {P : Type 0} → (P → AllowRelation) → Monitor P → Type 0
ReadsAreMade may m =
    (d e : Domain) (request : Request) (r : Reading) (bytes : Bytes) → StaysOf may m d e → IsLoadOrPeek request
    → bytes.bytes.items ≡ r.bytes → AnswersWithAccess may m d request (IsReadBy (words_of m).layout) (Ok r) e
    → KeepsPinned d e → (steps : List Moment) × WasMade may m request (Read bytes) steps d e

-- a copy that reached its access and could not make it: it made the steps of its probe, and counts as the probe
abbrev pub LostCopiesAreMade : {P : Type 0} → (P → AllowRelation) → Monitor P → Type 0
LostCopiesAreMade may m =
    (d e : Domain) (args : CopyArgs) (access : Step) → StaysOf may m d e
    → EndsAfterAccess (words_of m).layout (path_of (known_on may m d) (seat_of d).dom (requests.Copy args)) access
    IsUnmade (seat_of d).view (seat_of e).view
    → KeepsPinned d e → (steps : List Moment) × WasMade may m (requests.Probe args) (Judged Granted) steps d e

-- a copy in two halves, whose access its caller makes: it made the steps of its probe, and counts as the probe
abbrev pub HalvesAreMade : {P : Type 0} → (P → AllowRelation) → Monitor P → Type 0
HalvesAreMade may m =
    (d mid e : Domain) (args : CopyArgs) (pending : PendingCopy) → BelongsTo may m d
    → BecomesPending may m d args pending mid → EndsPending (words_of m).layout pending mid e → BelongsTo may m e
    → (steps : List Moment) × WasMade may m (requests.Probe args) (Judged Granted) steps d e

-- a load, a peek, a store or a poke that reached its access and could not make it: it made no step, and counts as never
-- asked
abbrev pub LostAccessesAreMade : {P : Type 0} → (P → AllowRelation) → Monitor P → Type 0
LostAccessesAreMade may m =
    (d e : Domain) (request : Request) (access : Step) → StaysOf may m d e → IsSingle request
    → EndsAfterAccess (words_of m).layout (path_of (known_on may m d) (seat_of d).dom request) access IsUnmade
    (seat_of d).view (seat_of e).view
    → KeepsPinned d e → WasMade may m request NoMemory [] d e
