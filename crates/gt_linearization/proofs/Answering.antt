-- A call of a list that was answered is a call of a run.
use Rattle.std.proofs.Common.{◌≡◌, ◌⊎◌, inl, inr, ℕ, List, [], Result, Ok, Err, refl, sym, ap, ◌∙◌, subst}
use Rattle.gt_types.specs.declared.DomId.{DomId}
use Rattle.gt_types.specs.declared.Size.{Size}
use Rattle.gt_types.specs.declared.denial.Denial.{Denial}
use Rattle.gt_word_history.specs.History.{Moment}
use Rattle.gt_model.specs.declared.handle.Handle.{Handle}
use Rattle.gt_model.specs.declared.action.CallResult.{CallResult}
use Rattle.gt_model.specs.Asking.{asked}
use Rattle.gt_model.specs.declared.request.Request.{Request}
use Rattle.gt_model.specs.declared.request.Request.TheVariants as requests
use Rattle.gt_core.specs.Acting.{answer_of}
use Rattle.gt_model.specs.declared.trace.Answer.{Answer}
use Rattle.gt_model.specs.declared.trace.Bytes.{Bytes}
use Rattle.gt_model.specs.declared.trace.Answer.TheVariants as answers
use Rattle.gt_frames.specs.Receipts.{Copying, Reading, Writing}
use Rattle.gt_types.specs.declared.copies.CopyArgs.{CopyArgs}
use Rattle.gt_model.specs.declared.action.CallResult.TheVariants.{Granted, Refused}
use Rattle.gt_model.specs.Path.{path_of}
use Rattle.gt_model.specs.declared.action.Step.{Step}
use Rattle.gt_types.specs.declared.GrantRef.{GrantRef}
use Rattle.gt_word_history.specs.declared.view.View.{View}
use Rattle.gt_live.specs.Accesses.{EndsAfterAccess, HasCause, IsCopiedBy, IsOfAccess, IsReadBy, IsUnmade, IsWrittenBy}
use Rattle.gt_live.specs.Domains.{AnswersWithAccess, AllowRelation, Answered, KeepsPinned, known_on, verdict_of}
use Rattle.gt_live.specs.Domains.{verdict_of_frames, verdict_of_size, verdict_of_version}
use Rattle.gt_live.specs.Ending.{IsOfMapping}
use Rattle.gt_live.specs.declared.domain.Domain.{Domain}
use Rattle.gt_live.specs.declared.monitor.Monitor.{Monitor}
use Rattle.gt_linearization.proofs.Called.{map-made, plain-made, release-made, unmap-made}
use Rattle.gt_linearization.proofs.Accessing.{copies-made, lost-made, reads-made, writes-made}
use Rattle.gt_linearization.proofs.Probed.{lost-copies}
use Rattle.gt_linearization.specs.Calling.{IsLoadOrPeek, IsOutcomeOf, IsSingle, IsStoring, StaysOf, WasMade}
use Rattle.gt_linearization.specs.Runs.{FitsTypes, KeepsNoPin, CallOutcome}
use Rattle.gt_linearization.specs.Runs.CallOutcome.{Judged, MadeMapping, NoMemory, Read, Written}
use Rattle.gt_run.specs.Asking.{AnswersCall, HasBytes, IsReadAnswer, frames_answer, mapped_answer, plain_answer}
use Rattle.gt_run.specs.Asking.{size_answer, version_answer}
use Rattle.gt_linearization.proofs.KeptFrames.{MakesOne, never-missing}
use Rattle.gt_linearization.specs.Printed.{IsAllocating}
use Rattle.gt_linearization.specs.Texts.{IsMemoryRefusal, OutcomeGivesAnswer}

-- what is printed is what the call answered

plain-same : (r : Result (Unit {0}) Denial) → plain_answer r ≡ answer_of (verdict_of r)
plain-same (Ok done) = refl
plain-same (Err denial) = refl

plain-pin : (r : Result (Unit {0}) Denial) → KeepsNoPin (verdict_of r)
plain-pin (Ok done) = tt
plain-pin (Err denial) = tt

frames-same : (r : Result ℕ Denial) → frames_answer r ≡ answer_of (verdict_of_frames r)
frames-same (Ok frames) = refl
frames-same (Err denial) = refl

frames-pin : (r : Result ℕ Denial) → KeepsNoPin (verdict_of_frames r)
frames-pin (Ok frames) = tt
frames-pin (Err denial) = tt

size-same : (r : Result Size Denial) → size_answer r ≡ answer_of (verdict_of_size r)
size-same (Ok size) = refl
size-same (Err denial) = refl

size-pin : (r : Result Size Denial) → KeepsNoPin (verdict_of_size r)
size-pin (Ok size) = tt
size-pin (Err denial) = tt

version-same : (r : Result ℕ Denial) → version_answer r ≡ answer_of (verdict_of_version r)
version-same (Ok version) = refl
version-same (Err denial) = refl

version-pin : (r : Result ℕ Denial) → KeepsNoPin (verdict_of_version r)
version-pin (Ok version) = tt
version-pin (Err denial) = tt

-- a call with no memory is one that allocates
abbrev pub LacksMemoryOnly : CallOutcome → Request → Type 0
LacksMemoryOnly NoMemory request = IsAllocating request
LacksMemoryOnly outcome request = Unit {0}

map-same : {P : Type 0} (m : Monitor P) (r : Result Handle Denial) (outcome : CallOutcome) → IsOutcomeOf r outcome → OutcomeGivesAnswer m outcome (mapped_answer r)
map-same m (Ok handle) (MadeMapping given p) e = ap (λ (h : Handle). answers.Mapped h) (sym e)
map-same m (Ok handle) (Judged verdict) e = absurd e
map-same m (Ok handle) NoMemory e = absurd e
map-same m (Ok handle) (Read bytes) e = absurd e
map-same m (Ok handle) Written e = absurd e
map-same m (Err denial) (MadeMapping given p) e = absurd e
map-same m (Err denial) (Judged verdict) e = sym (ap answer_of e)
map-same m (Err denial) NoMemory e = (denial, refl, inl e)
map-same m (Err denial) (Read bytes) e = absurd e
map-same m (Err denial) Written e = absurd e

map-only : (dom : DomId) (gref : GrantRef) (flags : ℕ) (outcome : CallOutcome) → LacksMemoryOnly outcome (requests.Map dom gref flags)
map-only dom gref flags (Judged verdict) = tt
map-only dom gref flags (MadeMapping handle p) = tt
map-only dom gref flags NoMemory = tt
map-only dom gref flags (Read bytes) = tt
map-only dom gref flags Written = tt

single-one : (request : Request) → IsSingle request → MakesOne request
single-one (requests.Load handle off len) is = tt
single-one (requests.Store handle off bytes) is = tt
single-one (requests.Peek frame off len) is = tt
single-one (requests.Poke frame off bytes) is = tt
single-one request is = absurd is

single-allocates : (request : Request) → IsSingle request → IsAllocating request
single-allocates (requests.Load handle off len) is = tt
single-allocates (requests.Store handle off bytes) is = tt
single-allocates (requests.Peek frame off len) is = tt
single-allocates (requests.Poke frame off bytes) is = tt
single-allocates request is = absurd is

module _ {P : Type 0} (may : P → AllowRelation) (m : Monitor P) where
  -- a call that was answered so is one of a run
  abbrev pub IsMade : Request → Answer → Domain → Domain → Type 0
  IsMade request answer d e = (outcome : CallOutcome) × (steps : List Moment) × OutcomeGivesAnswer m outcome answer × WasMade may m request outcome steps d e × LacksMemoryOnly outcome request

  -- a copy that was answered so could not make its access, and its probe is a call of a run
  abbrev pub IsLostAs : Request → Answer → Domain → Domain → Type 0
  IsLostAs request answer d e =
      (args : CopyArgs) × (request ≡ requests.Copy args) × (denial : Denial) × (answer ≡ answers.Denied denial) × IsMemoryRefusal m denial
      × ((steps : List Moment) × WasMade may m (requests.Probe args) (Judged Granted) steps d e)

  abbrev IsNoCopy : Request → Type 0
  IsNoCopy (requests.Copy args) = ⊥
  IsNoCopy request = Unit {0}

  module _ (d e : Domain) (stays : StaysOf may m d e) where
    -- an access that could not be made was refused with N26, or a frame is missing
    lost-is : (request : Request) → MakesOne request → (access : Step) (denial : Denial) (v w : View) → EndsAfterAccess m.words.layout (path_of (known_on may m d) d.seat.dom request) access IsUnmade v w → HasCause m.words access denial
        → IsOfAccess denial → IsMemoryRefusal m denial
    lost-is request one access denial v w a cause (inl e) = inl e
    lost-is request one access denial v w a cause (inr e) = inr (e, λ all. never-missing may m all d stays.before request one access denial v w a cause e)

    plain : (request : Request) (verdict : CallResult) (told answer : Answer) → (IsOfMapping (asked request) → ⊥) → FitsTypes request → KeepsNoPin verdict → told ≡ answer_of verdict → answer ≡ told → Answered may m d request verdict e → KeepsPinned d e → IsMade request answer d e
    plain request verdict told answer other fits none same is answered kept =
        let z = plain-made may m d e request verdict stays other fits none answered kept in (Judged verdict, z.0, is ∙ same, z.1, tt)

    -- a store or a poke: it wrote, a rule refused it, or its access could not be made
    storing : (request : Request) → IsStoring request → IsSingle request → (IsOfMapping (asked request) → ⊥) → FitsTypes request → (answer : Answer) (r : Result Writing Denial) → answer ≡ plain_answer r
        → AnswersWithAccess may m d request (IsWrittenBy m.words.layout d request) r e → KeepsPinned d e → IsMade request answer d e
    storing request is one other fits answer (Ok w) told accessed kept = let z = writes-made may m d e request w stays is accessed kept in (Written, z.0, told, z.1, tt)
    storing request is one other fits answer (Err denial) told (inl called) kept = plain request (Refused denial) (answers.Denied denial) answer other fits tt refl told called kept
    storing request is one other fits answer (Err denial) told (inr lost) kept = (NoMemory, [], (denial, told, lost-is request (single-one request one) lost.0 denial _ _ lost.1 lost.3 lost.2), lost-made may m d e request lost.0 stays one lost.1 kept, single-allocates request one)

    bytes-in : (ys : List ℕ) (answer : Answer) → HasBytes ys answer → (b : Bytes) × (answer ≡ answers.Bytes b) × (b.bytes.items ≡ ys)
    bytes-in ys (answers.Bytes b) h = (b, refl, h)
    bytes-in ys answer h = absurd h

    -- a load or a peek
    loading : (request : Request) → IsLoadOrPeek request → IsSingle request → (IsOfMapping (asked request) → ⊥) → FitsTypes request → (answer : Answer) (r : Result Reading Denial) → IsReadAnswer r answer
        → AnswersWithAccess may m d request (IsReadBy m.words.layout) r e → KeepsPinned d e → IsMade request answer d e
    loading request is one other fits answer (Ok r) told accessed kept =
        let b = bytes-in r.bytes answer told in let z = reads-made may m d e request r b.0 stays is b.2 accessed kept in (Read b.0, z.0, b.1, z.1, tt)
    loading request is one other fits answer (Err denial) told (inl called) kept = plain request (Refused denial) (answers.Denied denial) answer other fits tt refl told called kept
    loading request is one other fits answer (Err denial) told (inr lost) kept = (NoMemory, [], (denial, told, lost-is request (single-one request one) lost.0 denial _ _ lost.1 lost.3 lost.2), lost-made may m d e request lost.0 stays one lost.1 kept, single-allocates request one)

    -- a copy
    copying : (args : CopyArgs) (answer : Answer) → FitsTypes (requests.Copy args) → (r : Result Copying Denial) → answer ≡ plain_answer r
        → AnswersWithAccess may m d (requests.Copy args) (IsCopiedBy (known_on may m d) m.words.layout d args) r e → KeepsPinned d e → IsMade (requests.Copy args) answer d e ⊎ IsLostAs (requests.Copy args) answer d e
    copying args answer fits (Ok r) told accessed kept = let z = copies-made may m d e args r stays fits accessed kept in inl (Written, z.0, told, z.1, tt)
    copying args answer fits (Err denial) told (inl called) kept = inl (plain (requests.Copy args) (Refused denial) (answers.Denied denial) answer (λ q. q) fits tt refl told called kept)
    copying args answer fits (Err denial) told (inr lost) kept =
        inr (args, refl, denial, told, lost-is (requests.Copy args) tt lost.0 denial _ _ lost.1 lost.3 lost.2, lost-copies may m d e args lost.0 stays lost.1 kept)

    made-plainly : (request : Request) (answer : Answer) → IsNoCopy request → FitsTypes request → AnswersCall may m d request answer e → IsMade request answer d e
    made-plainly (requests.Map dom gref flags) answer quiet fits x = let z = map-made may m d e dom gref flags x.0 stays x.2 in
        (z.0, z.2.0, subst (OutcomeGivesAnswer m z.0) (sym x.1) (map-same m x.0 z.0 z.1), z.2.1, map-only dom gref flags z.0)
    made-plainly (requests.Unmap handle) answer quiet fits x = let z = unmap-made may m d e handle x.0 stays x.2 x.3 x.4 in (Judged (verdict_of x.0), z.0, x.1 ∙ plain-same x.0, z.1, tt)
    made-plainly (requests.Release handle) answer quiet fits x = let z = release-made may m d e handle x.0 stays x.2 x.3 x.4 in (Judged (verdict_of x.0), z.0, x.1 ∙ plain-same x.0, z.1, tt)
    made-plainly (requests.SetVersion version) answer quiet fits x = plain (requests.SetVersion version) (verdict_of x.0) (plain_answer x.0) answer (λ q. q) fits (plain-pin x.0) (plain-same x.0) x.1 x.2.0 x.2.1
    made-plainly (requests.SetupTable frames) answer quiet fits x = plain (requests.SetupTable frames) (verdict_of_frames x.0) (frames_answer x.0) answer (λ q. q) fits (frames-pin x.0) (frames-same x.0) x.1 x.2.0 x.2.1
    made-plainly (requests.QuerySize dom) answer quiet fits x = plain (requests.QuerySize dom) (verdict_of_size x.0) (size_answer x.0) answer (λ q. q) fits (size-pin x.0) (size-same x.0) x.1 x.2.0 x.2.1
    made-plainly (requests.GetVersion dom) answer quiet fits x = plain (requests.GetVersion dom) (verdict_of_version x.0) (version_answer x.0) answer (λ q. q) fits (version-pin x.0) (version-same x.0) x.1 x.2.0 x.2.1
    made-plainly (requests.Load handle off len) answer quiet fits x = loading (requests.Load handle off len) tt tt (λ q. q) fits answer x.0 x.1 x.2.0 x.2.1
    made-plainly (requests.Peek frame off len) answer quiet fits x = loading (requests.Peek frame off len) tt tt (λ q. q) fits answer x.0 x.1 x.2.0 x.2.1
    made-plainly (requests.Store handle off bytes) answer quiet fits x = storing (requests.Store handle off bytes) tt tt (λ q. q) fits answer x.0 x.1 x.2.0 x.2.1
    made-plainly (requests.Poke frame off bytes) answer quiet fits x = storing (requests.Poke frame off bytes) tt tt (λ q. q) fits answer x.0 x.1 x.2.0 x.2.1
    made-plainly (requests.Copy args) answer quiet fits x = absurd quiet
    made-plainly (requests.Probe args) answer quiet fits x = plain (requests.Probe args) (verdict_of x.0) (plain_answer x.0) answer (λ q. q) fits (plain-pin x.0) (plain-same x.0) x.1 x.2.0 x.2.1
    made-plainly (requests.Grant gref entry) answer quiet fits x = plain (requests.Grant gref entry) (verdict_of x.0) (plain_answer x.0) answer (λ q. q) fits (plain-pin x.0) (plain-same x.0) x.1 x.2.0 x.2.1
    made-plainly (requests.GrantBytes gref bytes) answer quiet fits x = plain (requests.GrantBytes gref bytes) (verdict_of x.0) (plain_answer x.0) answer (λ q. q) fits (plain-pin x.0) (plain-same x.0) x.1 x.2.0 x.2.1
    made-plainly (requests.Revoke gref) answer quiet fits x = plain (requests.Revoke gref) (verdict_of x.0) (plain_answer x.0) answer (λ q. q) fits (plain-pin x.0) (plain-same x.0) x.1 x.2.0 x.2.1
    made-plainly (requests.Withdraw gref) answer quiet fits x = plain (requests.Withdraw gref) (verdict_of x.0) (plain_answer x.0) answer (λ q. q) fits (plain-pin x.0) (plain-same x.0) x.1 x.2.0 x.2.1
    made-plainly (requests.Demote gref) answer quiet fits x = plain (requests.Demote gref) (verdict_of x.0) (plain_answer x.0) answer (λ q. q) fits (plain-pin x.0) (plain-same x.0) x.1 x.2.0 x.2.1
    made-plainly (requests.Promote gref) answer quiet fits x = plain (requests.Promote gref) (verdict_of x.0) (plain_answer x.0) answer (λ q. q) fits (plain-pin x.0) (plain-same x.0) x.1 x.2.0 x.2.1

    pub is-made : (request : Request) (answer : Answer) → FitsTypes request → AnswersCall may m d request answer e → IsMade request answer d e ⊎ IsLostAs request answer d e
    is-made (requests.Copy args) answer fits x = copying args answer fits x.0 x.1 x.2 x.3
    is-made request answer fits x = inl (made-plainly request answer tt fits x)
