-- The answer of an export, for the call that it made.
use Rattle.std.specs.Prelude.{◌≡◌, ◌≤◌, ◌<◌, ◌⊎◌, ℕ, List, Option, Some, None, IsSome, Result, Ok, Err, IfOk, OnOk}
use Rattle.std.specs.Prelude.{OnErr}
use Rattle.gt_c.specs.Prelude.{GrantRef, DomId, Memory, Size, Denial, Table, may, Hypercall, Record, HasNone}
use Rattle.gt_c.specs.Prelude.{AppendsRecord, KeepsRoom, CallResult, Request, Handle, Domain, Answered}
use Rattle.gt_c.specs.Prelude.{AnswersQuietly, AnswersRecorded, KeepsPinned, LeavesSettled, Settles, Departure}
use Rattle.gt_c.specs.Prelude.{LeftDomain, Resets, taken_of, MapAdds, outcome_of, reply_of, subject_of, record_of_result}
use Rattle.gt_c.specs.Prelude.{DropsTo, LeftWord, NewMapping, NamedMapping, Rule, denial_of, frame_of}
use Rattle.gt_c.specs.Prelude.{verdict_of, encoded, Seated, StaysIdle, EncodedAnswer, AttachedOutcome, CDomain}
use Rattle.gt_attached.specs.declared.answer.AttachedOutcome.TheVariants as outcomes
use Rattle.gt_audit.specs.declared.pieces.TheConstants.{MOST_RESERVED}
use Rattle.gt_types.specs.declared.denial.Facts.TheVariants as facts
use Rattle.gt_live.specs.Following.{Follows}
use Rattle.gt_c.specs.Grantees.{KeepsGrantees, NotesEntry}
use Rattle.gt_live.specs.declared.domain.following.Followed.{Followed}

-- no call was made: the handle is unchanged, and the answer gives the reason: it has no domain, or one in a copy
abbrev pub TurnedAway : Option CDomain → Option CDomain → EncodedAnswer → Type 0
TurnedAway None after answer = (after ≡ None) × (answer ≡ encoded outcomes.NoDomain)
TurnedAway (Some d) after answer =
    (after ≡ Some d) × IsSome d.attached.copying × (answer ≡ encoded outcomes.Busy)

-- the handle has a domain, which is in no copy and unchanged
abbrev pub MayBeCalled : Option CDomain → Option CDomain → Type 0
MayBeCalled None after = ⊥
MayBeCalled (Some d) after = (after ≡ Some d) × (d.attached.copying ≡ None)

-- the handle is still one of the same run
abbrev pub KeepsRun : CDomain → CDomain → Type 0
KeepsRun d e = e.run ≡ d.run

-- a call was made on the handle's domain, which was in no copy: the handle still has it, in the same run, and this holds
-- of it before and after
pub record MadeOn (before after : Option CDomain) (Holds : CDomain → CDomain → Type 0) : Type 0 where
  pub was : CDomain
  pub is : CDomain
  pub before_is : before ≡ Some was
  pub after_is : after ≡ Some is
  pub idle : was.attached.copying ≡ None
  pub run : KeepsRun was is
  pub holds : Holds was is

-- no call was made, or this one was, and it granted no entry
abbrev pub CallsAttached : Option CDomain → Option CDomain → EncodedAnswer → (CDomain → CDomain → Type 0) → Type 0
CallsAttached before after answer Holds =
    TurnedAway before after answer ⊎ MadeOn before after (λ d e. KeepsGrantees d e × Holds d e)

-- no call was made, or this one was, and it noted to whom this entry is then granted
abbrev pub CallsGranting : GrantRef → Option CDomain → Option CDomain → EncodedAnswer → (CDomain → CDomain → Type 0)
    → Type 0
CallsGranting gref before after answer Holds =
    TurnedAway before after answer ⊎ MadeOn before after (λ d e. NotesEntry gref d e × Holds d e)

-- the same for a call that returns more than its answer: if no call was made, it returns nothing more
abbrev pub CallsReporting : Option CDomain → Option CDomain → EncodedAnswer → Type 0 → (CDomain → CDomain → Type 0)
    → Type 0
CallsReporting before after answer ReportsNothing Holds =
    (TurnedAway before after answer × ReportsNothing)
    ⊎ MadeOn before after (λ d e. KeepsGrantees d e × Holds d e)

-- the call was not made, since a number does not fit: this rule refuses it, and nothing has changed
abbrev pub RefusesNumber : Rule → EncodedAnswer → Option CDomain → Option CDomain → Type 0
RefusesNumber rule answer before after =
    CallsAttached before after answer
    (λ d e. (e ≡ d) × (answer ≡ encoded (outcomes.Denied (denial_of rule facts.None))))

-- this holds, if the number has 16 bits; otherwise this rule refuses the call
abbrev pub Within16 : Rule → ℕ → EncodedAnswer → Option CDomain → Option CDomain → Type 0 → Type 0
Within16 rule n answer before after Holds =
    ((n ≤ 65535) × Holds) ⊎ ((65535 < n) × RefusesNumber rule answer before after)

-- the results of calls without a value, and of calls with one
abbrev pub outcome : Result (Unit {0}) Denial → AttachedOutcome
outcome (Ok done) = outcomes.Done
outcome (Err denial) = outcomes.Denied denial

-- a new mapping of this domain in this run, with its name
abbrev pub named_mapping : DomId → ℕ → NewMapping → NamedMapping
named_mapping dom run n =
    record {
      name = record { handle = n.handle; dom = dom; run = run };
      owner = n.held.dom;
      gref = n.held.gref;
      frame = frame_of n.held.entry;
      dir = n.held.dir;
    }

abbrev pub outcome_mapped : DomId → ℕ → Result NewMapping Denial → AttachedOutcome
outcome_mapped dom run (Ok n) = outcomes.Mapped (named_mapping dom run n)
outcome_mapped dom run (Err denial) = outcomes.Denied denial

abbrev pub outcome_released : Result LeftWord Denial → AttachedOutcome
outcome_released (Ok left) = outcomes.Released left
outcome_released (Err denial) = outcomes.Denied denial

abbrev pub outcome_frames : Result ℕ Denial → AttachedOutcome
outcome_frames (Ok frames) = outcomes.Frames frames
outcome_frames (Err denial) = outcomes.Denied denial

abbrev pub outcome_version : Result ℕ Denial → AttachedOutcome
outcome_version (Ok version) = outcomes.Version version
outcome_version (Err denial) = outcomes.Denied denial

abbrev pub outcome_size : Result Size Denial → AttachedOutcome
outcome_size (Ok size) = outcomes.Size size
outcome_size (Err denial) = outcomes.Denied denial

abbrev pub outcome_followed : Result Followed Denial → AttachedOutcome
outcome_followed (Ok followed) = outcomes.Followed followed
outcome_followed (Err denial) = outcomes.Denied denial

-- the answer encodes a result with this property; the domain keeps its monitor and its seat, and is in no copy
pub record EncodesResult {R : Type 0} (said : Result R Denial → AttachedOutcome) (Holds : Result R Denial → Type 0)
    (answer : EncodedAnswer) (d e : CDomain) : Type 0 where
  pub result : Result R Denial
  pub encodes : answer ≡ encoded (said result)
  pub stays : StaysIdle d.attached e.attached
  pub holds : Holds result

-- this request of the domain had this answer, by the steps of its path; mappings, pins and records are unchanged
abbrev pub EncodesDone : Request → EncodedAnswer → CDomain → CDomain → Type 0
EncodesDone request answer d e =
    EncodesResult outcome (λ r. AnswersQuietly may d.attached.monitor d.attached.domain request (verdict_of r) e.attached.domain)
    answer d e

-- the same for an entry of the domain that followed these bytes
abbrev pub EncodesFollowed : GrantRef → List ℕ → EncodedAnswer → CDomain → CDomain → Type 0
EncodesFollowed gref bytes answer d e =
    EncodesResult outcome_followed (λ r. Follows may d.attached.monitor d.attached.domain gref bytes r e.attached.domain)
    answer d e

-- the same for a call that is recorded, whose result gives this verdict
abbrev pub EncodesRecorded : {R : Type 0} → (Result R Denial → AttachedOutcome) → (Result R Denial → CallResult)
    → Request → Hypercall → EncodedAnswer → CDomain → CDomain → Type 0
EncodesRecorded said verdict request call answer d e =
    EncodesResult said (λ r. AnswersRecorded may d.attached.monitor d.attached.domain request call (verdict r) e.attached.domain)
    answer d e

-- the record of a map
abbrev pub record_of_map : Domain → Hypercall → Result NewMapping Denial → Record
record_of_map d call r = record { dom = d.seat.dom; call = call; reply = reply_of (outcome_of r) }

-- the same for a map, whose mapping is kept, and is named by its domain and run; the answer has what is mapped
abbrev pub EncodesMapped : Request → Hypercall → EncodedAnswer → CDomain → CDomain → Type 0
EncodesMapped request call answer d e =
    EncodesResult (outcome_mapped d.attached.domain.seat.dom d.run) (λ r.
    MapAdds may d.attached.monitor d.attached.domain request r e.attached.domain
    × AppendsRecord d.attached.domain.trail (record_of_map d.attached.domain call r) e.attached.domain.trail) answer d e

-- the same for an unmap, whose mapping is removed; the answer has its entry, and the control word that its release left
abbrev pub EncodesUnmapped : Request → (Option (DomId × GrantRef) → Hypercall) → Handle → EncodedAnswer → CDomain
    → CDomain → Type 0
EncodesUnmapped request call name answer d e =
    EncodesResult outcome_released (λ r.
    Answered may d.attached.monitor d.attached.domain request (outcome_of r) e.attached.domain
    × IfOk r (λ left. DropsTo d.attached.monitor.words.layout name left d.attached.domain.mappings
    d.attached.domain.seat.view e.attached.domain.mappings e.attached.domain.seat.view)
    × OnErr r (KeepsPinned d.attached.domain e.attached.domain)
    × AppendsRecord d.attached.domain.trail
    (record_of_result d.attached.domain (call (subject_of d.attached.domain name)) (outcome_of r))
    e.attached.domain.trail) answer d e

-- the domain keeps at most this many records, and nothing else changed
abbrev pub KeepsAtMost : ℕ → EncodedAnswer → CDomain → CDomain → Type 0
KeepsAtMost most answer d e =
    (answer ≡ encoded outcomes.Done) × StaysIdle d.attached e.attached
    × (e.attached.domain ≡ record d.attached.domain { trail = record d.attached.domain.trail { most = most } })

-- the result of a call that allocates
abbrev pub outcome_reserved : Result (Unit {0}) Memory → AttachedOutcome
outcome_reserved (Ok done) = outcomes.Done
outcome_reserved (Err refused) = outcomes.NoMemory

-- there is room for this many records, at most 2^24, if the answer is Ok, and nothing else changed; otherwise nothing
-- changed at all; the room never becomes less
pub record Reserves (records : ℕ) (answer : EncodedAnswer) (d e : CDomain) : Type 0 where
  pub result : Result (Unit {0}) Memory
  pub encodes : answer ≡ encoded (outcome_reserved result)
  pub stays : StaysIdle d.attached e.attached
  pub bound : OnOk result (records ≤ MOST_RESERVED)
  pub refused : OnErr result (e.attached.domain ≡ d.attached.domain)
  pub room : OnOk result (records ≤ e.attached.domain.trail.room)
  pub grows : d.attached.domain.trail.room ≤ e.attached.domain.trail.room
  pub kept : e.attached.domain ≡ record d.attached.domain {
    trail =
        record d.attached.domain.trail { room = e.attached.domain.trail.room };
  }

-- the domain left the run, after the end of its copy if it was in one, and the answer encodes what remains
pub record LeavesWith (s : Seated Table) (answer : EncodedAnswer) : Type 0 where
  pub gone : LeftDomain
  pub encodes : answer ≡ encoded (outcomes.Left gone.remains)
  pub leaves : LeavesSettled may s gone

-- the domain of a handle left, and the answer encodes what remains; or the handle had none, and the answer is that
abbrev pub Finishes : EncodedAnswer → Option CDomain → Option CDomain → Type 0
Finishes answer None after = (after ≡ None) × (answer ≡ encoded outcomes.NoDomain)
Finishes answer (Some d) after = (after ≡ None) × LeavesWith d.attached answer

-- a domain was made ready for the next guest in its place, after the end of its copy if it was in one: it has no copy
-- and no mapping, each of its entries was closed, and the answer encodes what remains
pub record MakesReady (s t : Seated Table) (answer : EncodedAnswer) : Type 0 where
  pub settled : Seated Table
  pub settles : Settles s settled
  pub remains : Departure
  pub encodes : answer ≡ encoded (outcomes.Left remains)
  pub stays : StaysIdle settled t
  pub resets : Resets may settled.monitor settled.domain remains.in_use t.domain
  pub lost : remains.lost ≡ settled.domain.trail.lost

-- the domain of a handle was made ready; or the handle had none, and the answer is that
abbrev pub ResetsAttached : EncodedAnswer → Option CDomain → Option CDomain → Type 0
ResetsAttached answer None after = (after ≡ None) × (answer ≡ encoded outcomes.NoDomain)
ResetsAttached answer (Some d) None = ⊥
ResetsAttached answer (Some d) (Some e) = KeepsRun d e × KeepsGrantees d e × MakesReady d.attached e.attached answer

-- the records of a domain were dropped, the answer encodes their number and the number lost before, their room is kept,
-- and nothing else changed
abbrev pub TakesAll : EncodedAnswer → CDomain → CDomain → Type 0
TakesAll answer d e =
    (answer ≡ encoded (outcomes.Taken (taken_of d.attached.domain.trail))) × StaysIdle d.attached e.attached
    × HasNone e.attached.domain.trail × (e.attached.domain.trail.most ≡ d.attached.domain.trail.most)
    × KeepsRoom d.attached.domain.trail e.attached.domain.trail
    × (e.attached.domain ≡ record d.attached.domain { trail = e.attached.domain.trail })

-- the reference with this number, and the domain
abbrev pub ref_at : ℕ → GrantRef
ref_at gref = record { 0 = gref }

abbrev pub dom_of : ℕ → DomId
dom_of dom = record { 0 = dom }
