-- What a domain keeps, how it agrees with what its seat did, and the results of its calls.
use Rattle.std.specs.Prelude.{◌≡◌, ◌⊎◌, ℕ, ◌<◌, Bool, length, List, [], ◌∷◌, Option, Some, None, Result, Ok, Err}
use Rattle.gt_live.specs.Prelude.{DomId, TypeId, GrantRef, Size, Hypercall, Record, Reply, Perms, Config, Denial, N16}
use Rattle.gt_live.specs.Prelude.{N26, TABLE_ENTRIES, denial_of, Board, IsSameSeat, IsSeatOf, KeepsPins, Unpins}
use Rattle.gt_live.specs.Prelude.{generation_of, Moment, Layout, position_in, last_of, own_table, live_pins, steps_on}
use Rattle.gt_live.specs.Prelude.{View, HandleMap, value_of, Handle, CallResult, Granted, Given, Mapped, Refused}
use Rattle.gt_live.specs.Prelude.{Frames, Version, HeldPin, CopyArgs, Request, Copying, begun_of, path_of}
use Rattle.gt_live.specs.Prelude.{CallerKnowledge, knowledge_of, entry_in, own_generation, Domain, Departed, Monitor}
use Rattle.gt_live.specs.Prelude.{AccessFault, Gone, Step}
use Rattle.gt_words.specs.declared.frames.AccessFault.TheVariants as access_faults
use Rattle.gt_model.specs.declared.action.CallValue.TheVariants as call_values
use Rattle.gt_types.specs.declared.denial.Facts.TheVariants as facts
use Rattle.gt_audit.specs.Trails.{AppendsRecord}
use Rattle.gt_audit.specs.declared.record.Hypercall.TheVariants as hypercalls
use Rattle.gt_audit.specs.declared.record.Reply.TheVariants as replies
use Rattle.gt_live.specs.Mappings.{AddsMapping, IsMappingOf, KeepsMappings, PinsAreOf, Removes}
use Rattle.gt_live.specs.Accesses.{AnsweredAtAccess, IsOfMissing}
use Rattle.gt_live.specs.Ending.{IsWordless}
use Rattle.gt_live.specs.Walks.{AreMoments, Called, view_after}

-- which type may do what to which type (XSM FLASK)
abbrev pub AllowRelation : Type 0
AllowRelation = TypeId → TypeId → Perms → Bool

-- what a domain knows without a look
abbrev pub knowledge : Config → AllowRelation → Domain → CallerKnowledge
knowledge c may d = knowledge_of c.domains.items c.first_gen may d.own.items (own_table d.seat.view) d.mappings

-- the domain belongs to the run of these words and knows its own entries, and its seat has exactly the pins of its
-- mappings
pub record IsDomainOf (b : Board) (c : Config) (may : AllowRelation) (d : Domain) : Type 0 where
  pub seat : IsSeatOf b d.seat
  pub rows : (r : ℕ) → r < TABLE_ENTRIES → last_of r d.seat.view
      ≡ record { generation = own_generation c.first_gen d.own.items r; entry = entry_in d.own.items r }
  pub generations : (r : ℕ) → r < TABLE_ENTRIES → own_generation c.first_gen d.own.items r < 1048576
  pub all_rows : length d.own.items ≡ TABLE_ENTRIES
  pub mapped : (h : Handle) (m : HeldPin) → value_of d.mappings h ≡ Some m
      → IsMappingOf b.layout c.domains.items may d.seat.dom d.seat.view m
  pub pins : PinsAreOf b.layout d.seat.view d.mappings

-- the domain came with this monitor
abbrev pub BelongsTo : {P : Type 0} → (P → AllowRelation) → Monitor P → Domain → Type 0
BelongsTo may m d = IsDomainOf m.words m.config (may m.rights) d

-- what the domain knows without a look, and what the monitor allows
abbrev pub known_on : {P : Type 0} → (P → AllowRelation) → Monitor P → Domain → CallerKnowledge
known_on may m d = knowledge m.config (may m.rights) d

-- a call of the domain d had this request and this result, and the domain is then e: its steps are those of the call's
-- path, each made as the words promise, and the result is the path's
abbrev pub Answered : {P : Type 0} → (P → AllowRelation) → Monitor P → Domain → Request → CallResult → Domain → Type 0
Answered may m d request verdict e =
    Called m.words.layout (path_of (known_on may m d) d.seat.dom request) verdict d.seat.view e.seat.view

-- the same for a call with an access, which makes this of the seat's view with its value
abbrev pub AnswersWithAccess : {P R : Type 0} → (P → AllowRelation) → Monitor P → Domain → Request
    → (Step → R → View → View → Type 0) → Result R Denial → Domain → Type 0
AnswersWithAccess may m d request makes result e =
    AnsweredAtAccess m.words (path_of (known_on may m d) d.seat.dom request) makes result d.seat.view e.seat.view

-- the domain has the same mappings and pins as before
abbrev pub KeepsPinned : Domain → Domain → Type 0
KeepsPinned d e = KeepsMappings d.mappings e.mappings × KeepsPins d.seat.view e.seat.view

-- the refusal of a result; Ok if there is none
abbrev pub outcome_of : {R : Type 0} → Result R Denial → CallResult
outcome_of (Ok value) = Granted
outcome_of (Err denial) = Refused denial

-- the result of a call without a value
abbrev pub verdict_of : Result (Unit {0}) Denial → CallResult
verdict_of result = outcome_of result

-- the result of a call that returns a version (grant_table.h)
abbrev pub verdict_of_version : Result ℕ Denial → CallResult
verdict_of_version (Ok version) = Given (Version version)
verdict_of_version (Err denial) = Refused denial

-- the result of a call that returns a table's size (grant_table.h)
abbrev pub verdict_of_size : Result Size Denial → CallResult
verdict_of_size (Ok size) = Given (call_values.Size size)
verdict_of_size (Err denial) = Refused denial

-- the result of a call that returns the number of frames that a table then has (grant_table.h)
abbrev pub verdict_of_frames : Result ℕ Denial → CallResult
verdict_of_frames (Ok frames) = Given (Frames frames)
verdict_of_frames (Err denial) = Refused denial

-- the result of a map. Either it is the result of its path, which ends with the mapping that is kept under the returned
-- handle. Or no rule applied at its beginning and there was no room and no memory for a mapping: then it is N26, and no
-- step was made
abbrev pub MapAnswered : {P : Type 0} → (P → AllowRelation) → Monitor P → Domain → Request → Result Handle Denial
    → Domain → Type 0
MapAnswered may m d request (Ok handle) e =
    (p : HeldPin) × Answered may m d request (Mapped p) e × AddsMapping d.mappings e.mappings handle p
MapAnswered may m d request (Err denial) e =
    (Answered may m d request (Refused denial) e
    ⊎ ((denial ≡ denial_of N26 facts.None) × (begun_of (known_on may m d) d.seat.dom request ≡ None)
    × (d.mappings.room ≡ 0) × (e.seat.view ≡ d.seat.view)))
    × KeepsPinned d e

-- a rule applies at the beginning of this request, and refuses it without a word of an entry
pub record IsRefused (c : CallerKnowledge) (caller : DomId) (request : Request) (denial : Denial) : Type 0 where
  pub answered : begun_of c caller request ≡ Some (Refused denial)
  pub wordless : IsWordless denial.facts

-- a call that needs no memory was refused: a rule applied at its beginning, or the table does not keep its frame
abbrev pub IsRefusedWithoutMemory : {P : Type 0} → (P → AllowRelation) → Monitor P → Domain → Request → Denial → Type 0
IsRefusedWithoutMemory may m d request denial =
    IsRefused (known_on may m d) d.seat.dom request denial ⊎ IsOfMissing denial

-- only the seat of the domain has made steps, and nothing else has changed yet
pub record IsUnsettled (d e : Domain) : Type 0 where
  pub seat : IsSameSeat d.seat e.seat
  pub own : e.own ≡ d.own
  pub mappings : e.mappings ≡ d.mappings
  pub trail : e.trail ≡ d.trail

-- a domain of a run is still one of it
abbrev pub StaysOfRun : Domain → Domain → Type 0
StaysOfRun d e = (b : Board) (c : Config) (may : AllowRelation) → IsDomainOf b c may d → IsDomainOf b c may e

-- Ok, or the refusal
abbrev pub done_by : CallResult → Result (Unit {0}) Denial
done_by (Refused denial) = Err denial
done_by verdict = Ok tt

-- the number of frames in a result, 0 if it has none
abbrev pub frames_granted : CallResult → Result ℕ Denial
frames_granted (Refused denial) = Err denial
frames_granted (Given (Frames frames)) = Ok frames
frames_granted verdict = Ok 0

-- the pins of the mappings under these handles were released, one after another, the last handle first, and nothing
-- else was done
abbrev pub Released : Layout → List Handle → HandleMap HeldPin → View → HandleMap HeldPin → View → Type 0
Released k [] old v new w = (new ≡ old) × (w ≡ v)
Released k (h ∷ hs) old v new w =
    (m : HeldPin) × (mid : HandleMap HeldPin) × (u : View) × Released k hs old v mid u × Removes mid new h m
    × Unpins k (position_in k.ids m.dom) m.gref.0 m.dir (generation_of m.word) u w

-- the mapping under this handle was dropped, and its pin was released
abbrev pub Drops : Layout → Handle → HandleMap HeldPin → View → HandleMap HeldPin → View → Type 0
Drops k h old v new w =
    (m : HeldPin) × Removes old new h m × Unpins k (position_in k.ids m.dom) m.gref.0 m.dir (generation_of m.word) v w

-- a domain has left: the pin of each of its mappings was released, one after another, each at its moment, and nothing
-- else was done; its seat has no pin
pub record HasLeft (k : Layout) (d : Domain) (l : Departed) : Type 0 where
  pub handles : List Handle
  pub rest : HandleMap HeldPin
  pub released : Released k handles d.mappings d.seat.view rest l.seat.view
  pub steps : List Moment
  pub view : l.seat.view ≡ view_after steps d.seat.view
  pub moments : AreMoments k d.seat.view steps
  pub all_given : (h : Handle) → value_of rest h ≡ None
  pub seat : IsSameSeat d.seat l.seat
  pub records : l.trail ≡ d.trail
  pub no_pins : (t r : ℕ) → live_pins (steps_on t r l.seat.view) ≡ []

-- the refusal of a call that was refused
abbrev pub denial_in : CallResult → Denial
denial_in (Refused denial) = denial
denial_in verdict = denial_of N26 facts.None

-- the refusal of a call whose access was not made
abbrev pub not_made : AccessFault → Denial
not_made Gone = denial_of N16 facts.None
not_made access_faults.Memory = denial_of N26 facts.None

-- what a record keeps of a result
abbrev pub reply_of : CallResult → Reply
reply_of Granted = replies.Done
reply_of (Mapped p) = replies.Done
reply_of (Given (Frames frames)) = replies.Frames frames
reply_of (Given (call_values.Size size)) = replies.Size size
reply_of (Given (Version version)) = replies.Version version
reply_of (Refused denial) = replies.Denied denial

-- what a record keeps of the result of a map
abbrev pub mapping_reply : Result Handle Denial → Reply
mapping_reply result = reply_of (outcome_of result)

-- the result that a reply represents
abbrev pub result_of_reply : Reply → CallResult
result_of_reply replies.Done = Granted
result_of_reply (replies.Frames frames) = Given (Frames frames)
result_of_reply (replies.Size size) = Given (call_values.Size size)
result_of_reply (replies.Version version) = Given (Version version)
result_of_reply (replies.Denied denial) = Refused denial

-- the record of a call of this domain with this result
abbrev pub record_of_result : Domain → Hypercall → CallResult → Record
record_of_result d call verdict = record { dom = d.seat.dom; call = call; reply = reply_of verdict }

-- a call that is not recorded had this result: the domain has the same mappings, pins and records as before
abbrev pub AnswersQuietly : {P : Type 0} → (P → AllowRelation) → Monitor P → Domain → Request → CallResult → Domain
    → Type 0
AnswersQuietly may m d request verdict e =
    Answered may m d request verdict e × KeepsPinned d e × (e.trail ≡ d.trail)

-- a call that is recorded had this result: the domain has the same mappings and pins as before, and one more record, of
-- this call, which is kept or counted as lost
abbrev pub AnswersRecorded : {P : Type 0} → (P → AllowRelation) → Monitor P → Domain → Request → Hypercall → CallResult
    → Domain
    → Type 0
AnswersRecorded may m d request call verdict e =
    Answered may m d request verdict e × KeepsPinned d e
    × AppendsRecord d.trail (record_of_result d call verdict) e.trail

-- a call with an access that is not recorded had this result: the domain has the same mappings, pins and records as
-- before
abbrev pub AccessesQuietly : {P R : Type 0} → (P → AllowRelation) → Monitor P → Domain → Request
    → (Step → R → View → View → Type 0) → Result R Denial → Domain → Type 0
AccessesQuietly may m d request makes result e =
    AnswersWithAccess may m d request makes result e × KeepsPinned d e × (e.trail ≡ d.trail)

-- the domain still belongs to this monitor's run, with the same seat
abbrev pub StaysIn : {P : Type 0} → (P → AllowRelation) → Monitor P → Domain → Domain → Type 0
StaysIn may m d e = BelongsTo may m e × IsSameSeat d.seat e.seat

-- the entry that a pin is of
abbrev pub subject_in : Option HeldPin → Option (DomId × GrantRef)
subject_in None = None
subject_in (Some p) = Some (p.dom, p.gref)

-- the entry that the mapping under this handle is of, if there is one
abbrev pub subject_of : Domain → Handle → Option (DomId × GrantRef)
subject_of d handle = subject_in (value_of d.mappings handle)

-- what a record keeps of the result of a copy
abbrev pub copy_reply : Result Copying Denial → Reply
copy_reply result = reply_of (outcome_of result)

-- the record of a copy of this domain with this result
abbrev pub record_of_copy : Domain → CopyArgs → Result Copying Denial → Record
record_of_copy d c result =
    record {
      dom = d.seat.dom;
      call = hypercalls.Copy c.source c.dest c.len c.flags;
      reply = copy_reply result;
    }
