-- What a contract sees of an attached domain, and how its copies begin and end.
use Rattle.std.specs.Prelude.{◌≡◌, ◌⊎◌, length, Bool, true, false, Option, Some, None, Result, Ok, Err}
use Rattle.gt_types.specs.declared.denial.Denial.{Denial}
use Rattle.gt_audit.specs.Trails.{TrailState, AppendsRecord}
use Rattle.gt_model.specs.declared.action.CallResult.TheVariants.{Refused}
use Rattle.gt_types.specs.declared.copies.CopyArgs.{CopyArgs}
use Rattle.gt_model.specs.declared.request.Request.TheVariants as requests
use Rattle.gt_words.specs.Conditions.{IsSameSeat}
use Rattle.gt_live.specs.declared.domain.Domain.{Domain}
use Rattle.gt_live.specs.declared.domain.copies.PendingCopy.{PendingCopy}
use Rattle.gt_live.specs.declared.monitor.Monitor.{Monitor}
use Rattle.gt_live.specs.Closing.{Resets}
use Rattle.gt_live.specs.Copies.{pending_from, pending_to}
use Rattle.gt_live.specs.Domains.{AllowRelation, Answered, BelongsTo, HasLeft, KeepsPinned, record_of_copy}
use Rattle.gt_live.specs.Halves.{BecomesPending, EndsPending, IsPending, done_copy}
use Rattle.gt_live.specs.Releasing.{PendingLeaves}
use Rattle.gt_live.specs.declared.access_paths.CopyWords.{CopyWords}
use Rattle.gt_live.specs.Parts.{seat_of, trail_left, trail_of, with_trail, words_of}
use Rattle.gt_attached.specs.declared.answer.TakenCounts.{TakenCounts}
use Rattle.gt_attached.specs.declared.attachment.CopyPlaces.{CopyPlaces}
use Rattle.gt_attached.specs.declared.attachment.LeftDomain.{LeftDomain}

-- a domain, its monitor, and the copy that it is in
pub record Seated (P : Type 0) : Type 0 where
  pub monitor : Monitor P
  pub domain : Domain
  pub copying : Option PendingCopy

-- the copy that a domain is in, if it is in one
abbrev pub copy_in_place : Bool → PendingCopy → Option PendingCopy
copy_in_place true h = Some h
copy_in_place false h = None

-- a domain beside its monitor, in this copy if there is one
abbrev pub seated : {P : Type 0} → Monitor P → Domain → Option PendingCopy → Seated P
seated m d copying = record { monitor = m; domain = d; copying = copying }

-- the domain, which records no call
abbrev pub unrecorded : Domain → Domain
unrecorded d = with_trail d (record (trail_of d) { most = 0 })

-- the domain came with this monitor, or is at the access of this copy
abbrev pub StandsBy : {P : Type 0} → (P → AllowRelation) → Monitor P → Domain → Option PendingCopy → Type 0
StandsBy may m d None = BelongsTo may m d
StandsBy may m d (Some h) = IsPending may m h d

-- the monitor and the domain's seat are the same, and the domain is in no copy
abbrev pub StaysIdle : {P : Type 0} → Seated P → Seated P → Type 0
StaysIdle s t = (t.monitor ≡ s.monitor) × (t.copying ≡ None) × IsSameSeat (seat_of s.domain) (seat_of t.domain)

-- the places of a copy at its access
abbrev pub copy_places_of : PendingCopy → CopyPlaces
copy_places_of h = record { from = pending_from h; to = pending_to h; len = h.copy.len }

-- the result of the beginning of a copy. Ok: it reached its access, where the domain now is, and returned its places.
-- Refused: by its path; the domain keeps its mappings and pins, is in no copy, and recorded the call
abbrev pub BeginsAccess : {P : Type 0} → (P → AllowRelation) → Seated P → CopyArgs → Result CopyPlaces Denial → Seated P
    → Type 0
BeginsAccess may s copy (Ok places) t =
    (h : PendingCopy) × (t.copying ≡ Some h) × (places ≡ copy_places_of h) × (t.monitor ≡ s.monitor)
    × BecomesPending may s.monitor s.domain copy h t.domain
BeginsAccess may s copy (Err denial) t =
    StaysIdle s t × Answered may s.monitor s.domain (requests.Copy copy) (Refused denial) t.domain
    × KeepsPinned s.domain t.domain
    × AppendsRecord (trail_of s.domain) (record_of_copy s.domain copy (Err denial)) (trail_of t.domain)

-- the pins of the copy that the domain was in were released, and the copy was recorded as Ok
abbrev pub EndsAccess : {P : Type 0} → Seated P → Seated P → Type 0
EndsAccess s t =
    (h : PendingCopy) × (s.copying ≡ Some h) × StaysIdle s t
    × EndsPending (words_of s.monitor).layout h s.domain t.domain
    × AppendsRecord (trail_of s.domain) (done_copy s.domain h.copy) (trail_of t.domain)

-- the pins of the copy that the domain was in were released, which left these control words
abbrev pub EndsAccessTo : {P : Type 0} → CopyWords → Seated P → Seated P → Type 0
EndsAccessTo left s t =
    (h : PendingCopy) × (s.copying ≡ Some h) × PendingLeaves (words_of s.monitor).layout h left s.domain t.domain

-- a domain released its mappings, closed its table and left its run by the seat that is given, with this many entries
-- still in use and this many records lost; it did nothing else
pub record LeavesRun {P : Type 0} (may : P → AllowRelation) (m : Monitor P) (d : Domain) (gone : LeftDomain)
    : Type 0 where
  pub closed : Domain
  pub resets : Resets may m d gone.remains.in_use closed
  pub leaves : HasLeft (words_of m).layout closed gone.left
  pub lost : gone.remains.lost ≡ (trail_left gone.left).lost

-- the domain was in no copy, and is unchanged; or the copy that it was in was ended
abbrev pub Settles : {P : Type 0} → Seated P → Seated P → Type 0
Settles s t = ((s.copying ≡ None) × (t ≡ s)) ⊎ EndsAccess s t

-- the domain left its run, after the end of its copy if it was in one, and this is what it left behind
pub record LeavesSettled {P : Type 0} (may : P → AllowRelation) (s : Seated P) (gone : LeftDomain) : Type 0 where
  pub settled : Seated P
  pub settles : Settles s settled
  pub leaves : LeavesRun may settled.monitor settled.domain gone

-- the number of records of a domain, and the number lost
abbrev pub taken_of : TrailState → TakenCounts
taken_of t = record { records = length t.records; lost = t.lost }
