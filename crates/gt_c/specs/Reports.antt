-- What exports return in layouts of C: the places of a copy, a mapping, a record, an entry.
use Rattle.std.specs.Prelude.{◌≡◌, ◌⊎◌, ◌||◌, ℕ, Bool, true, false, nat_lt, if◌then◌else◌, Option, Some, None}
use Rattle.std.specs.Prelude.{Result, Ok, Err}
use Rattle.gt_c.specs.Prelude.{CopyWords, EndsAccessTo, Rule, denial_of, writes}
use Rattle.gt_types.specs.declared.denial.Facts.TheVariants as facts
use Rattle.gt_types.specs.declared.denial.Rule.TheVariants.{N1, N2, N3}
use Rattle.gt_c.specs.Prelude.{slice_get, Denial, Record, Spot, HeldPin, CopyArgs, End, frame_of}
use Rattle.gt_c.specs.Prelude.{Handle, value_of, encoded, no_end, record_kept, BeginsAccess, EndsAccess, EncodedAnswer}
use Rattle.gt_c.specs.Prelude.{AttachedOutcome, CopyPlaces, CopyEnd, may, Control, EntryKind, EntryStatus, GrantRef}
use Rattle.gt_c.specs.Prelude.{LooksAtOwn, StaysIdle, EncodedRecord, CopySettings, PlaceReport, PlacesReport}
use Rattle.gt_c.specs.Prelude.{MappedFrame, CDomain, DomId, NewMapping}
use Rattle.gt_model.specs.Words.{is_kind}
use Rattle.gt_model.specs.declared.control.EntryKind.TheVariants.{Invalid, Page, Sub, Via}
use Rattle.gt_attached.specs.declared.answer.AttachedOutcome.TheVariants as outcomes
use Rattle.gt_attached.specs.Searching.{FindsMapping}
use Rattle.gt_attached.specs.Unused.{FindsUnused}
use Rattle.gt_c.specs.Calling.{KeepsRun, named_mapping}
use Rattle.gt_c.specs.Grantees.{KeepsGrantees, grantee_of}

-- an end of a copy as C passes it
abbrev pub end_asked : CopyEnd → End
end_asked end = record { ptr = end.ptr; domid = record { 0 = end.dom }; offset = end.off }

-- the copy that C asks for, if its numbers fit
abbrev pub copy_args : CopySettings → CopyArgs
copy_args c = record { source = end_asked c.source; dest = end_asked c.dest; len = c.len; flags = c.flags }

-- the number has more than 16 bits
abbrev pub is_wide : ℕ → Bool
is_wide n = nat_lt 65535 n

-- the copy that C asks for, or the rule that refuses it because a number does not fit: that of a domain, the flags, an
-- offset or the length
abbrev pub copy_asked : CopySettings → Result CopyArgs Rule
copy_asked c =
    if is_wide c.source.dom || is_wide c.dest.dom then Err N1 else
    if is_wide c.flags then Err N2 else
    if is_wide c.source.off || (is_wide c.dest.off || is_wide c.len) then Err N3 else
    Ok (copy_args c)

-- a place as C reads it
abbrev pub place_report : Spot → PlaceReport
place_report p = record { frame = p.frame.number; owner = p.frame.owner.0; off = p.off }

-- no place
abbrev pub no_place : PlaceReport
no_place = record { frame = 0; owner = 0; off = 0 }

-- the places of a copy that did not begin
abbrev pub no_copy_places : PlacesReport
no_copy_places = record { from = no_place; to = no_place; len = 0 }

-- the places of a copy that began; zeros if it was refused
abbrev pub places_report : Result CopyPlaces Denial → PlacesReport
places_report (Ok p) = record { from = place_report p.from; to = place_report p.to; len = p.len }
places_report (Err denial) = no_copy_places

-- the result of a copy's beginning
abbrev pub outcome_begun : Result CopyPlaces Denial → AttachedOutcome
outcome_begun (Ok places) = outcomes.Done
outcome_begun (Err denial) = outcomes.Denied denial

-- a copy of the domain was begun: the answer encodes whether it was, and these are its places
pub record EncodesBegun (copy : CopyArgs) (places : PlacesReport) (answer : EncodedAnswer) (d e : CDomain) : Type 0 where
  pub result : Result CopyPlaces Denial
  pub encodes : answer ≡ encoded (outcome_begun result)
  pub shown : places ≡ places_report result
  pub begins : BeginsAccess may d.attached copy result e.attached

-- this copy of the domain was begun, as above; or a number does not fit, this rule refuses it, and nothing has changed
abbrev pub BeginsAsked : Result CopyArgs Rule → PlacesReport → EncodedAnswer → CDomain → CDomain → Type 0
BeginsAsked (Ok copy) places answer d e = EncodesBegun copy places answer d e
BeginsAsked (Err rule) places answer d e =
    (e ≡ d) × (answer ≡ encoded (outcomes.Denied (denial_of rule facts.None))) × (places ≡ no_copy_places)

-- the copy of a handle's domain was ended, and the answer has the control words that this left; or there was none, or no
-- domain, and the answer is that
abbrev pub CopyEnds : EncodedAnswer → Option CDomain → Option CDomain → Type 0
CopyEnds answer None after = (after ≡ None) × (answer ≡ encoded outcomes.NoDomain)
CopyEnds answer (Some d) None = ⊥
CopyEnds answer (Some d) (Some e) =
    ((d.attached.copying ≡ None) × (e ≡ d) × (answer ≡ encoded outcomes.NoCopy))
    ⊎ (KeepsRun d e × KeepsGrantees d e × EndsAccess d.attached e.attached
    × ((left : CopyWords) × EndsAccessTo left d.attached e.attached × (answer ≡ encoded (outcomes.Ended left))))

-- no mapping
abbrev pub no_mapping : MappedFrame
no_mapping = record { frame = 0; gref = 0; owner = 0; writes = 0 }

-- a mapping as C reads it
abbrev pub mapping_report : Option HeldPin → MappedFrame
mapping_report None = no_mapping
mapping_report (Some p) =
    record { frame = frame_of p.entry; gref = p.gref.0; owner = p.dom.0; writes = writes p.dir }

-- Ok if there is one, else Absent
abbrev pub outcome_present : {A : Type 0} → Option A → AttachedOutcome
outcome_present None = outcomes.Absent
outcome_present (Some a) = outcomes.Done

-- these are the mapping under this handle, if there is one, and the answer; nothing changed
abbrev pub EncodesMapping : Handle → MappedFrame → EncodedAnswer → CDomain → CDomain → Type 0
EncodesMapping name mapping answer d e =
    (answer ≡ encoded (outcome_present (value_of d.attached.domain.mappings name)))
    × (mapping ≡ mapping_report (value_of d.attached.domain.mappings name)) × (e ≡ d)

-- no record
abbrev pub no_record : EncodedRecord
no_record =
    record {
      call = 0;
      caller = 0;
      dom = 0;
      gref = 0;
      flags = 0;
      len = 0;
      source = no_end;
      dest = no_end;
      reply = encoded outcomes.Done;
    }

-- a record as C reads it
abbrev pub kept_record : Option Record → EncodedRecord
kept_record None = no_record
kept_record (Some r) = record_kept r

-- these are the record at this index, if there is one, and the answer; nothing changed
abbrev pub EncodesRecord : ℕ → EncodedRecord → EncodedAnswer → CDomain → CDomain → Type 0
EncodesRecord index kept answer d e =
    (answer ≡ encoded (outcome_present (slice_get d.attached.domain.trail.records index)))
    × (kept ≡ kept_record (slice_get d.attached.domain.trail.records index)) × (e ≡ d)

-- the number of a kind of entry
abbrev pub kind_code : EntryKind → ℕ
kind_code Invalid = 0
kind_code Page = 1
kind_code Sub = 2
kind_code Via = 3

-- 1 for a read-only entry, else 0
abbrev pub read_only_code : Bool → ℕ
read_only_code true = 1
read_only_code false = 0

-- no entry
abbrev pub no_entry : EntryStatus
no_entry = record { kind = 0; generation = 0; reads = 0; writes = 0; to = 0; read_only = 0; granted_to = 0 }

-- the domain that an entry with this control permits, or permitted last, which was this one if it is invalid
abbrev pub granted_to : DomId → Control → DomId
granted_to last c = if is_kind c.kind Invalid then last else c.dom

-- an entry as C reads it; it was last granted to this domain
abbrev pub entry_status : DomId → Option Control → EntryStatus
entry_status last None = no_entry
entry_status last (Some c) =
    record {
      kind = kind_code c.kind;
      generation = c.generation;
      reads = c.reads;
      writes = c.writes;
      to = c.dom.0;
      read_only = read_only_code c.ro;
      granted_to = (granted_to last c).0;
    }

-- the result of a search for a reference
abbrev pub outcome_reference : Option GrantRef → AttachedOutcome
outcome_reference None = outcomes.Absent
outcome_reference (Some gref) = outcomes.Reference gref

-- the first unused entry of the domain from this one on was searched for, and the answer encodes what was found
pub record EncodesUnused (from : ℕ) (answer : EncodedAnswer) (d e : CDomain) : Type 0 where
  pub found : Option GrantRef
  pub encodes : answer ≡ encoded (outcome_reference found)
  pub stays : StaysIdle d.attached e.attached
  pub finds : FindsUnused d.attached.monitor.words.layout d.attached.domain from found e.attached.domain

-- the result of a search for a mapping of this domain in this run
abbrev pub outcome_next : DomId → ℕ → Option NewMapping → AttachedOutcome
outcome_next dom run None = outcomes.Absent
outcome_next dom run (Some n) = outcomes.Mapped (named_mapping dom run n)

-- the first mapping of the domain from this key on was searched for, and the answer encodes what was found; nothing
-- changed
pub record EncodesNext (from : ℕ) (answer : EncodedAnswer) (d e : CDomain) : Type 0 where
  pub found : Option NewMapping
  pub encodes : answer ≡ encoded (outcome_next d.attached.domain.seat.dom d.run found)
  pub finds : FindsMapping d.attached.domain.mappings from found
  pub same : e ≡ d

-- a look at this entry, if the domain's table has it, found this, beside the domain to which it was last granted
pub record EncodesEntry (gref : GrantRef) (entry : EntryStatus) (answer : EncodedAnswer) (d e : CDomain) : Type 0 where
  pub found : Option Control
  pub encodes : answer ≡ encoded (outcome_present found)
  pub shown : entry ≡ entry_status (grantee_of d gref) found
  pub stays : StaysIdle d.attached e.attached
  pub looks : LooksAtOwn d.attached.monitor.words.layout d.attached.domain gref found e.attached.domain
