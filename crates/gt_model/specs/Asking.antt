-- Requests, as an open call keeps them.
use Rattle.std.specs.Prelude.{◌≡◌, ℕ, Bool, ◌==◌, ◌%◌, not, nat_le, if◌then◌else◌, List, [], ◌∷◌, length, Option, ◌⊎◌}
use Rattle.std.specs.Prelude.{◌&&◌, Some, None}
use Rattle.gt_model.specs.Bytes.{Spells, field, flags_of, is_set, first_refused}
use Rattle.gt_model.specs.Entries.{IsEntry, is_invalid}
use Rattle.gt_model.specs.Rules.{CallerKnowledge, first, refused_when, begun}
use Rattle.gt_model.specs.Words.{size_of}
use Rattle.gt_types.specs.Denial.{denial_of}
use Rattle.gt_model.specs.declared.action.CallResult.{CallResult}
use Rattle.gt_model.specs.declared.action.CallResult.TheVariants.{Refused}
use Rattle.gt_model.specs.declared.entry.Entry.{Entry}
use Rattle.gt_model.specs.declared.entry.Entry.TheVariants.{Invalid, Page, Sub, Via}
use Rattle.gt_model.specs.declared.handle.Handle.{Handle}
use Rattle.gt_model.specs.declared.header.Header.{Header}
use Rattle.gt_model.specs.declared.request.OpenRequest.{OpenRequest}
use Rattle.gt_model.specs.declared.request.OpenRequest.TheVariants.{Grant, Revoke, Demote, Promote, Map, Unmap}
use Rattle.gt_model.specs.declared.request.OpenRequest.TheVariants.{Release, Load, SetVersion, SetupTable, QuerySize}
use Rattle.gt_model.specs.declared.request.OpenRequest.TheVariants.{GetVersion, Store, Peek, Poke, Copy, Withdraw}
use Rattle.gt_model.specs.declared.request.OpenRequest.TheVariants.{Probe}
use Rattle.gt_model.specs.declared.request.Request.{Request}
use Rattle.gt_types.specs.declared.DomId.{DomId}
use Rattle.gt_types.specs.declared.GrantRef.{GrantRef}
use Rattle.gt_types.specs.declared.denial.Facts.TheVariants as facts
use Rattle.gt_types.specs.declared.denial.Field.{Field}
use Rattle.gt_types.specs.declared.denial.Rule.TheVariants.{N9, N20, N22, N25}
use Rattle.gt_types.specs.declared.limits.TheConstants.{LAST_GENERATION}
use Rattle.gt_model.specs.declared.request.Request.TheVariants as requests

-- both are the same handle
abbrev pub same_handle : Handle → Handle → Bool
same_handle a b = (a.serial == b.serial) && (a.key == b.key)

-- the domain that these bytes of an entry name (grant_table.h)
abbrev pub domain_said : List ℕ → DomId
domain_said bytes = record { 0 = field bytes 2 2 }

-- the bytes allow only reading (grant_table.h, GTF_readonly)
abbrev pub is_readonly_said : List ℕ → Bool
is_readonly_said bytes = is_set (flags_of bytes) 4

-- the entry that 8 bytes encode, if they encode one (grant_table.h, grant_entry_v1)
abbrev pub said_in_v1 : List ℕ → Entry
said_in_v1 bytes = Page (domain_said bytes) (is_readonly_said bytes) (field bytes 4 4)

-- the entry that 16 bytes encode, if they encode one (grant_table.h, grant_entry_v2)
abbrev pub said_in_v2 : List ℕ → Entry
said_in_v2 bytes =
    if flags_of bytes % 4 == 3
    then Via (domain_said bytes) (is_readonly_said bytes)
    (record { 0 = field bytes 4 2 }) (record { 0 = field bytes 8 4 })
    else (if is_set (flags_of bytes) 256
    then Sub (domain_said bytes) (is_readonly_said bytes) (field bytes 8 8) (field bytes 4 2) (field bytes 6 2)
    else Page (domain_said bytes) (is_readonly_said bytes) (field bytes 8 8))

-- the entry that these bytes encode, if they encode one: 16 in version 2, 8 in version 1 (grant_table.h)
abbrev pub entry_spelled : List ℕ → Entry
entry_spelled bytes = if length bytes == 16 then said_in_v2 bytes else said_in_v1 bytes

-- the reference and the bytes of a request that grants by bytes
abbrev pub bytes_of : Request → Option (GrantRef × List ℕ)
bytes_of (requests.GrantBytes gref bytes) = Some (gref, bytes.now)
bytes_of request = None

-- the request as the call keeps it, if it is not a grant by bytes
abbrev pub plainly_asked : Request → OpenRequest
plainly_asked (requests.Grant gref entry) = Grant gref entry
plainly_asked (requests.GrantBytes gref bytes) = Grant gref Invalid
plainly_asked (requests.Revoke gref) = Revoke gref
plainly_asked (requests.Withdraw gref) = Withdraw gref
plainly_asked (requests.Demote gref) = Demote gref
plainly_asked (requests.Promote gref) = Promote gref
plainly_asked (requests.Map dom gref flags) = Map dom gref flags
plainly_asked (requests.Unmap handle) = Unmap handle
plainly_asked (requests.Release handle) = Release handle
plainly_asked (requests.Load handle off len) = Load handle off len
plainly_asked (requests.Store handle off bytes) = Store handle off (length bytes.now)
plainly_asked (requests.Peek frame off len) = Peek frame off len
plainly_asked (requests.Poke frame off bytes) = Poke frame off (length bytes.now)
plainly_asked (requests.Copy c) = Copy c
plainly_asked (requests.Probe c) = Probe c
plainly_asked (requests.SetVersion version) = SetVersion version
plainly_asked (requests.SetupTable frames) = SetupTable frames
plainly_asked (requests.QuerySize dom) = QuerySize dom
plainly_asked (requests.GetVersion dom) = GetVersion dom

-- the bytes that a request passes to be written
abbrev pub bytes_given_by : Request → List ℕ
bytes_given_by (requests.Store handle off bytes) = bytes.now
bytes_given_by (requests.Poke frame off bytes) = bytes.now
bytes_given_by request = []

-- the request as the call keeps it: a grant by bytes is the grant of the entry that they encode
abbrev pub asked_by : Request → Option (GrantRef × List ℕ) → OpenRequest
asked_by request None = plainly_asked request
asked_by request (Some b) = Grant b.0 (entry_spelled b.1)

abbrev pub asked : Request → OpenRequest
asked request = asked_by request (bytes_of request)

-- the bytes of a request encode the entry that it grants, in a table with this header (grant_table.h)
abbrev pub SpellsEntryBy : Header → Option (GrantRef × List ℕ) → Type 0
SpellsEntryBy header None = Unit {0}
SpellsEntryBy header (Some b) = Spells header.version b.1 (entry_spelled b.1)

abbrev pub SpellsItsEntry : Header → Request → Type 0
SpellsItsEntry header request = SpellsEntryBy header (bytes_of request)

-- the refusal of a field, if a field is refused
abbrev pub field_refused : Option Field → Option CallResult
field_refused None = None
field_refused (Some f) = Some (Refused (denial_of N25 (facts.Field f)))

-- grant_bytes: N9 N20 N22 N25
abbrev pub bytes_begun : Header → Entry → ℕ → ℕ → List ℕ → Option CallResult
bytes_begun header old generation r bytes = first (
    refused_when (nat_le (size_of header) r) N9
    ∷ refused_when (not (is_invalid old)) N20
    ∷ refused_when (generation == LAST_GENERATION) N22
    ∷ field_refused (first_refused header.version bytes) ∷ [])

-- the answer of a request at its beginning, if it is answered there: the first rule that applies
abbrev pub begun_by : CallerKnowledge → DomId → Request → Option (GrantRef × List ℕ) → Option CallResult
begun_by k caller request None = begun k caller (plainly_asked request)
begun_by k caller request (Some b) = bytes_begun k.header (k.entry b.0.0) (k.generation b.0.0) b.0.0 b.1

abbrev pub begun_of : CallerKnowledge → DomId → Request → Option CallResult
begun_of k caller request = begun_by k caller request (bytes_of request)

-- each number of the entry that a grant passes fits its type
abbrev pub FitsAsked : OpenRequest → Type 0
FitsAsked (Grant gref entry) = IsEntry entry
FitsAsked request = Unit {0}

-- the request drops the mapping with this handle: an unmap, or the release of a domain that leaves
abbrev pub GivesUp : OpenRequest → Handle → Type 0
GivesUp request handle = (request ≡ Unmap handle) ⊎ (request ≡ Release handle)
