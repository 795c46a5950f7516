-- The rules of a refusal, as tests on values.
use Rattle.std.specs.Prelude.{◌≡◌, ℕ, Bool, true, false, ◌&&◌, ◌||◌, not, ◌==◌, nat_lt, nat_le, if◌then◌else◌, List}
use Rattle.std.specs.Prelude.{[], ◌∷◌, Option, Some, None, is_none, zero, suc, ◌+◌}
use Rattle.gt_model.specs.Permits.{is_copying, allows_direction}
use Rattle.gt_types.specs.Copies.{is_source_granted, is_dest_granted}
use Rattle.gt_types.specs.Denial.{denial_of}
use Rattle.gt_types.specs.Names.{resolved, domain_of, map_read, map_write, unmap, setup, query, copy}
use Rattle.gt_model.specs.declared.action.CallResult.{CallResult}
use Rattle.gt_model.specs.declared.action.CallResult.TheVariants.{Granted, Given, Refused}
use Rattle.gt_model.specs.declared.action.CallValue.{CallValue}
use Rattle.gt_model.specs.declared.action.CallValue.TheVariants.{Frames}
use Rattle.gt_model.specs.declared.bounds.TheConstants.{SERIAL_LIMIT}
use Rattle.gt_model.specs.declared.change.EntryChange.{EntryChange}
use Rattle.gt_model.specs.declared.change.EntryChange.TheVariants.{Publish}
use Rattle.gt_model.specs.declared.change.EntryChange.TheVariants as changes
use Rattle.gt_model.specs.declared.control.Control.{Control}
use Rattle.gt_model.specs.declared.control.EntryKind.TheVariants as kinds
use Rattle.gt_model.specs.declared.entry.Entry.{Entry}
use Rattle.gt_model.specs.declared.entry.Entry.TheVariants.{Invalid, Page, Sub, Via}
use Rattle.gt_model.specs.declared.handle.Handle.{Handle}
use Rattle.gt_model.specs.declared.header.Header.{Header}
use Rattle.gt_model.specs.declared.held.HeldPin.{HeldPin}
use Rattle.gt_model.specs.declared.leg.Leg.{Leg}
use Rattle.gt_model.specs.declared.request.OpenRequest.{OpenRequest}
use Rattle.gt_model.specs.declared.request.OpenRequest.TheVariants.{Grant, Revoke, Demote, Promote, Map, Unmap}
use Rattle.gt_model.specs.declared.request.OpenRequest.TheVariants.{Release, Load, SetVersion, SetupTable, QuerySize}
use Rattle.gt_model.specs.declared.request.OpenRequest.TheVariants.{GetVersion, Store, Peek, Poke, Copy, Probe}
use Rattle.gt_model.specs.declared.request.OpenRequest.TheVariants.{Withdraw}
use Rattle.gt_types.specs.declared.Dir.{Dir}
use Rattle.gt_types.specs.declared.Dir.TheVariants.{Read, Write}
use Rattle.gt_types.specs.declared.DomId.{DomId}
use Rattle.gt_types.specs.declared.TypeId.{TypeId}
use Rattle.gt_types.specs.declared.config.DomainConfig.{DomainConfig}
use Rattle.gt_types.specs.declared.copies.CopyArgs.{CopyArgs}
use Rattle.gt_types.specs.declared.copies.End.{End}
use Rattle.gt_types.specs.declared.denial.Facts.TheVariants.{Policy}
use Rattle.gt_types.specs.declared.denial.Facts.TheVariants as facts
use Rattle.gt_types.specs.declared.denial.Rule.{Rule}
use Rattle.gt_types.specs.declared.denial.Rule.TheVariants.{N1, N2, N3, N4, N5, N6, N7, N8, N9, N10, N11, N12, N13}
use Rattle.gt_types.specs.declared.denial.Rule.TheVariants.{N14, N15, N16, N17, N20, N21, N22, N23, N24}
use Rattle.gt_types.specs.declared.limits.TheConstants.{FRAME_SIZE, LAST_GENERATION, MAX_MAPPINGS, MAX_PINS}
use Rattle.gt_types.specs.declared.limits.TheConstants.{MAX_TABLE_FRAMES}
use Rattle.gt_types.specs.declared.perms.Perms.{Perms}
use Rattle.gt_types.specs.declared.rights.Triple.{Triple}
pub use Rattle.gt_model.specs.Entries.{is_invalid, is_read_only}
pub use Rattle.gt_model.specs.Spelling.{control_with, first_body, second_body}
pub use Rattle.gt_model.specs.Words.{size_of, pins_of, is_kind}

-- what a caller knows by itself: the run's domains and rights, its own entries by reference, its header, its mappings
-- by handle and their number, and the number of its maps that were answered Ok
pub record CallerKnowledge : Type 0 where
  pub domains : List DomainConfig
  pub may : TypeId → TypeId → Perms → Bool
  pub entry : ℕ → Entry
  pub generation : ℕ → ℕ
  pub header : Header
  pub mapping : Handle → Option HeldPin
  pub in_use : ℕ
  pub maps_answered : ℕ

-- the first of these that is not None
abbrev pub first : {A : Type 0} → List (Option A) → Option A
first [] = None
first (None ∷ more) = first more
first (Some a ∷ more) = Some a

-- the rule, if the test holds
abbrev pub stands : Bool → Rule → Option Rule
stands true rule = Some rule
stands false rule = None

-- a refusal without facts, if the test holds
abbrev pub refused_when : Bool → Rule → Option CallResult
refused_when true rule = Some (Refused (denial_of rule facts.None))
refused_when false rule = None

-- Ok at once, if the test holds: there is nothing to do
abbrev pub granted_when : Bool → Option CallResult
granted_when true = Some Granted
granted_when false = None

-- Ok at once with this value, if the test holds
abbrev pub given_when : Bool → CallValue → Option CallResult
given_when true value = Some (Given value)
given_when false value = None

-- a table of this version can't have the entry: its kind needs version 2, its frame number is too large for version
-- 1, or it is invalid (grant_table.h)
abbrev pub cannot_stand : Entry → ℕ → Bool
cannot_stand Invalid version = true
cannot_stand (Page dom ro frame) version = (version == 1) && nat_lt 4294967295 frame
cannot_stand (Sub dom ro frame off len) version = version == 1
cannot_stand (Via dom ro dom2 gref) version = version == 1

-- the domain is one of the run
abbrev pub IsOfRun : CallerKnowledge → DomId → Type 0
IsOfRun k dom = is_none (domain_of k.domains dom) ≡ false

-- the type of a domain (XSM FLASK)
abbrev pub label_in : Option DomainConfig → TypeId
label_in None = record { 0 = 0 }
label_in (Some domain) = domain.label

abbrev pub label_of : List DomainConfig → DomId → TypeId
label_of domains dom = label_in (domain_of domains dom)

-- the type of the owner of a mapping (XSM FLASK)
abbrev pub owner_label : List DomainConfig → Option HeldPin → TypeId
owner_label domains None = record { 0 = 0 }
owner_label domains (Some m) = label_of domains m.dom

-- the number of frames of a domain, 0 if there is none
abbrev pub frames_in : Option DomainConfig → ℕ
frames_in None = 0
frames_in (Some domain) = domain.frames

-- the number of frames of the domain with this number
abbrev pub frame_count_of : List DomainConfig → DomId → ℕ
frame_count_of domains dom = frames_in (domain_of domains dom)

-- these permissions of one type on another, in this order
abbrev pub triples : TypeId → TypeId → List Perms → List Triple
triples source target [] = []
triples source target (perm ∷ perms) =
    record { source = source; target = target; perm = perm } ∷ triples source target perms

-- these permissions of one domain on another
abbrev pub rights_on : CallerKnowledge → DomId → DomId → List Perms → List Triple
rights_on k source target perms = triples (label_of k.domains source) (label_of k.domains target) perms

-- a mapping needs map_read, and one for writing map_write as well (XSM FLASK)
abbrev pub map_perms : Dir → List Perms
map_perms Read = map_read ∷ []
map_perms Write = map_read ∷ map_write ∷ []

-- the caller maps an entry of this domain, or accesses one of its frames through a mapping
abbrev pub rights_to_map : CallerKnowledge → DomId → DomId → Dir → List Triple
rights_to_map k caller owner dir = rights_on k caller owner (map_perms dir)

-- the caller unmaps an entry of this domain
abbrev pub rights_to_unmap : CallerKnowledge → DomId → DomId → List Triple
rights_to_unmap k caller owner = rights_on k caller owner (unmap ∷ [])

-- bytes are copied from the first domain to the second
abbrev pub rights_to_copy : CallerKnowledge → DomId → DomId → List Triple
rights_to_copy k source dest = rights_on k source dest (copy ∷ [])

-- the caller sets up its own table
abbrev pub rights_to_setup : CallerKnowledge → DomId → List Triple
rights_to_setup k caller = rights_on k caller caller (setup ∷ [])

-- the caller queries the size or the version of a table
abbrev pub rights_to_query : CallerKnowledge → DomId → DomId → List Triple
rights_to_query k caller dom = rights_on k caller dom (query ∷ [])

-- N5: the first of these that the policy does not allow
abbrev pub denied : (TypeId → TypeId → Perms → Bool) → List Triple → Option CallResult
denied may [] = None
denied may (t ∷ ts) =
    if may t.source t.target t.perm then denied may ts
    else Some (Refused (denial_of N5 (Policy t.source t.target t.perm)))

-- N5 of the mapping that is unmapped, if there is one
abbrev pub unmap_denied : CallerKnowledge → DomId → Option HeldPin → Option CallResult
unmap_denied k caller None = None
unmap_denied k caller (Some m) = denied k.may (rights_to_unmap k caller m.dom)

-- grant: N9 N20 N21 N22
abbrev pub grant_begun : Header → Entry → ℕ → ℕ → Entry → Option CallResult
grant_begun header old generation r entry = first (
    refused_when (nat_le (size_of header) r) N9
    ∷ refused_when (not (is_invalid old)) N20
    ∷ refused_when (cannot_stand entry header.version) N21
    ∷ refused_when (generation == LAST_GENERATION) N22 ∷ [])

-- revoke and withdraw: N9 N10
abbrev pub revoke_begun : Header → Entry → ℕ → Option CallResult
revoke_begun header old r = first (
    refused_when (nat_le (size_of header) r) N9
    ∷ refused_when (is_invalid old) N10 ∷ [])

-- a demote or promote would not change the entry
abbrev pub is_already : EntryChange → Entry → Bool
is_already (Publish entry) old = false
is_already changes.Revoke old = false
is_already changes.Withdraw old = false
is_already changes.Demote old = is_read_only old
is_already changes.Promote old = not (is_read_only old)

-- demote and promote: N9 N10, Ok if the entry would not change, N22
abbrev pub change_begun : EntryChange → Header → Entry → ℕ → ℕ → Option CallResult
change_begun change header old generation r = first (
    refused_when (nat_le (size_of header) r) N9
    ∷ refused_when (is_invalid old) N10
    ∷ granted_when (is_already change old)
    ∷ refused_when (generation == LAST_GENERATION) N22 ∷ [])

-- the kind of pin that a map with these flags takes: with 2 (GNTMAP_host_map) a write pin, with 6 (and
-- GNTMAP_readonly) a read pin (grant_table.h)
abbrev pub map_dir : ℕ → Dir
map_dir flags = if flags == 2 then Write else Read

-- map: N1 N2 N5 N8
abbrev pub map_begun : CallerKnowledge → DomId → DomId → ℕ → Option CallResult
map_begun k caller dom flags = first (
    refused_when (is_none (domain_of k.domains (resolved caller dom))) N1
    ∷ refused_when (not ((flags == 2) || (flags == 6))) N2
    ∷ denied k.may (rights_to_map k caller (resolved caller dom) (map_dir flags))
    ∷ refused_when (nat_le MAX_MAPPINGS k.in_use || nat_le SERIAL_LIMIT k.maps_answered) N8 ∷ [])

-- unmap: N6 N5
abbrev pub unmap_begun : CallerKnowledge → DomId → Handle → Option CallResult
unmap_begun k caller handle = first (
    refused_when (is_none (k.mapping handle)) N6
    ∷ unmap_denied k caller (k.mapping handle) ∷ [])

-- release, by a domain that leaves: N6
abbrev pub release_begun : (Handle → Option HeldPin) → Handle → Option CallResult
release_begun mapping handle = refused_when (is_none (mapping handle)) N6

-- load: N3 N6
abbrev pub load_begun : (Handle → Option HeldPin) → Handle → ℕ → ℕ → Option CallResult
load_begun mapping handle off len = first (
    refused_when (nat_lt FRAME_SIZE (off + len)) N3
    ∷ refused_when (is_none (mapping handle)) N6 ∷ [])

-- a pin of this kind allows writing
abbrev pub writes_by : Dir → Bool
writes_by Read = false
writes_by Write = true

-- the mapping does not allow writing
abbrev pub is_for_reading : Option HeldPin → Bool
is_for_reading None = false
is_for_reading (Some m) = not (writes_by m.dir)

-- store: N3 N6 N7
abbrev pub store_begun : (Handle → Option HeldPin) → Handle → ℕ → ℕ → Option CallResult
store_begun mapping handle off len = first (
    refused_when (nat_lt FRAME_SIZE (off + len)) N3
    ∷ refused_when (is_none (mapping handle)) N6
    ∷ refused_when (is_for_reading (mapping handle)) N7 ∷ [])

-- peek and poke, of a frame of the caller's own: N3 N16
abbrev pub own_access_begun : List DomainConfig → DomId → ℕ → ℕ → ℕ → Option CallResult
own_access_begun domains caller frame off len = first (
    refused_when (nat_lt FRAME_SIZE (off + len)) N3
    ∷ refused_when (nat_le (frame_count_of domains caller) frame) N16 ∷ [])

-- the version is one that a table may have (grant_table.h)
abbrev pub is_version : ℕ → Bool
is_version version = (version == 1) || (version == 2)

-- an entry below this reference is not Invalid
unfoldable pub has_valid : (ℕ → Entry) → ℕ → Bool
has_valid entry zero = false
has_valid entry (suc r) = not (is_invalid (entry r)) || has_valid entry r

-- set the version: N2, Ok if the table has that version, N24
abbrev pub version_begun : Header → (ℕ → Entry) → ℕ → Option CallResult
version_begun header entry version = first (
    refused_when (not (is_version version)) N2
    ∷ granted_when (version == header.version)
    ∷ refused_when (has_valid entry (size_of header)) N24 ∷ [])

-- set up a table: N5, Ok with its number of frames if it has at least that many, N23
abbrev pub setup_begun : CallerKnowledge → DomId → ℕ → Option CallResult
setup_begun k caller frames = first (
    denied k.may (rights_to_setup k caller)
    ∷ given_when (nat_le frames k.header.frames) (Frames k.header.frames)
    ∷ refused_when (nat_lt MAX_TABLE_FRAMES frames) N23 ∷ [])

-- query a table's size or version: N1 N5
abbrev pub query_begun : CallerKnowledge → DomId → DomId → Option CallResult
query_begun k caller dom = first (
    refused_when (is_none (domain_of k.domains (resolved caller dom))) N1
    ∷ denied k.may (rights_to_query k caller (resolved caller dom)) ∷ [])

-- the domains and flags of a copy, the source first: N1 N1 N2
abbrev pub ends_named : CallerKnowledge → DomId → CopyArgs → Option CallResult
ends_named k caller c = first (
    refused_when (is_none (domain_of k.domains (resolved caller c.source.domid))) N1
    ∷ refused_when (is_none (domain_of k.domains (resolved caller c.dest.domid))) N1
    ∷ refused_when (nat_lt 3 c.flags) N2 ∷ [])

-- the ranges of a copy: N3 N3
abbrev pub ends_ranged : CopyArgs → Option CallResult
ends_ranged c = first (
    refused_when (nat_lt FRAME_SIZE (c.source.offset + c.len)) N3
    ∷ refused_when (nat_lt FRAME_SIZE (c.dest.offset + c.len)) N3 ∷ [])

-- the end names a frame number of a domain other than the caller
abbrev pub is_foreign : DomId → Bool → End → Bool
is_foreign caller granted end = not granted && not ((resolved caller end.domid).0 == caller.0)

-- the frame numbers of a copy are of the caller's frames: N4 N4
abbrev pub ends_owned : DomId → CopyArgs → Option CallResult
ends_owned caller c = first (
    refused_when (is_foreign caller (is_source_granted c) c.source) N4
    ∷ refused_when (is_foreign caller (is_dest_granted c) c.dest) N4 ∷ [])

-- the end names a frame number that the caller does not have
abbrev pub is_past_frames : CallerKnowledge → DomId → Bool → End → Bool
is_past_frames k caller granted end = not granted && nat_le (frame_count_of k.domains caller) end.ptr

-- the frame numbers of a copy are below the caller's number of frames: N16 N16
abbrev pub ends_framed : CallerKnowledge → DomId → CopyArgs → Option CallResult
ends_framed k caller c = first (
    refused_when (is_past_frames k caller (is_source_granted c) c.source) N16
    ∷ refused_when (is_past_frames k caller (is_dest_granted c) c.dest) N16 ∷ [])

-- N5 of copying from the first domain to the second
abbrev pub copy_denied : CallerKnowledge → DomId → DomId → Option CallResult
copy_denied k source dest = denied k.may (rights_to_copy k source dest)

-- copy: N1 N2 N3 N4 N5 N16
abbrev pub copy_begun : CallerKnowledge → DomId → CopyArgs → Option CallResult
copy_begun k caller c = first (
    ends_named k caller c
    ∷ ends_ranged c
    ∷ ends_owned caller c
    ∷ copy_denied k (resolved caller c.source.domid) (resolved caller c.dest.domid)
    ∷ ends_framed k caller c ∷ [])

-- neither end of a copy is named by a reference
abbrev pub has_own_ends : CopyArgs → Bool
has_own_ends c = not (is_source_granted c) && not (is_dest_granted c)

-- probe: as a copy, and Ok at once if it has nothing to pin
abbrev pub probe_begun : CallerKnowledge → DomId → CopyArgs → Option CallResult
probe_begun k caller c = first (copy_begun k caller c ∷ granted_when (has_own_ends c) ∷ [])

-- after the pin of a Via that leads to this domain: N1 of the domain, then N5 of the pair
abbrev pub via_judged : CallerKnowledge → DomId × DomId → DomId → Option CallResult
via_judged k pair dom = first (
    refused_when (is_none (domain_of k.domains dom)) N1
    ∷ copy_denied k pair.0 pair.1 ∷ [])

-- the answer of a call at its beginning, if it is answered there: the first rule that applies
abbrev pub begun : CallerKnowledge → DomId → OpenRequest → Option CallResult
begun k caller (Grant gref entry) = grant_begun k.header (k.entry gref.0) (k.generation gref.0) gref.0 entry
begun k caller (Revoke gref) = revoke_begun k.header (k.entry gref.0) gref.0
begun k caller (Withdraw gref) = revoke_begun k.header (k.entry gref.0) gref.0
begun k caller (Demote gref) = change_begun changes.Demote k.header (k.entry gref.0) (k.generation gref.0) gref.0
begun k caller (Promote gref) = change_begun changes.Promote k.header (k.entry gref.0) (k.generation gref.0) gref.0
begun k caller (Map dom gref flags) = map_begun k caller dom flags
begun k caller (Unmap handle) = unmap_begun k caller handle
begun k caller (Release handle) = release_begun k.mapping handle
begun k caller (Load handle off len) = load_begun k.mapping handle off len
begun k caller (Store handle off len) = store_begun k.mapping handle off len
begun k caller (Peek frame off len) = own_access_begun k.domains caller frame off len
begun k caller (Poke frame off len) = own_access_begun k.domains caller frame off len
begun k caller (Copy c) = copy_begun k caller c
begun k caller (Probe c) = probe_begun k caller c
begun k caller (SetVersion version) = version_begun k.header k.entry version
begun k caller (SetupTable frames) = setup_begun k caller frames
begun k caller (QuerySize dom) = query_begun k caller dom
begun k caller (GetVersion dom) = query_begun k caller dom

-- the rule that applies at a first look, by the control word
abbrev pub first_look : Leg → Control → Option Rule
first_look l c = first (
    stands (is_kind c.kind kinds.Invalid) N10
    ∷ stands (not (c.dom.0 == l.grantee.0)) N11
    ∷ stands (not (is_copying l.purpose || is_kind c.kind kinds.Page)) N12
    ∷ stands (not (allows_direction c.ro l.dir)) N13
    ∷ stands (l.beyond_via && is_kind c.kind kinds.Via) N15 ∷ [])

-- the entry is a sub-page that does not contain the leg's range (grant_table.h)
abbrev pub is_outside_sub : Leg → Entry → Bool
is_outside_sub l Invalid = false
is_outside_sub l (Page dom ro frame) = false
is_outside_sub l (Sub dom ro frame off len) = not (nat_le off l.off && nat_le (l.off + l.len) (off + len))
is_outside_sub l (Via dom ro dom2 gref) = false

-- the entry grants a frame that its owner does not have
abbrev pub is_past_owner : Leg → Entry → Bool
is_past_owner l Invalid = false
is_past_owner l (Page dom ro frame) = nat_le l.frames frame
is_past_owner l (Sub dom ro frame off len) = nat_le l.frames frame
is_past_owner l (Via dom ro dom2 gref) = false

-- the rule that applies before the pin, by the entry and its number of pins of the leg's kind
abbrev pub before_pin : Leg → Entry → ℕ → Option Rule
before_pin l entry pins = first (
    stands (is_outside_sub l entry) N14
    ∷ stands (is_past_owner l entry) N16
    ∷ stands (pins == MAX_PINS) N17 ∷ [])

-- the policy allows each of these (XSM FLASK)
abbrev pub IsAllowed : (TypeId → TypeId → Perms → Bool) → List Triple → Type 0
IsAllowed may [] = Unit {0}
IsAllowed may (t ∷ ts) = (may t.source t.target t.perm ≡ true) × IsAllowed may ts
