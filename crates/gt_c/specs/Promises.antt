-- What each call promises about the domain of a handle, before and after.
use Rattle.std.specs.Prelude.{◌≡◌, ℕ, List, Option}
use Rattle.std.specs.Borrow.{Bor}
use Rattle.gt_audit.specs.declared.record.Hypercall.TheVariants as hypercalls
use Rattle.gt_model.specs.declared.entry.Entry.{Entry}
use Rattle.gt_model.specs.declared.request.Request.TheVariants as requests
use Rattle.gt_live.specs.Domains.{verdict_of, verdict_of_frames, verdict_of_size, verdict_of_version}
use Rattle.gt_attached.specs.declared.answer.EncodedAnswer.{EncodedAnswer}
use Rattle.gt_c.specs.declared.grants.EntryBytes.{EntryBytes}
use Rattle.gt_c.specs.declared.mappings.MapHandle.{MapHandle}
use Rattle.gt_c.specs.declared.copies.BegunReport.{BegunReport}
use Rattle.gt_c.specs.declared.copies.CopySettings.{CopySettings}
use Rattle.gt_c.specs.declared.c_domain.CDomain.{CDomain}
use Rattle.gt_c.specs.declared.reports.EntryReport.{EntryReport}
use Rattle.gt_c.specs.declared.reports.MappingReport.{MappingReport}
use Rattle.gt_c.specs.declared.reports.RecordReport.{RecordReport}
use Rattle.gt_types.specs.Denial.{denial_of}
use Rattle.gt_types.specs.declared.denial.Facts.TheVariants as facts
use Rattle.gt_types.specs.declared.denial.Rule.TheVariants.{N6}
use Rattle.gt_attached.specs.declared.answer.AttachedOutcome.TheVariants as outcomes
use Rattle.gt_c.specs.Asking.{RefusesForeign, handle_named, page, spelled, sub, via}
use Rattle.gt_c.specs.Calling.{CallsAttached, CallsGranting, CallsReporting, EncodesDone, EncodesFollowed}
use Rattle.gt_c.specs.Calling.{EncodesMapped}
use Rattle.gt_c.specs.Calling.{EncodesRecorded, EncodesUnmapped, KeepsAtMost, Reserves, TakesAll, dom_of, ref_at}
use Rattle.gt_c.specs.Calling.{outcome, outcome_frames, outcome_size, outcome_version}
use Rattle.gt_attached.specs.declared.several.MapRequest.{MapRequest}
use Rattle.gt_c.specs.Several.{AreUnchanged, MapsNamed, Passed}
use Rattle.gt_c.specs.Reports.{BeginsAsked, EncodesNext, EncodesUnused}
use Rattle.gt_c.specs.Reports.{EncodesEntry, EncodesMapping, EncodesRecord, copy_asked, no_entry}
use Rattle.gt_c.specs.Reports.{no_mapping, no_copy_places, no_record}

-- this entry is granted
abbrev pub GrantsEntry : ℕ → Entry → EncodedAnswer → Option CDomain → Option CDomain → Type 0
GrantsEntry gref entry answer before after =
    CallsGranting (ref_at gref) before after answer (EncodesDone (requests.Grant (ref_at gref) entry) answer)

-- one of the domain's pages is granted
abbrev pub GrantsPage : ℕ → ℕ → ℕ → ℕ → EncodedAnswer → Option CDomain → Option CDomain → Type 0
GrantsPage gref to frame ro answer before after = GrantsEntry gref (page to frame ro) answer before after

-- bytes of one of the domain's pages are granted
abbrev pub GrantsSub : ℕ → ℕ → ℕ → ℕ → ℕ → ℕ → EncodedAnswer → Option CDomain → Option CDomain → Type 0
GrantsSub gref to frame off len ro answer before after =
    GrantsEntry gref (sub to frame off len ro) answer before after

-- a grant of another domain is granted on
abbrev pub GrantsVia : ℕ → ℕ → ℕ → ℕ → ℕ → EncodedAnswer → Option CDomain → Option CDomain → Type 0
GrantsVia gref to dom2 ref2 ro answer before after = GrantsEntry gref (via to dom2 ref2 ro) answer before after

-- the entry that the bytes encode is granted
abbrev pub GrantsBytes : ℕ → EntryBytes → EncodedAnswer → Option CDomain → Option CDomain → Type 0
GrantsBytes gref bytes answer before after =
    CallsGranting (ref_at gref) before after answer (λ d e.
    (s : Bor (List ℕ)) × (s.now ≡ spelled bytes) × EncodesDone (requests.GrantBytes (ref_at gref) s) answer d e)

-- an entry follows the bytes that its guest keeps for it
abbrev pub FollowsEntryBytes : ℕ → EntryBytes → EncodedAnswer → Option CDomain → Option CDomain → Type 0
FollowsEntryBytes gref bytes answer before after =
    CallsGranting (ref_at gref) before after answer (EncodesFollowed (ref_at gref) (spelled bytes) answer)

-- an entry is revoked, withdrawn, demoted, promoted
abbrev pub RevokesEntry : ℕ → EncodedAnswer → Option CDomain → Option CDomain → Type 0
RevokesEntry gref answer before after =
    CallsAttached before after answer (EncodesDone (requests.Revoke (ref_at gref)) answer)

abbrev pub WithdrawsEntry : ℕ → EncodedAnswer → Option CDomain → Option CDomain → Type 0
WithdrawsEntry gref answer before after =
    CallsAttached before after answer (EncodesDone (requests.Withdraw (ref_at gref)) answer)

abbrev pub DemotesEntry : ℕ → EncodedAnswer → Option CDomain → Option CDomain → Type 0
DemotesEntry gref answer before after =
    CallsAttached before after answer (EncodesDone (requests.Demote (ref_at gref)) answer)

abbrev pub Promotes : ℕ → EncodedAnswer → Option CDomain → Option CDomain → Type 0
Promotes gref answer before after = CallsAttached before after answer (EncodesDone (requests.Promote (ref_at gref)) answer)

-- an entry of a domain is mapped
abbrev pub Maps : ℕ → ℕ → ℕ → EncodedAnswer → Option CDomain → Option CDomain → Type 0
Maps dom gref flags answer before after =
    CallsAttached before after answer
    (EncodesMapped (requests.Map (dom_of dom) (ref_at gref) flags)
    (hypercalls.Map (dom_of dom) (ref_at gref) flags) answer)

-- the maps of these requests are made, and get these names, or none remains
abbrev pub MapsEach : List MapRequest → List MapRequest → List MapHandle → List MapHandle → EncodedAnswer → Option CDomain
    → Option CDomain → Type 0
MapsEach rs rs_left names names_left answer before after =
    let p : Passed = record { requests = rs; requests_left = rs_left; names = names; names_left = names_left } in
    CallsReporting before after answer (AreUnchanged p) (MapsNamed p answer)

-- a mapping is unmapped; by the name of another domain or run none is, and the answer is N6
abbrev pub Unmaps : MapHandle → EncodedAnswer → Option CDomain → Option CDomain → Type 0
Unmaps name answer before after =
    CallsAttached before after answer (λ d e.
    EncodesUnmapped (requests.Unmap (handle_named d name)) hypercalls.Unmap (handle_named d name) answer d e
    × RefusesForeign d name (outcomes.Denied (denial_of N6 facts.None)) answer)

-- the table gets a version, or more frames
abbrev pub SetsVersion : ℕ → EncodedAnswer → Option CDomain → Option CDomain → Type 0
SetsVersion version answer before after =
    CallsAttached before after answer
    (EncodesRecorded outcome verdict_of (requests.SetVersion version) (hypercalls.SetVersion version) answer)

abbrev pub SetsUp : ℕ → EncodedAnswer → Option CDomain → Option CDomain → Type 0
SetsUp frames answer before after =
    CallsAttached before after answer
    (EncodesRecorded outcome_frames verdict_of_frames (requests.SetupTable frames)
    (hypercalls.SetupTable frames) answer)

-- the table of a domain is queried
abbrev pub AsksSize : ℕ → EncodedAnswer → Option CDomain → Option CDomain → Type 0
AsksSize dom answer before after =
    CallsAttached before after answer
    (EncodesRecorded outcome_size verdict_of_size (requests.QuerySize (dom_of dom)) (hypercalls.QuerySize (dom_of dom))
    answer)

abbrev pub AsksVersion : ℕ → EncodedAnswer → Option CDomain → Option CDomain → Type 0
AsksVersion dom answer before after =
    CallsAttached before after answer
    (EncodesRecorded outcome_version verdict_of_version (requests.GetVersion (dom_of dom))
    (hypercalls.GetVersion (dom_of dom)) answer)

-- a mapping, or a record, is returned; none is by the name of another domain or run
abbrev pub ReportsMapping : MapHandle → MappingReport → Option CDomain → Option CDomain → Type 0
ReportsMapping name report before after =
    CallsReporting before after report.answer (report.mapping ≡ no_mapping)
    (λ d e. EncodesMapping (handle_named d name) report.mapping report.answer d e
    × RefusesForeign d name outcomes.Absent report.answer)

abbrev pub ReportsRecord : ℕ → RecordReport → Option CDomain → Option CDomain → Type 0
ReportsRecord index report before after =
    CallsReporting before after report.answer (report.kept ≡ no_record) (EncodesRecord index report.kept report.answer)

-- one of the domain's entries is returned
abbrev pub ReportsEntry : ℕ → EntryReport → Option CDomain → Option CDomain → Type 0
ReportsEntry gref report before after =
    CallsReporting before after report.answer (report.entry ≡ no_entry)
    (EncodesEntry (ref_at gref) report.entry report.answer)

-- an unused entry is searched for
abbrev pub SearchesUnused : ℕ → EncodedAnswer → Option CDomain → Option CDomain → Type 0
SearchesUnused from answer before after = CallsAttached before after answer (EncodesUnused from answer)

-- a mapping is searched for
abbrev pub SearchesMapping : ℕ → EncodedAnswer → Option CDomain → Option CDomain → Type 0
SearchesMapping from answer before after = CallsAttached before after answer (EncodesNext from answer)

-- the records are taken
abbrev pub TakesRecords : EncodedAnswer → Option CDomain → Option CDomain → Type 0
TakesRecords answer before after = CallsAttached before after answer (TakesAll answer)

-- the records are bounded, or room is made for them
abbrev pub Bounds : ℕ → EncodedAnswer → Option CDomain → Option CDomain → Type 0
Bounds records answer before after = CallsAttached before after answer (KeepsAtMost records answer)

abbrev pub MakesRoom : ℕ → EncodedAnswer → Option CDomain → Option CDomain → Type 0
MakesRoom records answer before after = CallsAttached before after answer (Reserves records answer)

-- a copy begins; if a number of it does not fit, it is refused
abbrev pub BeginsCopy : CopySettings → BegunReport → Option CDomain → Option CDomain → Type 0
BeginsCopy copy report before after =
    CallsReporting before after report.answer (report.places ≡ no_copy_places)
    (BeginsAsked (copy_asked copy) report.places report.answer)
