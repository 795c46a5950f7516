-- Names from other crates, and from the code, that these definitions use.
pub use Rattle.gt_allow.specs.Looking.{Table}
pub use Rattle.gt_start.specs.Beginning.{Begins, IsFaultOf, may}
pub use Rattle.gt_start.specs.Faults.{no_fault, wrong_handles}
pub use Rattle.gt_start.specs.declared.faults.EncodedFault.{EncodedFault}
pub use Rattle.gt_start.specs.declared.settings.DomainSettings.{DomainSettings}
pub use Rattle.gt_audit.specs.Trails.{HasNone, AppendsRecord, KeepsRoom}
pub use Rattle.gt_audit.specs.declared.record.Hypercall.{Hypercall}
pub use Rattle.gt_audit.specs.declared.record.Record.{Record}
pub use Rattle.gt_c.specs.declared.copies.CopySettings.{CopySettings}
pub use Rattle.gt_c.specs.declared.copies.PlaceReport.{PlaceReport}
pub use Rattle.gt_c.specs.declared.copies.PlacesReport.{PlacesReport}
pub use Rattle.gt_c.specs.declared.handle.DomainHandle.{DomainHandle}
pub use Rattle.gt_c.specs.declared.c_domain.CDomain.{CDomain}
pub use Rattle.gt_c.specs.declared.reports.EntryStatus.{EntryStatus}
pub use Rattle.gt_c.specs.declared.reports.MappedFrame.{MappedFrame}
pub use Rattle.gt_types.specs.declared.places.Spot.{Spot}
pub use Rattle.gt_model.specs.declared.action.CallResult.{CallResult}
pub use Rattle.gt_model.specs.declared.held.HeldPin.{HeldPin}
pub use Rattle.gt_types.specs.declared.copies.CopyArgs.{CopyArgs}
pub use Rattle.gt_types.specs.declared.copies.End.{End}
pub use Rattle.gt_model.specs.declared.request.Request.{Request}
pub use Rattle.gt_model.specs.Entries.{frame_of}
pub use Rattle.gt_model.specs.declared.control.Control.{Control}
pub use Rattle.gt_model.specs.declared.control.EntryKind.{EntryKind}
pub use Rattle.gt_handles.specs.Handles.{value_of}
pub use Rattle.gt_model.specs.declared.handle.Handle.{Handle}
pub use Rattle.gt_live.specs.Closing.{LooksAtOwn, Resets}
pub use Rattle.gt_live.specs.Domains.{Answered, AnswersQuietly, AnswersRecorded, KeepsPinned, outcome_of, reply_of}
pub use Rattle.gt_live.specs.Domains.{subject_of, record_of_result, verdict_of}
pub use Rattle.gt_live.specs.Releasing.{DropsTo, MapAdds}
pub use Rattle.gt_live.specs.declared.access_paths.CopyWords.{CopyWords}
pub use Rattle.gt_live.specs.declared.domain.mappings.LeftWord.{LeftWord}
pub use Rattle.gt_live.specs.declared.domain.mappings.NewMapping.{NewMapping}
pub use Rattle.gt_live.specs.declared.domain.Domain.{Domain}
pub use Rattle.gt_attached.specs.Encoding.{encoded, writes}
pub use Rattle.gt_attached.specs.Recording.{no_end, record_kept}
pub use Rattle.gt_attached.specs.Seated.{BeginsAccess, EndsAccess, EndsAccessTo, LeavesSettled, Seated, Settles}
pub use Rattle.gt_attached.specs.Seated.{StaysIdle}
pub use Rattle.gt_attached.specs.Seated.{taken_of}
pub use Rattle.gt_attached.specs.declared.answer.EncodedAnswer.{EncodedAnswer}
pub use Rattle.gt_attached.specs.declared.answer.AttachedOutcome.{AttachedOutcome}
pub use Rattle.gt_attached.specs.declared.answer.Departure.{Departure}
pub use Rattle.gt_attached.specs.declared.answer.NamedMapping.{NamedMapping}
pub use Rattle.gt_attached.specs.declared.attachment.CopyPlaces.{CopyPlaces}
pub use Rattle.gt_attached.specs.declared.attachment.LeftDomain.{LeftDomain}
pub use Rattle.gt_attached.specs.declared.record.CopyEnd.{CopyEnd}
pub use Rattle.gt_attached.specs.declared.record.EncodedRecord.{EncodedRecord}
pub use Rattle.gt_types.specs.declared.Dir.{Dir}
pub use Rattle.gt_types.specs.declared.Dir.TheVariants.{Read, Write}
pub use Rattle.gt_types.specs.declared.DomId.{DomId}
pub use Rattle.gt_types.specs.declared.GrantRef.{GrantRef}
pub use Rattle.gt_types.specs.declared.Memory.{Memory}
pub use Rattle.gt_types.specs.declared.Size.{Size}
pub use Rattle.gt_types.specs.Denial.{denial_of}
pub use Rattle.gt_types.specs.declared.denial.Denial.{Denial}
pub use Rattle.gt_types.specs.declared.denial.Rule.{Rule}
pub use Rattle.std.specs.List.{slice_get}
