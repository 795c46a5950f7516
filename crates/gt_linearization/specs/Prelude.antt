-- Names from other crates, and from the code, that these definitions use.
pub use Rattle.atomic_table.specs.Table.{State}
pub use Rattle.gt_model.specs.Asking.{FitsAsked, asked, bytes_given_by, bytes_of}
pub use Rattle.gt_model.specs.Path.{Continuation, path, path_of}
pub use Rattle.gt_model.specs.declared.action.Action.{Action}
pub use Rattle.gt_model.specs.declared.action.Action.TheVariants.{Done}
pub use Rattle.gt_model.specs.declared.action.Observation.{Observation}
pub use Rattle.gt_model.specs.declared.action.Observation.TheVariants.{Nothing, Word}
pub use Rattle.gt_model.specs.declared.action.Step.{Step}
pub use Rattle.gt_model.specs.declared.action.Step.TheVariants.{Exchange, LookBody, LookControl, LookHeader, StoreBody}
pub use Rattle.gt_model.specs.declared.action.Step.TheVariants.{StoreHeader, Unpin}
pub use Rattle.gt_model.specs.declared.action.CallResult.{CallResult}
pub use Rattle.gt_model.specs.declared.action.CallResult.TheVariants.{Granted, Mapped, Refused}
pub use Rattle.gt_model.specs.declared.held.HeldPin.{HeldPin}
pub use Rattle.gt_model.specs.declared.request.OpenRequest.{OpenRequest}
pub use Rattle.gt_model.specs.declared.request.Request.{Request}
pub use Rattle.gt_core.specs.Acting.{answer_of}
pub use Rattle.gt_model.specs.History.{setting_of, History, Setting, Underway, body_at, entry_at, generation_at}
pub use Rattle.gt_model.specs.History.{known_at, open_call, patches_at, seen_by, table_at, values, word_at}
pub use Rattle.gt_core.specs.GoingOn.{CanBeReached}
pub use Rattle.gt_model.specs.Legal.{IsRight, Legal}
pub use Rattle.gt_model.specs.declared.trace.Answer.{Answer}
pub use Rattle.gt_model.specs.declared.trace.Bytes.{Bytes}
pub use Rattle.gt_model.specs.declared.trace.Element.{Element}
pub use Rattle.gt_model.specs.declared.trace.Event.{Event}
pub use Rattle.gt_model.specs.declared.trace.Event.TheVariants.{Begin, Tick}
pub use Rattle.gt_model.specs.declared.trace.ItemEvent.{ItemEvent}
pub use Rattle.gt_model.specs.declared.trace.ItemEvent.TheVariants.{Began, Stepped}
pub use Rattle.gt_model.specs.declared.trace.Item.{Item}
pub use Rattle.gt_model.specs.Words.{header_word}
pub use Rattle.gt_model.specs.declared.change.BodyWord.{BodyWord}
pub use Rattle.gt_frames.specs.Frames.{patches}
pub use Rattle.gt_frames.specs.Receipts.{Copying, Reading, Writing}
pub use Rattle.gt_frames.specs.declared.writ.Writ.{Writ}
pub use Rattle.gt_handles.specs.Handles.{HandleMap}
pub use Rattle.gt_model.specs.declared.handle.Handle.{Handle}
pub use Rattle.gt_live.specs.Accesses.{EndsAfterAccess, IsCopiedBy, IsReadBy, IsUnmade, IsWrittenBy}
pub use Rattle.gt_live.specs.Domains.{AnswersWithAccess, AllowRelation, Answered, IsDomainOf, BelongsTo, KeepsPinned}
pub use Rattle.gt_live.specs.Domains.{IsUnsettled, MapAnswered, knowledge, known_on, verdict_of}
pub use Rattle.gt_live.specs.Ending.{IsMap, IsOfMapping}
pub use Rattle.gt_live.specs.Flags.{FlagStepped}
pub use Rattle.gt_live.specs.Mappings.{AddsMapping, KeepsMappings, Removes}
pub use Rattle.gt_live.specs.Starting.{IsNewDomain}
pub use Rattle.gt_live.specs.Walks.{Called, Made, all_shown, shown_by, seen_in_step, view_after}
pub use Rattle.gt_shared_table.specs.Bytes.{frame_made, journal_made}
pub use Rattle.gt_live.specs.declared.domain.Domain.{Domain}
pub use Rattle.gt_live.specs.declared.monitor.Monitor.{Monitor}
pub use Rattle.gt_types.specs.Config.{IsWithinLimits}
pub use Rattle.gt_types.specs.Denial.{denial_of}
pub use Rattle.gt_types.specs.Names.{domain_of}
pub use Rattle.gt_types.specs.declared.DomId.{DomId}
pub use Rattle.gt_types.specs.declared.GrantRef.{GrantRef}
pub use Rattle.gt_types.specs.declared.config.Config.{Config}
pub use Rattle.gt_types.specs.declared.denial.Denial.{Denial}
pub use Rattle.gt_types.specs.declared.denial.Rule.TheVariants.{N26}
pub use Rattle.gt_types.specs.declared.limits.TheConstants.{TABLE_ENTRIES}
pub use Rattle.gt_words.specs.Conditions.{Board, HasDomain, IsSameSeat}
pub use Rattle.gt_words.specs.Frames.{AccessesFrame, CopiesFrames}
pub use Rattle.gt_word_history.specs.Controls.{generation_of}
pub use Rattle.gt_word_history.specs.History.{StepHistory, Layout, Moment, RecordsWord, body_word_index, part_of}
pub use Rattle.gt_word_history.specs.History.{word_place_of, word_after}
pub use Rattle.gt_word_history.specs.Rule.{Shows, header_place, id_at, layout_of, place, position_in}
pub use Rattle.gt_word_history.specs.Steps.{changed, changed_word}
pub use Rattle.gt_word_history.specs.Views.{entry_steps, last_record}
pub use Rattle.gt_word_history.specs.declared.view.EntryRecord.{EntryRecord}
pub use Rattle.gt_word_history.specs.declared.view.EntryStep.TheVariants.{ChangeMissed, Changed, Looked, PinMissed}
pub use Rattle.gt_word_history.specs.declared.view.EntryStep.TheVariants.{Pinned, ReadBody, StoredBody, Unpinned}
pub use Rattle.gt_word_history.specs.declared.view.FlagStep.{FlagStep}
pub use Rattle.gt_word_history.specs.declared.view.FlagStep.TheVariants.{Passed, Raised}
pub use Rattle.gt_word_history.specs.declared.view.SeatStep.{SeatStep}
pub use Rattle.gt_word_history.specs.declared.view.SeatStep.TheVariants.{Entry, Flag, Frame, Header}
pub use Rattle.gt_word_history.specs.declared.view.View.{View}
pub use lib.ListN.{get_elem?}
pub use mathlib.Core.Option.{some}
