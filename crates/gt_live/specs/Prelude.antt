-- Names from other crates, and from the code, that these definitions use.
pub use Rattle.gt_words.specs.Frames.{IsReadOf, copying_at, writing_at}
pub use Rattle.gt_words.specs.declared.frames.AccessFault.{AccessFault}
pub use Rattle.gt_words.specs.declared.frames.AccessFault.TheVariants.{Gone}
pub use Rattle.gt_audit.specs.declared.record.Hypercall.{Hypercall}
pub use Rattle.gt_audit.specs.declared.record.Record.{Record}
pub use Rattle.gt_audit.specs.declared.record.Reply.{Reply}
pub use Rattle.gt_model.specs.Asking.{asked, begun_of, bytes_given_by}
pub use Rattle.gt_model.specs.Entries.{raise_of, frame_of}
pub use Rattle.gt_calls.specs.Following.{GoesOnWith, IsStepAction}
pub use Rattle.gt_model.specs.Holding.{last_first, no_pins, without_last}
pub use Rattle.gt_calls.specs.Holding.{pins_so_far}
pub use Rattle.gt_calls.specs.Machine.{action_at, after_pin_of, at_dest}
pub use Rattle.gt_model.specs.Rules.{IsAllowed, CallerKnowledge, begun, frame_count_of, label_of, map_perms, triples}
pub use Rattle.gt_model.specs.Path.{AfterPin, AfterRefusal, Continuation, end_leg, entry_refusal, give_back, path}
pub use Rattle.gt_model.specs.Path.{path_of, end_spot, refused_at, second_leg, tries, try_pin, turn, turns}
pub use Rattle.gt_calls.specs.Resting.{Rests, RestsOnWays}
pub use Rattle.gt_calls.specs.Known.{entry_in, own_generation, knowledge_of}
pub use Rattle.gt_calls.specs.Standing.{IsAt, IsFreshCall, held_by_call, held_in, pins_by_call}
pub use Rattle.gt_model.specs.declared.action.Action.{Action}
pub use Rattle.gt_model.specs.declared.action.Action.TheVariants.{Done}
pub use Rattle.gt_model.specs.declared.action.Observation.{Observation}
pub use Rattle.gt_model.specs.declared.action.Observation.TheVariants.{Missed, Nothing, Taken, Word}
pub use Rattle.gt_model.specs.declared.action.Step.{Step}
pub use Rattle.gt_model.specs.declared.action.Step.TheVariants.{Exchange, LookBody, LookControl, LookHeader, Pin}
pub use Rattle.gt_model.specs.declared.action.Step.TheVariants.{StoreBody, StoreHeader, Unpin}
pub use Rattle.gt_model.specs.declared.action.CallValue.TheVariants.{Frames, Version}
pub use Rattle.gt_model.specs.declared.action.CallResult.{CallResult}
pub use Rattle.gt_model.specs.declared.action.CallResult.TheVariants.{Given, Granted, Mapped, Refused}
pub use Rattle.gt_calls.specs.declared.call.Call.{Call}
pub use Rattle.gt_calls.specs.declared.call.Phase.{Phase}
pub use Rattle.gt_calls.specs.declared.call.Phase.TheVariants.{Accessing, Ending, Walking}
pub use Rattle.gt_calls.specs.declared.copying.PinPurpose.{PinPurpose}
pub use Rattle.gt_calls.specs.declared.copying.PinPurpose.TheVariants.{Dest, Source}
pub use Rattle.gt_model.specs.declared.held.HeldPin.{HeldPin}
pub use Rattle.gt_model.specs.declared.held.CallPins.{CallPins}
pub use Rattle.gt_model.specs.declared.held.AccessPath.{AccessPath}
pub use Rattle.gt_model.specs.declared.held.AccessPath.TheVariants.{Direct, Own}
pub use Rattle.gt_model.specs.declared.leg.Leg.{Leg}
pub use Rattle.gt_calls.specs.declared.leg.LegPhase.TheVariants.{Header}
pub use Rattle.gt_model.specs.declared.bounds.TheConstants.{MORE_TRIES}
pub use Rattle.gt_model.specs.declared.request.OpenRequest.{OpenRequest}
pub use Rattle.gt_model.specs.declared.request.OpenRequest.TheVariants.{Copy}
pub use Rattle.gt_types.specs.declared.copies.CopyArgs.{CopyArgs}
pub use Rattle.gt_types.specs.declared.copies.End.{End}
pub use Rattle.gt_model.specs.declared.request.Request.{Request}
pub use Rattle.gt_model.specs.Permits.{permits}
pub use Rattle.gt_model.specs.Words.{control_of, is_kind}
pub use Rattle.gt_model.specs.declared.change.EntryChange.{EntryChange}
pub use Rattle.gt_model.specs.declared.change.EntryChange.TheVariants.{Demote, Promote, Publish, Revoke, Withdraw}
pub use Rattle.gt_model.specs.declared.change.BodyWord.{BodyWord}
pub use Rattle.gt_model.specs.declared.control.EntryKind.TheVariants.{Sub}
pub use Rattle.gt_model.specs.declared.entry.Entry.TheVariants.{Invalid}
pub use Rattle.gt_frames.specs.Receipts.{Copying, Reading, Writing}
pub use Rattle.gt_types.specs.declared.places.FrameName.{FrameName}
pub use Rattle.gt_types.specs.declared.places.Spot.{Spot}
pub use Rattle.gt_handles.specs.Handles.{HandleMap, KeepsSpent, value_of}
pub use Rattle.gt_handles.specs.Listing.{IsInserted, IsTaken, count_passing}
pub use Rattle.gt_model.specs.declared.handle.Handle.{Handle}
pub use Rattle.gt_live.specs.declared.domain.Domain.{Domain}
pub use Rattle.gt_live.specs.declared.domain.Departed.{Departed}
pub use Rattle.gt_live.specs.declared.domain.copies.PendingCopy.{PendingCopy}
pub use Rattle.gt_live.specs.declared.driving.Effect.{Effect}
pub use Rattle.gt_live.specs.declared.driving.Effect.TheVariants.{Changed, Pinned, Stored, Unpinned}
pub use Rattle.gt_live.specs.declared.monitor.Monitor.{Monitor}
pub use Rattle.gt_types.specs.Denial.{denial_of}
pub use Rattle.gt_types.specs.Names.{domain_of}
pub use Rattle.gt_types.specs.declared.Dir.{Dir}
pub use Rattle.gt_types.specs.declared.Dir.TheVariants.{Read, Write}
pub use Rattle.gt_types.specs.declared.DomId.{DomId}
pub use Rattle.gt_types.specs.declared.GrantRef.{GrantRef}
pub use Rattle.gt_types.specs.declared.Size.{Size}
pub use Rattle.gt_types.specs.declared.TypeId.{TypeId}
pub use Rattle.gt_types.specs.declared.Use.{Use}
pub use Rattle.gt_types.specs.declared.config.Config.{Config}
pub use Rattle.gt_types.specs.declared.config.DomainConfig.{DomainConfig}
pub use Rattle.gt_types.specs.declared.denial.Denial.{Denial}
pub use Rattle.gt_types.specs.declared.denial.Facts.{Facts}
pub use Rattle.gt_types.specs.declared.denial.Rule.TheVariants.{N16, N18, N26}
pub use Rattle.gt_types.specs.declared.limits.TheConstants.{TABLE_ENTRIES}
pub use Rattle.gt_types.specs.declared.perms.Perms.{Perms}
pub use Rattle.gt_words.specs.Answers.{Changes, Demotes, LooksAtBody, LooksAtControl, LooksAtHeader, MissesBusy}
pub use Rattle.gt_words.specs.Answers.{MissesChange, MissesPin, Publishes, Revokes, StoresBody, StoresHeader, Unpins}
pub use Rattle.gt_words.specs.Conditions.{Board, CanChange, CanPin, HasDomain, Holds, IsNotEarlier, IsSameSeat}
pub use Rattle.gt_words.specs.Conditions.{IsSeatOf, IsWordOf, KeepsPins, SeatOf, SeesNoEarlier}
pub use Rattle.gt_word_history.specs.Controls.{generation_of}
pub use Rattle.gt_word_history.specs.Events.{TookPlace}
pub use Rattle.gt_word_history.specs.History.{Moment, part_of}
pub use Rattle.gt_words.specs.Keeping.{held}
pub use Rattle.gt_word_history.specs.Rule.{IsKeptHeader, Layout, id_at, position_in}
pub use Rattle.gt_word_history.specs.Steps.{on_entry, on_header}
pub use Rattle.gt_word_history.specs.Views.{IsAmong, LivePin, is_same_dir, last_of, last_seen, own_table, live_pins}
pub use Rattle.gt_word_history.specs.Views.{record_seen, steps_on, with_step}
pub use Rattle.gt_word_history.specs.declared.view.EntryStep.{EntryStep}
pub use Rattle.gt_word_history.specs.declared.view.EntryStep.TheVariants.{ChangeMissed, Looked, PinMissed, ReadBody}
pub use Rattle.gt_word_history.specs.declared.view.EntryStep.TheVariants.{StoredBody}
pub use Rattle.gt_word_history.specs.declared.view.SeatStep.{SeatStep}
pub use Rattle.gt_word_history.specs.declared.view.SeatStep.TheVariants.{Entry}
pub use Rattle.gt_word_history.specs.declared.view.View.{View}
