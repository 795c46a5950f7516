-- Names of other crates, and of the code, that the definitions here use.
pub use Rattle.gt_model.specs.Asking.{FitsAsked, SpellsItsEntry, asked, begun_of, bytes_given_by, GivesUp}
pub use Rattle.gt_calls.specs.Counting.{most_steps, steps_left, steps_to_come}
pub use Rattle.gt_calls.specs.Following.{GoesOnWith}
pub use Rattle.gt_model.specs.Holding.{last_first, GivesHeld}
pub use Rattle.gt_calls.specs.Machine.{action_at, first_phase}
pub use Rattle.gt_model.specs.Rules.{IsAllowed, CallerKnowledge, before_pin, begun, control_with, first, first_body}
pub use Rattle.gt_model.specs.Rules.{first_look, frame_count_of, is_kind, rights_to_copy, rights_to_map, size_of}
pub use Rattle.gt_model.specs.Rules.{stands, via_judged}
pub use Rattle.gt_model.specs.Path.{dest_pair, end_leg, entry_refusal, map_leg, path, rule_of_try, second_leg}
pub use Rattle.gt_model.specs.Path.{source_pair}
pub use Rattle.gt_calls.specs.Resting.{Rests}
pub use Rattle.gt_calls.specs.Known.{entry_in, own_generation, knowledge_of}
pub use Rattle.gt_types.specs.Copies.{is_dest_granted, is_source_granted}
pub use Rattle.gt_calls.specs.Standing.{IsAt, StandsAt, held_in, pins_at, pins_by_call}
pub use Rattle.gt_model.specs.declared.action.Action.{Action}
pub use Rattle.gt_types.specs.declared.places.Spot.{Spot}
pub use Rattle.gt_model.specs.declared.action.Observation.{Observation}
pub use Rattle.gt_model.specs.declared.action.Observation.TheVariants.{Missed, Nothing, Taken, Word}
pub use Rattle.gt_model.specs.declared.action.Step.{Step}
pub use Rattle.gt_model.specs.declared.action.Step.TheVariants.{Exchange, LookBody, LookControl, LookHeader, Pin}
pub use Rattle.gt_model.specs.declared.action.Step.TheVariants.{StoreBody, StoreHeader, Unpin}
pub use Rattle.gt_model.specs.declared.action.CallValue.{CallValue}
pub use Rattle.gt_model.specs.declared.action.CallValue.TheVariants.{Frames}
pub use Rattle.gt_model.specs.declared.action.CallResult.{CallResult}
pub use Rattle.gt_model.specs.declared.action.CallResult.TheVariants.{Given, Granted, Refused}
pub use Rattle.gt_calls.specs.declared.call.Call.{Call}
pub use Rattle.gt_calls.specs.declared.call.Phase.{Phase}
pub use Rattle.gt_calls.specs.declared.call.Phase.TheVariants.{Accessing, Asking, Changing, Ending, Exchanging, Last}
pub use Rattle.gt_calls.specs.declared.call.Phase.TheVariants.{Looking, Storing, StoringSecond, Walking}
pub use Rattle.gt_model.specs.declared.action.HeaderQuery.{HeaderQuery}
pub use Rattle.gt_model.specs.declared.held.HeldPin.{HeldPin}
pub use Rattle.gt_model.specs.declared.held.AccessPath.{AccessPath}
pub use Rattle.gt_model.specs.declared.held.AccessPath.TheVariants.{Direct, Through}
pub use Rattle.gt_model.specs.declared.bounds.TheConstants.{SERIAL_LIMIT, MORE_TRIES}
pub use Rattle.gt_model.specs.declared.leg.Leg.{Leg}
pub use Rattle.gt_calls.specs.declared.leg.LegPhase.{LegPhase}
pub use Rattle.gt_calls.specs.declared.leg.LegPhase.TheVariants.{Body, Look, Pinning, Relook, Second}
pub use Rattle.gt_model.specs.declared.request.OpenRequest.{OpenRequest}
pub use Rattle.gt_model.specs.declared.request.OpenRequest.TheVariants.{Copy, Demote, GetVersion, Load, Map, Peek}
pub use Rattle.gt_model.specs.declared.request.OpenRequest.TheVariants.{Poke, QuerySize, Release, SetVersion}
pub use Rattle.gt_model.specs.declared.request.OpenRequest.TheVariants.{SetupTable, Store, Unmap}
pub use Rattle.gt_types.specs.declared.copies.CopyArgs.{CopyArgs}
pub use Rattle.gt_model.specs.declared.request.PinHolder.{PinHolder}
pub use Rattle.gt_model.specs.declared.request.Request.{Request}
pub use Rattle.gt_core.specs.declared.core_state.Begun.{Begun}
pub use Rattle.gt_core.specs.declared.core_state.Ticked.{Ticked}
pub use Rattle.gt_core.specs.declared.kept.Machine.{Machine}
pub use Rattle.gt_core.specs.declared.pin_counts.CountsChange.{CountsChange}
pub use Rattle.gt_core.specs.declared.pin_counts.CountsChange.TheVariants.{Pinned, Stored, Unpinned}
pub use Rattle.gt_core.specs.declared.pin_counts.PinCounts.{PinCounts}
pub use Rattle.gt_model.specs.declared.trace.Answer.{Answer}
pub use Rattle.gt_model.specs.declared.trace.Answer.TheVariants.{Bytes, Denied, Done, Mapped, Size, Version}
pub use Rattle.gt_model.specs.declared.trace.Element.{Element}
pub use Rattle.gt_model.specs.declared.trace.Element.TheVariants.{Busy, Idle, NoDomain}
pub use Rattle.gt_model.specs.declared.trace.Event.{Event}
pub use Rattle.gt_model.specs.declared.trace.Event.TheVariants.{Begin, Tick}
pub use Rattle.gt_model.specs.declared.trace.ItemEvent.{ItemEvent}
pub use Rattle.gt_model.specs.declared.trace.ItemEvent.TheVariants.{Began, Stepped}
pub use Rattle.gt_model.specs.declared.trace.Item.{Item}
pub use Rattle.gt_core.specs.declared.underway.OpenCall.{OpenCall}
pub use Rattle.gt_model.specs.Entries.{IsEntry}
pub use Rattle.gt_model.specs.Permits.{forwards, permits}
pub use Rattle.gt_model.specs.Spelling.{IsSpelled, entry_of}
pub use Rattle.gt_model.specs.Words.{IsInRange, control_of, control_word, header_word, pins_of}
pub use Rattle.gt_model.specs.declared.change.EntryChange.{EntryChange}
pub use Rattle.gt_model.specs.declared.change.EntryChange.TheVariants.{Publish}
pub use Rattle.gt_model.specs.declared.change.BodyWord.{BodyWord}
pub use Rattle.gt_model.specs.declared.control.Control.{Control}
pub use Rattle.gt_model.specs.declared.entry.Entry.{Entry}
pub use Rattle.gt_model.specs.declared.entry.Entry.TheVariants.{Invalid, Via}
pub use Rattle.gt_model.specs.declared.header.Header.{Header}
pub use Rattle.gt_model.specs.Written.{Patch, written}
pub use Rattle.gt_frames.specs.Frames.{bytes_at, patches}
pub use Rattle.gt_frames.specs.Places.{frame_counts}
pub use Rattle.gt_frames.specs.Sets.{AreKept, FrameSet, frame_at}
pub use Rattle.gt_types.specs.declared.places.FrameName.{FrameName}
pub use Rattle.gt_handles.specs.Handles.{HandleMap, Updates, count_of, value_of}
pub use Rattle.gt_model.specs.declared.handle.Handle.{Handle}
pub use Rattle.gt_types.specs.Config.{IsFirstFault, IsWithinLimits}
pub use Rattle.gt_types.specs.Denial.{denial_of}
pub use Rattle.gt_types.specs.Names.{domain_of, resolved}
pub use Rattle.gt_types.specs.declared.Dir.{Dir}
pub use Rattle.gt_types.specs.declared.Dir.TheVariants.{Read, Write}
pub use Rattle.gt_types.specs.declared.DomId.{DomId}
pub use Rattle.gt_types.specs.declared.GrantRef.{GrantRef}
pub use Rattle.gt_types.specs.declared.TypeId.{TypeId}
pub use Rattle.gt_types.specs.declared.Use.{Use}
pub use Rattle.gt_types.specs.declared.config.Config.{Config}
pub use Rattle.gt_types.specs.declared.config.DomainConfig.{DomainConfig}
pub use Rattle.gt_types.specs.declared.config.StartFault.{StartFault}
pub use Rattle.gt_types.specs.declared.denial.Denial.{Denial}
pub use Rattle.gt_types.specs.declared.denial.Rule.{Rule}
pub use Rattle.gt_types.specs.declared.denial.Rule.TheVariants.{N18, N19, N9}
pub use Rattle.gt_types.specs.declared.limits.TheConstants.{FRAME_SIZE, LAST_VERSION, MAX_PINS, MAX_TABLE_FRAMES}
pub use Rattle.gt_types.specs.declared.limits.TheConstants.{MAX_TRIES, TABLE_ENTRIES}
pub use Rattle.gt_types.specs.declared.perms.Perms.{Perms}
pub use Rattle.std.proofs.Common.{inl, inr}
pub use Rattle.std.proofs.Math.ListN.{set}
pub use Rattle.std.specs.Borrow.{Bor}
pub use Rattle.std.specs.Option.{option_map, option_or}
