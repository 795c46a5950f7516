-- Names of other crates, and of the code, that the definitions here use.
pub use Rattle.gt_model.specs.declared.action.Action.{Action}
pub use Rattle.gt_model.specs.declared.action.Action.TheVariants.{Done}
pub use Rattle.gt_types.specs.declared.places.Spot.{Spot}
pub use Rattle.gt_model.specs.declared.action.Observation.{Observation}
pub use Rattle.gt_model.specs.declared.action.Observation.TheVariants.{Missed, Nothing, Taken, Word}
pub use Rattle.gt_model.specs.declared.action.Step.{Step}
pub use Rattle.gt_model.specs.declared.action.Step.TheVariants.{Exchange, LookBody, LookControl, LookHeader, Pin}
pub use Rattle.gt_model.specs.declared.action.Step.TheVariants.{StoreBody, StoreHeader, Unpin}
pub use Rattle.gt_model.specs.declared.action.CallValue.{CallValue}
pub use Rattle.gt_model.specs.declared.action.CallValue.TheVariants.{Frames}
pub use Rattle.gt_model.specs.declared.action.CallResult.{CallResult}
pub use Rattle.gt_model.specs.declared.action.CallResult.TheVariants.{Given, Granted, Mapped, Refused}
pub use Rattle.gt_calls.specs.declared.call.Call.{Call}
pub use Rattle.gt_calls.specs.declared.call.Phase.{Phase}
pub use Rattle.gt_calls.specs.declared.call.Phase.TheVariants.{Accessing, Asking, Changing, Ending, Exchanging, Last}
pub use Rattle.gt_calls.specs.declared.call.Phase.TheVariants.{Looking, Storing, StoringSecond, Walking}
pub use Rattle.gt_model.specs.declared.action.HeaderQuery.{HeaderQuery}
pub use Rattle.gt_model.specs.declared.action.HeaderQuery.TheVariants.{Size, Version}
pub use Rattle.gt_model.specs.declared.bounds.TheConstants.{MAX_STEPS, SERIAL_LIMIT, MORE_TRIES}
pub use Rattle.gt_calls.specs.declared.copying.PinPurpose.{PinPurpose}
pub use Rattle.gt_calls.specs.declared.copying.PinPurpose.TheVariants.{Dest, Mapping, Source}
pub use Rattle.gt_model.specs.declared.held.HeldPin.{HeldPin}
pub use Rattle.gt_model.specs.declared.held.CallPins.{CallPins}
pub use Rattle.gt_model.specs.declared.held.AccessPath.{AccessPath}
pub use Rattle.gt_model.specs.declared.held.AccessPath.TheVariants.{Direct, Own, Through}
pub use Rattle.gt_calls.specs.declared.known.CallerState.{CallerState}
pub use Rattle.gt_model.specs.declared.leg.Leg.{Leg}
pub use Rattle.gt_calls.specs.declared.leg.LegNext.{LegNext}
pub use Rattle.gt_calls.specs.declared.leg.LegNext.TheVariants.{Going, Pinned}
pub use Rattle.gt_calls.specs.declared.leg.LegPhase.{LegPhase}
pub use Rattle.gt_calls.specs.declared.leg.LegPhase.TheVariants.{Body, Header, Look, Pinning, Relook, Second}
pub use Rattle.gt_model.specs.declared.request.OpenRequest.{OpenRequest}
pub use Rattle.gt_model.specs.declared.request.OpenRequest.TheVariants.{Copy, Demote, GetVersion, Grant, Load, Map}
pub use Rattle.gt_model.specs.declared.request.OpenRequest.TheVariants.{Peek, Poke, Promote, QuerySize, Revoke}
pub use Rattle.gt_model.specs.declared.request.OpenRequest.TheVariants.{SetVersion, Probe, Release, SetupTable, Store}
pub use Rattle.gt_model.specs.declared.request.OpenRequest.TheVariants.{Unmap, Withdraw}
pub use Rattle.gt_types.specs.declared.copies.CopyArgs.{CopyArgs}
pub use Rattle.gt_types.specs.declared.copies.End.{End}
pub use Rattle.gt_model.specs.declared.request.Request.{Request}
pub use Rattle.gt_model.specs.Bytes.{Spells, field, first_refused, flags_of, is_set}
pub use Rattle.gt_model.specs.Entries.{IsEntry, frame_of}
pub use Rattle.gt_model.specs.Permits.{allows_direction, forwards, is_copying, permits}
pub use Rattle.gt_model.specs.Spelling.{entry_of}
pub use Rattle.gt_model.specs.Words.{control_of, control_word, header_of}
pub use Rattle.gt_model.specs.declared.change.EntryChange.{EntryChange}
pub use Rattle.gt_model.specs.declared.change.EntryChange.TheVariants.{Publish}
pub use Rattle.gt_model.specs.declared.change.BodyWord.{BodyWord}
pub use Rattle.gt_model.specs.declared.control.Control.{Control}
pub use Rattle.gt_model.specs.declared.entry.Entry.{Entry}
pub use Rattle.gt_model.specs.declared.entry.Entry.TheVariants.{Invalid, Page, Sub, Via}
pub use Rattle.gt_handles.specs.Handles.{HandleMap, count_of, value_of}
pub use Rattle.gt_model.specs.declared.handle.Handle.{Handle}
pub use Rattle.gt_types.specs.Denial.{denial_of}
pub use Rattle.gt_types.specs.Names.{copy, domain_of, map_read, map_write, query, resolved, setup, unmap}
pub use Rattle.gt_types.specs.declared.Dir.{Dir}
pub use Rattle.gt_types.specs.declared.Dir.TheVariants.{Read, Write}
pub use Rattle.gt_types.specs.declared.DomId.{DomId}
pub use Rattle.gt_types.specs.declared.GrantRef.{GrantRef}
pub use Rattle.gt_types.specs.declared.TypeId.{TypeId}
pub use Rattle.gt_types.specs.declared.Use.{Use}
pub use Rattle.gt_types.specs.declared.config.DomainConfig.{DomainConfig}
pub use Rattle.gt_types.specs.declared.denial.Denial.{Denial}
pub use Rattle.gt_types.specs.declared.denial.Facts.TheVariants.{Policy}
pub use Rattle.gt_types.specs.declared.denial.Field.{Field}
pub use Rattle.gt_types.specs.declared.denial.Rule.{Rule}
pub use Rattle.gt_types.specs.declared.denial.Rule.TheVariants.{N1, N10, N11, N12, N13, N14, N15, N16, N17, N18, N19}
pub use Rattle.gt_types.specs.declared.denial.Rule.TheVariants.{N2, N20, N21, N22, N23, N24, N25, N3, N4, N5, N6, N7}
pub use Rattle.gt_types.specs.declared.denial.Rule.TheVariants.{N8, N9}
pub use Rattle.gt_types.specs.declared.limits.TheConstants.{FRAME_SIZE, LAST_GENERATION, MAX_MAPPINGS, MAX_PINS}
pub use Rattle.gt_types.specs.declared.limits.TheConstants.{MAX_TABLE_FRAMES, MAX_TRIES}
pub use Rattle.gt_types.specs.declared.perms.Perms.{Perms}
pub use Rattle.gt_types.specs.declared.rights.Triple.{Triple}
pub use Rattle.std.proofs.Common.{arith}
