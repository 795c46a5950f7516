-- The words that these proofs use, from the crates below and from the definitions of this one.
pub use Rattle.std.{proofs.Common.Bool, proofs.Common.Bor, proofs.Common.Err, proofs.Common.List, proofs.Common.None}
pub use Rattle.std.{proofs.Common.Ok, proofs.Common.Option, proofs.Common.Some, proofs.Common.[], proofs.Common.ap}
pub use Rattle.std.{proofs.Common.arith, proofs.Common.cond, proofs.Common.drop, proofs.Common.false}
pub use Rattle.std.{proofs.Common.get_or, proofs.Common.inl, proofs.Common.inr, proofs.Common.length}
pub use Rattle.std.{proofs.Common.ltb, proofs.Common.map, proofs.Common.min, proofs.Common.option_copied}
pub use Rattle.std.{proofs.Common.refl, proofs.Common.replicate, proofs.Common.reverse, proofs.Common.set}
pub use Rattle.std.{proofs.Common.slice_index_or, proofs.Common.slice_set, proofs.Common.subst, proofs.Common.suc}
pub use Rattle.std.{proofs.Common.sym, proofs.Common.take, proofs.Common.true, proofs.Common.zero, proofs.Common.ℕ}
pub use Rattle.std.{proofs.Common.◌%◌, proofs.Common.◌*◌, proofs.Common.◌++◌, proofs.Common.◌+◌, proofs.Common.◌-◌}
pub use Rattle.std.{proofs.Common.◌/◌, proofs.Common.◌<◌, proofs.Common.◌∙◌, proofs.Common.◌∷◌, proofs.Common.◌≡◌}
pub use Rattle.std.{proofs.Common.◌≢◌, proofs.Common.◌≤◌, proofs.Common.◌⊎◌, proofs.lemmas.Bool.and_from}
pub use Rattle.std.{proofs.lemmas.Bool.and_parts, proofs.lemmas.Bool.cond_both, proofs.lemmas.Bool.eq-eqb}
pub use Rattle.std.{proofs.lemmas.Bool.eqb-false, proofs.lemmas.Bool.eqb-true, proofs.lemmas.Bool.false≢true}
pub use Rattle.std.{proofs.lemmas.Bool.le-leb, proofs.lemmas.Bool.le-ltb, proofs.lemmas.Bool.leb-false}
pub use Rattle.std.{proofs.lemmas.Bool.lt-leb, proofs.lemmas.Bool.lt-ltb, proofs.lemmas.Bool.ltb-false}
pub use Rattle.std.{proofs.lemmas.Bool.ltb-true, proofs.lemmas.Bool.true≢false, proofs.lemmas.Grind.reverse_onto}
pub use Rattle.std.{proofs.lemmas.List.append-nil, proofs.lemmas.List.append_assoc, proofs.lemmas.List.drop_all}
pub use Rattle.std.{proofs.lemmas.List.get_or-replicate, proofs.lemmas.List.get_or_default}
pub use Rattle.std.{proofs.lemmas.List.length-append, proofs.lemmas.List.length-drop, proofs.lemmas.List.length-map}
pub use Rattle.std.{proofs.lemmas.List.length-replicate, proofs.lemmas.List.length-reverse}
pub use Rattle.std.{proofs.lemmas.List.length-take-le, proofs.lemmas.List.map-append}
pub use Rattle.std.{proofs.lemmas.List.reverse-append, proofs.lemmas.List.take_all, proofs.lemmas.List.take_more}
pub use Rattle.std.{proofs.lemmas.List.Elements.All-cons, proofs.lemmas.List.Elements.All-head}
pub use Rattle.std.{proofs.lemmas.List.Elements.All-nil, proofs.lemmas.List.Elements.All-push}
pub use Rattle.std.{proofs.lemmas.List.Elements.All-tail, proofs.lemmas.List.Quantifiers.position-Some}
pub use Rattle.std.{proofs.lemmas.List.Sums.sum_by-cons, proofs.lemmas.List.Sums.sum_by_push}
pub use Rattle.std.{proofs.lemmas.Option.none-some, proofs.lemmas.Option.same_Some}
pub use Rattle.std.{proofs.lemmas.Option.slice_get-get_or, proofs.lemmas.Option.slice_get_past}
pub use Rattle.std.{proofs.lemmas.Option.slice_get_read, specs.List.position_or_len, specs.Option.option_map}
pub use Rattle.std.{specs.Option.option_or, specs.Prelude.All, specs.Prelude.Any, specs.Prelude.IfOk}
pub use Rattle.std.{specs.Prelude.IsTrue, specs.Prelude.OnErr, specs.Prelude.Result, specs.Prelude.count_by}
pub use Rattle.std.{specs.Prelude.find, specs.Prelude.is_none, specs.Prelude.is_some, specs.Prelude.nat_le}
pub use Rattle.std.{specs.Prelude.nat_lt, specs.Prelude.not, specs.Prelude.position, specs.Prelude.slice_get}
pub use Rattle.std.{specs.Prelude.unwrap_or, specs.Prelude.vec_len, specs.Prelude.◌&&◌, specs.Prelude.◌==◌}
pub use Rattle.std.{specs.Prelude.◌^◌, specs.Prelude.◌||◌, proofs.lemmas.List.Folds.find_at}
pub use Rattle.gt_types.specs.{Denial.denial_of, Names.domain_of, Names.resolved, declared.Dir.Dir}
pub use Rattle.gt_types.specs.{declared.Dir.TheVariants.Read, declared.Dir.TheVariants.Write, declared.DomId.DomId}
pub use Rattle.gt_types.specs.{declared.GrantRef.GrantRef, declared.TypeId.TypeId, declared.config.Config.Config}
pub use Rattle.gt_types.specs.{declared.config.DomainConfig.DomainConfig, declared.denial.Denial.Denial}
pub use Rattle.gt_types.specs.{declared.denial.Facts.TheVariants.Policy, declared.denial.Rule.Rule}
pub use Rattle.gt_types.specs.{declared.denial.Rule.TheVariants.N1, declared.denial.Rule.TheVariants.N11}
pub use Rattle.gt_types.specs.{declared.denial.Rule.TheVariants.N12, declared.denial.Rule.TheVariants.N13}
pub use Rattle.gt_types.specs.{declared.denial.Rule.TheVariants.N14, declared.denial.Rule.TheVariants.N15}
pub use Rattle.gt_types.specs.{declared.denial.Rule.TheVariants.N16, declared.denial.Rule.TheVariants.N17}
pub use Rattle.gt_types.specs.{declared.denial.Rule.TheVariants.N18, declared.denial.Rule.TheVariants.N19}
pub use Rattle.gt_types.specs.{declared.denial.Rule.TheVariants.N5, declared.denial.Rule.TheVariants.N9}
pub use Rattle.gt_types.specs.{declared.limits.TheConstants.ENTRIES_V1, declared.limits.TheConstants.ENTRIES_V2}
pub use Rattle.gt_types.specs.{declared.limits.TheConstants.FRAME_SIZE, declared.limits.TheConstants.LAST_GENERATION}
pub use Rattle.gt_types.specs.{declared.limits.TheConstants.LAST_VERSION, declared.limits.TheConstants.MAX_PINS}
pub use Rattle.gt_types.specs.{declared.limits.TheConstants.MAX_TABLE_FRAMES, declared.limits.TheConstants.MAX_TRIES}
pub use Rattle.gt_types.specs.{declared.limits.TheConstants.TABLE_ENTRIES, declared.perms.Perms.Perms}
pub use Rattle.gt_types.specs.{declared.rights.Triple.Triple, declared.Memory.Memory, Config.IsWithinLimits}
pub use Rattle.gt_types.specs.{declared.places.FrameName.FrameName, Copies.is_dest_granted, Copies.is_source_granted}
pub use Rattle.gt_types.specs.{declared.copies.CopyArgs.CopyArgs, declared.copies.End.End, declared.places.Spot.Spot}
pub use Rattle.gt_model.specs.Entries.{IsEntry, frame_of, is_invalid}
pub use Rattle.gt_entry.specs.{Laws.control-round, Laws.entry-read}
pub use Rattle.gt_model.specs.Permits.{allows_direction, forwards, is_copying, permits}
pub use Rattle.gt_model.specs.Spelling.{entry_of, first_body}
pub use Rattle.gt_model.specs.Words.{control_of, control_word, header_of, header_word}
pub use Rattle.gt_model.specs.declared.change.EntryChange.{EntryChange}
pub use Rattle.gt_model.specs.declared.change.EntryChange.TheVariants.{Publish}
pub use Rattle.gt_model.specs.declared.change.BodyWord.{BodyWord}
pub use Rattle.gt_model.specs.declared.control.Control.{Control}
pub use Rattle.gt_model.specs.declared.entry.Entry.{Entry}
pub use Rattle.gt_model.specs.declared.entry.Entry.TheVariants.{Invalid, Page, Sub, Via}
pub use Rattle.gt_model.specs.declared.header.Header.{Header}
pub use Rattle.gt_handles.specs.{Handles.HandleMap, Handles.count_of, Handles.value_of}
pub use Rattle.gt_handles.specs.{declared.handles.HandleSlot.HandleSlot}
pub use Rattle.gt_model.specs.declared.handle.Handle.{Handle}
pub use Rattle.gt_model.specs.Written.{Patch, overlay, replay, written}
pub use Rattle.gt_frames.specs.{Frames.FrameState, Frames.all_rightful, Frames.bytes_at, Frames.patch_of}
pub use Rattle.gt_frames.specs.{Frames.patches, Frames.permits_writing, Frames.suffices, Places.frame_counts}
pub use Rattle.gt_frames.specs.{Places.frames_of, Places.is_name, Places.pool_number, Sets.AreKept, Sets.FrameSet}
pub use Rattle.gt_frames.specs.{Sets.WritesTo, Sets.admits, Sets.all_zeros, Sets.frame_at, Sets.has_frame}
pub use Rattle.gt_frames.specs.{Sets.has_range, Sets.journal_in, declared.writ.Writ.Writ}
pub use Rattle.gt_frames.specs.{declared.writ.WriteRecord.WriteRecord}
unfoldable pub use Rattle.gt_model.specs.Written.{zeros}
pub use Rattle.gt_model.specs.Asking.{SpellsItsEntry, asked, begun_of, bytes_given_by}
pub use Rattle.gt_calls.specs.{Counting.most_steps, Counting.steps_left, Counting.steps_to_come, Following.FitsNext}
pub use Rattle.gt_calls.specs.{Following.Goes, Following.GoesOnWith, Following.HoldsAfter, Following.Starts}
pub use Rattle.gt_calls.specs.{Holding.begun_access_path, Holding.pins_so_far, Machine.action_at, Machine.after_dest_pin}
pub use Rattle.gt_calls.specs.{Machine.after_leg, Legs.on_control_word, Legs.after_miss, Machine.after_pin_of}
pub use Rattle.gt_calls.specs.{Machine.after_source_pin, Machine.after_store, Legs.after_words, Machine.at_dest}
pub use Rattle.gt_calls.specs.{Machine.first_phase, Legs.leg_after, Legs.leg_step, Machine.next_to_give}
pub use Rattle.gt_calls.specs.{Machine.phase_after, Machine.refused_as, Machine.where_via, Opening.holds-first}
pub use Rattle.gt_calls.specs.{Opening.opens, Resting.IsLegFor, Resting.IsMapped, Resting.IsOnFrom, Resting.IsPermitted}
pub use Rattle.gt_calls.specs.{Resting.IsReached, Resting.IsToward, Resting.Lets, Resting.Rests, Resting.RestsOnGrant}
pub use Rattle.gt_calls.specs.{Resting.RestsOnRequest, Resting.RestsOnTry, Resting.RestsOnWays, Resting.RestsOnWord}
pub use Rattle.gt_calls.specs.{Standing.HasShown, Standing.IsAt, Standing.IsQuiet, Standing.IsTurn, Standing.StandsAt}
pub use Rattle.gt_calls.specs.{Standing.held_in, Standing.pins_at, Standing.pins_by_call, declared.call.Call.Call}
pub use Rattle.gt_calls.specs.{declared.call.Phase.Phase, declared.call.Phase.TheVariants.Accessing}
pub use Rattle.gt_calls.specs.{declared.call.Phase.TheVariants.Asking, declared.call.Phase.TheVariants.Changing}
pub use Rattle.gt_calls.specs.{declared.call.Phase.TheVariants.Ending, declared.call.Phase.TheVariants.Exchanging}
pub use Rattle.gt_calls.specs.{declared.call.Phase.TheVariants.Last, declared.call.Phase.TheVariants.Looking}
pub use Rattle.gt_calls.specs.{declared.call.Phase.TheVariants.Storing, declared.call.Phase.TheVariants.StoringSecond}
pub use Rattle.gt_calls.specs.{declared.call.Phase.TheVariants.Walking, declared.copying.PinPurpose.PinPurpose}
pub use Rattle.gt_calls.specs.{declared.copying.PinPurpose.TheVariants.Dest}
pub use Rattle.gt_calls.specs.{declared.copying.PinPurpose.TheVariants.Mapping}
pub use Rattle.gt_calls.specs.{declared.copying.PinPurpose.TheVariants.Source, declared.known.OwnerEntry.OwnerEntry}
pub use Rattle.gt_calls.specs.{declared.known.TheConstants.ENTRIES, declared.leg.LegNext.LegNext}
pub use Rattle.gt_calls.specs.{declared.leg.LegNext.TheVariants.Going, declared.leg.LegNext.TheVariants.Pinned}
pub use Rattle.gt_calls.specs.{declared.leg.LegPhase.LegPhase, declared.leg.LegPhase.TheVariants.Body}
pub use Rattle.gt_calls.specs.{declared.leg.LegPhase.TheVariants.Look, declared.leg.LegPhase.TheVariants.Pinning}
pub use Rattle.gt_calls.specs.{declared.leg.LegPhase.TheVariants.Relook, declared.leg.LegPhase.TheVariants.Second}
pub use Rattle.gt_calls.specs.declared.asking.Judged.TheVariants as judgements
pub use Rattle.gt_calls.specs.declared.asking.Judged.{Judged}
pub use Rattle.gt_model.specs.Holding.{held_by, last_first, no_pins, owner_by, without_last, GivesHeld}
pub use Rattle.gt_model.specs.Rules.{IsAllowed, CallerKnowledge, before_pin, begun, control_with, copy_denied, denied}
pub use Rattle.gt_model.specs.Rules.{first, first_look, frame_count_of, is_kind, is_outside_sub, is_past_owner}
pub use Rattle.gt_model.specs.Rules.{map_dir, pins_of, refused_when, rights_to_copy, second_body, size_of, stands}
pub use Rattle.gt_model.specs.Rules.{via_judged}
pub use Rattle.gt_model.specs.Path.{Continuation, FitsStep, IsExchanged, after_beginning, dest_pair, end_leg}
pub use Rattle.gt_model.specs.Path.{entry_refusal, held_of, idle_word, is_stopped, map_leg, path, rule_of_try}
pub use Rattle.gt_model.specs.Path.{second_leg, source_pair, steps_of}
pub use Rattle.gt_calls.specs.Known.{entry_in, own_generation, knowledge_of, knows, row_entry, row_generation}
pub use Rattle.gt_model.specs.declared.action.Action.{Action}
pub use Rattle.gt_model.specs.declared.action.Action.TheVariants.{Done}
pub use Rattle.gt_model.specs.declared.action.Observation.{Observation}
pub use Rattle.gt_model.specs.declared.action.Observation.TheVariants.{Missed, Nothing, Taken, Word}
pub use Rattle.gt_model.specs.declared.action.Step.{Step}
pub use Rattle.gt_model.specs.declared.action.Step.TheVariants.{Exchange, LookBody, LookControl, LookHeader, StoreBody}
pub use Rattle.gt_model.specs.declared.action.Step.TheVariants.{StoreHeader, Unpin}
pub use Rattle.gt_model.specs.declared.action.CallValue.{CallValue}
pub use Rattle.gt_model.specs.declared.action.CallResult.{CallResult}
pub use Rattle.gt_model.specs.declared.action.CallResult.TheVariants.{Given, Granted, Refused}
pub use Rattle.gt_model.specs.declared.action.HeaderQuery.{HeaderQuery}
pub use Rattle.gt_model.specs.declared.held.HeldPin.{HeldPin}
pub use Rattle.gt_model.specs.declared.held.CallPins.{CallPins}
pub use Rattle.gt_model.specs.declared.held.AccessPath.{AccessPath}
pub use Rattle.gt_model.specs.declared.held.AccessPath.TheVariants.{Direct, Through}
pub use Rattle.gt_model.specs.declared.bounds.TheConstants.{SERIAL_LIMIT, MORE_TRIES}
pub use Rattle.gt_model.specs.declared.leg.Leg.{Leg}
pub use Rattle.gt_model.specs.declared.request.OpenRequest.{OpenRequest}
pub use Rattle.gt_model.specs.declared.request.OpenRequest.TheVariants.{Copy, Demote, GetVersion, Grant, Load, Map}
pub use Rattle.gt_model.specs.declared.request.OpenRequest.TheVariants.{Peek, Poke, Promote, QuerySize, Revoke}
pub use Rattle.gt_model.specs.declared.request.OpenRequest.TheVariants.{Withdraw, SetVersion, SetupTable, Store}
pub use Rattle.gt_model.specs.declared.request.OpenRequest.TheVariants.{Release, Unmap}
pub use Rattle.gt_model.specs.declared.request.PinHolder.{PinHolder}
pub use Rattle.gt_model.specs.declared.request.Request.{Request}
pub use Rattle.gt_core.specs.{Accesses.AccessedBy, Accesses.IsAdmitted, Accesses.IsLoadOf, Accesses.IsReadable}
pub use Rattle.gt_core.specs.{Accesses.IsWritOf, Accesses.IsWriting, Accesses.basis_of, Accesses.access_path_of}
pub use Rattle.gt_core.specs.{Alike.AreAlike, Alike.AsksKnown, Alike.HappensKnown, Alike.IsKnown, Alike.IsOfKnown}
pub use Rattle.gt_core.specs.{Alike.SameElement, Alike.SameEvent, Alike.SameHistory, Alike.KeylessItem}
pub use Rattle.gt_core.specs.{Alike.bare_event, Alike.bare_handle, Alike.bare_happened, Alike.bare_request}
pub use Rattle.gt_core.specs.{Alike.bare_step, Alike.keyless_answer, Alike.keyless_item, Effects.Adds, Effects.applied}
pub use Rattle.gt_core.specs.{Effects.own_after, Effects.slot_after, Effects.handle_taken, Effects.with_open_call}
pub use Rattle.gt_core.specs.{Effects.with_header, Effects.with_mapping, Effects.with_own, Effects.with_slot}
pub use Rattle.gt_core.specs.{Effects.with_underway, Effects.without_holder, Rows.changed_at, Shown.entry_shown}
pub use Rattle.gt_core.specs.{Shown.shown_at, Shown.shown_in, Sight.body_in, Sight.body_seen, Sight.control_in}
pub use Rattle.gt_core.specs.{Sight.control_seen, Sight.header_seen, Sight.reads_in, Sight.sees, Sight.slot_body}
pub use Rattle.gt_core.specs.{Sight.slot_reads, Sight.slot_writes, Sight.writes_in, Standing.StateStands}
pub use Rattle.gt_core.specs.{Standing.AreMappingsApart, Phases.AsksTable, Standing.CallAgrees, Acting.Closed}
pub use Rattle.gt_core.specs.{Standing.CoreStands, Standing.DoesEvent, Standing.DomainsDo, Standing.DomainsStand}
pub use Rattle.gt_core.specs.{Phases.EndsAfter, Phases.EndsCopy, Standing.FitsAsked, Standing.FitsGiven}
pub use Rattle.gt_core.specs.{Standing.FitsTable, Standing.FitsWord, Standing.FramesStand, Standing.GivenAgrees}
pub use Rattle.gt_core.specs.{Phases.LegHasLooked, Phases.LegHasRead, Phases.IsClean, Standing.IsLawfulPin}
pub use Rattle.gt_core.specs.{Standing.IsLawfullyHeld, Acting.IsOpenCall, Acting.IsRoomFor, Phases.IsShown}
pub use Rattle.gt_core.specs.{Acting.IsWritingNext, Phases.LegStands, Standing.MappingsAgree, Standing.OpenAgrees}
pub use Rattle.gt_core.specs.{Acting.OpensAs, Phases.PhaseStands, Acting.Settled, Standing.SlotAgrees}
pub use Rattle.gt_core.specs.{Standing.StandsForSome, Standing.StateAgrees, Acting.WantsMemory, Acting.WantsMemoryNow}
pub use Rattle.gt_core.specs.{Phases.WhileSame, Acting.answer_of, Acting.answer_with, Acting.begun_element}
pub use Rattle.gt_core.specs.{Standing.core_of, Phases.numbered, Phases.phase_refusal, Acting.ticked_element}
pub use Rattle.gt_core.specs.{Acting.ticked_with, States.CoreState, States.IsLoading, States.IsMapping, States.State}
pub use Rattle.gt_core.specs.{States.asked_in, States.asks_memory, States.changed_in, States.first_state}
pub use Rattle.gt_core.specs.{States.kept_by, States.state_of, Subject.entry_place_of, Subject.subject_at}
pub use Rattle.gt_core.specs.{declared.core_state.Begun.Begun, declared.core_state.Ticked.Ticked}
pub use Rattle.gt_core.specs.{declared.pin_counts.CountsChange.TheVariants.Stored}
pub use Rattle.gt_core.specs.{declared.pin_counts.CountsChange.TheVariants.Unpinned}
pub use Rattle.gt_core.specs.{declared.pin_counts.PinCounts.PinCounts, declared.underway.OpenCall.OpenCall}
pub use Rattle.gt_core.specs.{declared.pin_counts.CountsChange.CountsChange}
pub use Rattle.gt_model.specs.History.{History, Pin, Setting, Underway, WriteMade, by_leg, mapping_named, change_at}
pub use Rattle.gt_model.specs.History.{change_of, contents_at, control_at, changed_entry_of, exchange_sees}
pub use Rattle.gt_model.specs.History.{generation_at, given_in, header_from, header_or, header_stored, holder_after}
pub use Rattle.gt_model.specs.History.{is_holder, is_pin_on, known_at, legs_at, mapping_of, mappings_at}
pub use Rattle.gt_model.specs.History.{one_if_mapped, or_else, patches_by, pinned_by, raise_after, raise_of, reads_at}
pub use Rattle.gt_model.specs.History.{same_dir, same_handle, seen_by, stored_at, underway_after, underway_with}
pub use Rattle.gt_model.specs.History.{unpinned_by, values, word_at, writes_at, written_by, setting_of}
pub use Rattle.gt_model.specs.Legal.{AnsweredBy, BeginsRight, GivesValue, IsItemOf, IsRight, IsSpelled, LeavesAll}
pub use Rattle.gt_model.specs.Legal.{LegalAfter, MayDo, NoneStands, PinIsSound, StepsRight, StepsRightIn, gives_back}
pub use Rattle.gt_model.specs.Legal.{grown, history_after, refusal_if, refusal_of, verdict_in}
pub use Rattle.gt_model.specs.Justified.{CopyIsJustified, EndIsJustified, Forwards, IsInFrame, IsSafe, IsSafeChange}
pub use Rattle.gt_model.specs.Justified.{Justified, MayAsk, MayCopy, MayUse, MayUseMapping, Reaches}
pub use Rattle.gt_model.specs.FirstRule.{LegNow, StepsSoFar, after_source, at_entry, copy_now, dest_now, first_at}
pub use Rattle.gt_model.specs.FirstRule.{first_in_call, first_of_item, from_source, is_demote, is_in_body, is_other}
pub use Rattle.gt_model.specs.FirstRule.{leg_at, leg_now, refusal_in, rule_at_header, rule_at_look, rule_at_pin}
pub use Rattle.gt_model.specs.FirstRule.{rule_at_via, rule_before_pin, second_now, source_now, stood_with}
pub use Rattle.gt_model.specs.FirstRule.{toward_source}
pub use Rattle.gt_model.specs.declared.trace.Answer.{Answer}
pub use Rattle.gt_model.specs.declared.trace.Answer.TheVariants.{Denied, Mapped, Size, Version}
pub use Rattle.gt_model.specs.declared.trace.Element.{Element}
pub use Rattle.gt_model.specs.declared.trace.Element.TheVariants.{Busy, Idle, NoDomain}
pub use Rattle.gt_model.specs.declared.trace.Event.{Event}
pub use Rattle.gt_model.specs.declared.trace.Event.TheVariants.{Begin, Tick}
pub use Rattle.gt_model.specs.declared.trace.ItemEvent.{ItemEvent}
pub use Rattle.gt_model.specs.declared.trace.ItemEvent.TheVariants.{Began, Stepped}
pub use Rattle.gt_model.specs.declared.trace.Item.{Item}
unfoldable pub use Rattle.gt_core.specs.{Alike.IsGiven, Alike.IsRun, Alike.keyless_items}
unfoldable pub use Rattle.gt_model.specs.History.{body_at, entry_at, gather, live, maps_answered_at, open_call}
unfoldable pub use Rattle.gt_model.specs.History.{patches_at, raises_at, table_at, without}
unfoldable pub use Rattle.gt_model.specs.FirstRule.{looked_at, misses, stood}
unfoldable pub use Rattle.gt_model.specs.Legal.{IsLegalHistory}
pub use mathlib.Core.Path.{fun_ext}
