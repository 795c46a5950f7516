-- The words that these proofs use, from the crates below and from the definitions of this one.
pub use Rattle.std.{proofs.Common.Bool, proofs.Common.Err, proofs.Common.List, proofs.Common.None, proofs.Common.Ok}
pub use Rattle.std.{proofs.Common.Option, proofs.Common.Some, proofs.Common.[], proofs.Common.ap, proofs.Common.arith}
pub use Rattle.std.{proofs.Common.cond, proofs.Common.drop, proofs.Common.false, proofs.Common.inl, proofs.Common.inr}
pub use Rattle.std.{proofs.Common.length, proofs.Common.refl, proofs.Common.subst, proofs.Common.suc}
pub use Rattle.std.{proofs.Common.sym, proofs.Common.true, proofs.Common.zero, proofs.Common.ℕ, proofs.Common.◌%◌}
pub use Rattle.std.{proofs.Common.◌*◌, proofs.Common.◌++◌, proofs.Common.◌+◌, proofs.Common.◌<◌, proofs.Common.◌∙◌}
pub use Rattle.std.{proofs.Common.◌∷◌, proofs.Common.◌≡◌, proofs.Common.◌≤◌, proofs.lemmas.Bool.cond_both}
pub use Rattle.std.{proofs.lemmas.Bool.ltb-true, proofs.lemmas.List.append-nil, proofs.lemmas.List.append_assoc}
pub use Rattle.std.{proofs.lemmas.Option.none-some, proofs.lemmas.Option.same_Some, specs.Prelude.All}
pub use Rattle.std.{specs.Prelude.MatchBool, specs.Prelude.nat_le, specs.Prelude.nat_lt, specs.Prelude.not}
pub use Rattle.std.{specs.Prelude.◌==◌, specs.Option.option_or}
pub use Rattle.gt_types.specs.{Names.domain_of, Names.resolved, declared.Dir.TheVariants.Read}
pub use Rattle.gt_types.specs.{declared.Dir.TheVariants.Write, declared.DomId.DomId, declared.GrantRef.GrantRef}
pub use Rattle.gt_types.specs.{declared.denial.Rule.Rule, declared.denial.Rule.TheVariants.N19}
pub use Rattle.gt_types.specs.{declared.limits.TheConstants.LAST_GENERATION, declared.limits.TheConstants.MAX_TRIES}
pub use Rattle.gt_types.specs.{declared.Dir.Dir, declared.copies.End.End, declared.copies.CopyArgs.CopyArgs}
pub use Rattle.gt_types.specs.{Copies.is_dest_granted, Copies.is_source_granted}
pub use Rattle.gt_model.specs.Bytes.{IsLaidOutV2, Spells, SpellsV1, SpellsV2, field, first_refused, flags_of, is_set}
pub use Rattle.gt_model.specs.Spelling.{entry_of, entry_with}
pub use Rattle.gt_model.specs.Words.{control_of, header_of}
pub use Rattle.gt_model.specs.declared.change.EntryChange.{EntryChange}
pub use Rattle.gt_model.specs.declared.control.Control.{Control}
pub use Rattle.gt_model.specs.declared.control.EntryKind.{EntryKind}
pub use Rattle.gt_model.specs.declared.entry.Entry.{Entry}
pub use Rattle.gt_model.specs.declared.entry.Entry.TheVariants.{Invalid, Page, Sub, Via}
pub use Rattle.gt_model.specs.Asking.{SpellsItsEntry, asked, begun_of, bytes_begun, bytes_of, entry_spelled}
pub use Rattle.gt_model.specs.Asking.{plainly_asked}
pub use Rattle.gt_model.specs.Rules.{grant_begun, CallerKnowledge, before_pin, begun, cannot_stand, copy_denied}
pub use Rattle.gt_model.specs.Rules.{first, first_body, first_look, frame_count_of, is_invalid, is_kind, pins_of}
pub use Rattle.gt_model.specs.Rules.{size_of, via_judged}
pub use Rattle.gt_calls.specs.{Asking.judged_as, Counting.IsCounted, Counting.pins_before, Counting.leg_left}
pub use Rattle.gt_calls.specs.{Counting.leg_steps, Counting.most_steps, Counting.steps_left, Following.Advances}
pub use Rattle.gt_calls.specs.{Following.FitsAction, Following.FitsNext, Following.Goes, Following.GoesOnWith}
pub use Rattle.gt_calls.specs.{Following.HoldsAfter, Following.HoldsNext, Following.IsStepAction, Following.Starts}
pub use Rattle.gt_calls.specs.{Holding.pins_so_far, Machine.action_at, Machine.after_dest_pin, Machine.after_leg}
pub use Rattle.gt_calls.specs.{Legs.on_control_word, Legs.after_miss, Machine.after_own_miss, Machine.after_pin}
pub use Rattle.gt_calls.specs.{Machine.after_pin_of, Machine.after_source_pin, Machine.after_store, Legs.after_words}
pub use Rattle.gt_calls.specs.{Machine.at_dest, Machine.at_source, Machine.first_phase, Legs.leg_after, Legs.leg_step}
pub use Rattle.gt_calls.specs.{Legs.leg_to_come, Legs.missed_to_come, Machine.missed_turn, Machine.next_to_give}
pub use Rattle.gt_calls.specs.{Legs.outcome_to_come, Machine.phase_after, Machine.refused_as, Machine.remains}
pub use Rattle.gt_calls.specs.{Machine.standing_after, Machine.where_via, Opening.IsOwnEnd, Opening.OpensCopy}
pub use Rattle.gt_calls.specs.{Opening.opens, Resting.HasRead, Resting.HasSeenTable, Resting.IsLegFor}
pub use Rattle.gt_calls.specs.{Resting.IsForwarded, Resting.IsOfRun, Resting.IsPermitted, Resting.IsReached}
pub use Rattle.gt_calls.specs.{Resting.IsToward, Resting.Lets, Resting.LookedLast, Resting.Rests}
pub use Rattle.gt_calls.specs.{Resting.RestsOnRequest, Resting.RestsStep, Standing.HasReadFirst, Standing.HasShown}
pub use Rattle.gt_calls.specs.{Standing.HasTried, Standing.IsQuiet, Standing.IsTurn, Standing.StandsAt}
pub use Rattle.gt_calls.specs.{Standing.held_in, Standing.pins_at, declared.call.Phase.Phase}
pub use Rattle.gt_calls.specs.{declared.call.Phase.TheVariants.Accessing, declared.call.Phase.TheVariants.Asking}
pub use Rattle.gt_calls.specs.{declared.call.Phase.TheVariants.Changing, declared.call.Phase.TheVariants.Ending}
pub use Rattle.gt_calls.specs.{declared.call.Phase.TheVariants.Exchanging, declared.call.Phase.TheVariants.Last}
pub use Rattle.gt_calls.specs.{declared.call.Phase.TheVariants.Looking, declared.call.Phase.TheVariants.Storing}
pub use Rattle.gt_calls.specs.{declared.call.Phase.TheVariants.StoringSecond, declared.call.Phase.TheVariants.Walking}
pub use Rattle.gt_calls.specs.{declared.copying.PinPurpose.PinPurpose, declared.copying.PinPurpose.TheVariants.Dest}
pub use Rattle.gt_calls.specs.{declared.copying.PinPurpose.TheVariants.Mapping}
pub use Rattle.gt_calls.specs.{declared.copying.PinPurpose.TheVariants.Source, declared.leg.LegNext.LegNext}
pub use Rattle.gt_calls.specs.{declared.leg.LegNext.TheVariants.Going, declared.leg.LegNext.TheVariants.Pinned}
pub use Rattle.gt_calls.specs.{declared.leg.LegPhase.LegPhase, declared.leg.LegPhase.TheVariants.Body}
pub use Rattle.gt_calls.specs.{declared.leg.LegPhase.TheVariants.Header, declared.leg.LegPhase.TheVariants.Look}
pub use Rattle.gt_calls.specs.{declared.leg.LegPhase.TheVariants.Pinning, declared.leg.LegPhase.TheVariants.Relook}
pub use Rattle.gt_calls.specs.{declared.leg.LegPhase.TheVariants.Second, declared.call.Call.Call}
pub use Rattle.gt_model.specs.Holding.{held_by, last_first, no_pins}
pub use Rattle.gt_model.specs.Path.{AfterPin, AfterRefusal, Continuation, FitsStep, IsExchanged, IsWord, accesses}
pub use Rattle.gt_model.specs.Path.{after_beginning, at_first_look, beyond, copies, dest_pair, end_leg, entry_refusal}
pub use Rattle.gt_model.specs.Path.{give_back, held_of, is_stopped, last_step, leg, map_leg, path, reads_body}
pub use Rattle.gt_model.specs.Path.{reads_second, refused_holding, rule_of_try, second_leg, source_pair, steps_of}
pub use Rattle.gt_model.specs.Path.{to_dest, try_pin, turn, unless_refused}
pub use Rattle.gt_calls.specs.Known.{entry_in, knows}
pub use Rattle.gt_model.specs.declared.action.Action.{Action}
pub use Rattle.gt_model.specs.declared.action.Action.TheVariants.{Done}
pub use Rattle.gt_model.specs.declared.action.Observation.{Observation}
pub use Rattle.gt_model.specs.declared.action.Observation.TheVariants.{Missed, Nothing, Taken, Word}
pub use Rattle.gt_model.specs.declared.action.Step.{Step}
pub use Rattle.gt_model.specs.declared.action.Step.TheVariants.{LookBody, LookControl, Pin, StoreBody}
pub use Rattle.gt_model.specs.declared.action.CallResult.{CallResult}
pub use Rattle.gt_model.specs.declared.held.HeldPin.{HeldPin}
pub use Rattle.gt_model.specs.declared.held.CallPins.{CallPins}
pub use Rattle.gt_model.specs.declared.held.AccessPath.{AccessPath}
pub use Rattle.gt_model.specs.declared.held.AccessPath.TheVariants.{Direct, Through}
pub use Rattle.gt_model.specs.declared.leg.Leg.{Leg}
pub use Rattle.gt_model.specs.declared.bounds.TheConstants.{MORE_TRIES, MAX_STEPS}
pub use Rattle.gt_model.specs.declared.request.OpenRequest.{OpenRequest}
pub use Rattle.gt_model.specs.declared.request.OpenRequest.TheVariants.{Copy, Grant, Map}
pub use Rattle.gt_model.specs.declared.request.Request.{Request}
unfoldable pub use Rattle.gt_model.specs.Path.{tries, turns}
unfoldable pub use Rattle.gt_model.specs.Rules.{has_valid}
