-- Names of other crates that the definitions here use.
pub use Rattle.gt_model.specs.Asking.{asked, begun_of, bytes_given_by}
pub use Rattle.gt_model.specs.Path.{path}
pub use Rattle.gt_model.specs.Rules.{CallerKnowledge}
pub use Rattle.gt_calls.specs.Known.{knowledge_of}
pub use Rattle.gt_calls.specs.Standing.{IsAt}
pub use Rattle.gt_model.specs.declared.action.Observation.{Observation}
pub use Rattle.gt_model.specs.declared.action.Step.{Step}
pub use Rattle.gt_model.specs.declared.action.Step.TheVariants.{Unpin}
pub use Rattle.gt_model.specs.declared.action.CallResult.{CallResult}
pub use Rattle.gt_model.specs.declared.action.CallResult.TheVariants.{Granted}
pub use Rattle.gt_calls.specs.declared.call.Call.{Call}
pub use Rattle.gt_model.specs.declared.held.HeldPin.{HeldPin}
pub use Rattle.gt_model.specs.declared.request.OpenRequest.{OpenRequest}
pub use Rattle.gt_model.specs.declared.request.OpenRequest.TheVariants.{Load, Store}
pub use Rattle.gt_model.specs.declared.request.Request.{Request}
pub use Rattle.gt_core.specs.Acting.{answer_of}
pub use Rattle.gt_model.specs.History.{History, Setting, Underway, contents_at, entry_at, generation_at, known_at}
pub use Rattle.gt_model.specs.History.{mappings_at, maps_answered_at, open_call, seen_by, table_at, values}
pub use Rattle.gt_model.specs.Legal.{IsItemOf, IsRight}
pub use Rattle.gt_model.specs.declared.trace.Answer.{Answer}
pub use Rattle.gt_model.specs.declared.trace.Bytes.{Bytes}
pub use Rattle.gt_model.specs.declared.trace.Event.TheVariants.{Tick}
pub use Rattle.gt_model.specs.declared.trace.Item.{Item}
pub use Rattle.gt_handles.specs.Handles.{HandleMap}
pub use Rattle.gt_model.specs.declared.handle.Handle.{Handle}
pub use Rattle.gt_script_runs.specs.Playing.{setting_of_script}
pub use Rattle.gt_script_runs.specs.Printing.{answer_line}
pub use Rattle.gt_script_runs.specs.Rights.{may_by, may_in}
pub use Rattle.gt_script_runs.specs.Runs.{Named, MakesRequest, call_bytes, handle_labelled, label_given}
pub use Rattle.gt_script_lines.specs.declared.calls.ScriptCall.{ScriptCall}
pub use Rattle.gt_explore_replay.specs.Abreast.{CanComeNext, HaveAnswered, WereAnswered, history_in}
pub use Rattle.gt_explore_replay.specs.Courses.{Course, CourseLeads, back_after, calling, course_after, giving}
pub use Rattle.gt_explore_replay.specs.Courses.{resting}
pub use Rattle.gt_explore_replay.specs.Orders.{Happening, IsRaisedBefore, given_up, handles_without}
pub use Rattle.gt_script.specs.Contents.{type_names}
pub use Rattle.gt_script.specs.Lists.{RunAction, RunTask}
pub use Rattle.gt_script.specs.RunContents.{RunContents}
pub use Rattle.gt_script.specs.RunScripts.{list_of}
pub use Rattle.gt_script.specs.Stuck.{AreNumbered}
pub use Rattle.gt_script.specs.declared.tasks.RunAction.TheVariants.{Do}
pub use Rattle.gt_types.specs.Config.{IsWithinLimits}
pub use Rattle.gt_types.specs.declared.DomId.{DomId}
pub use Rattle.gt_types.specs.declared.config.DomainConfig.{DomainConfig}
pub use Rattle.gt_types.specs.declared.limits.TheConstants.{FRAME_SIZE}
pub use Rattle.gt_explore_search.specs.declared.spaces.TurnResult.{TurnResult}
pub use Rattle.gt_explore_search.specs.declared.spaces.TurnResult.TheVariants.{Answered, Nowhere, On}
pub use Rattle.gt_explore_state.specs.Likeness.{IsLikeReached}
pub use Rattle.gt_explore_state.specs.Shows.{IsSettingOf, PagesShow, TablesShow}
pub use Rattle.gt_explore_state.specs.declared.pages.SparsePage.{SparsePage}
pub use Rattle.gt_explore_state.specs.declared.table.SparseTable.{SparseTable}
