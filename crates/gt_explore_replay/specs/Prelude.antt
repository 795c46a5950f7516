-- Names of other crates, and of the code, that the definitions here use.
pub use Rattle.gt_model.specs.declared.action.Observation.{Observation}
pub use Rattle.gt_model.specs.declared.action.Step.{Step}
pub use Rattle.gt_model.specs.declared.request.Request.{Request}
pub use Rattle.gt_model.specs.declared.request.Request.TheVariants.{Release, Unmap}
pub use Rattle.gt_core.specs.Acting.{begun_element, ticked_element}
pub use Rattle.gt_core.specs.Alike.{bare_handle, AreAlike, IsGiven}
pub use Rattle.gt_model.specs.History.{History, Setting, open_call}
pub use Rattle.gt_model.specs.Legal.{Legal, MayDo, actor_of, grown, history_after}
pub use Rattle.gt_core.specs.Standing.{CoreStands, DoesEvent, setting_in}
pub use Rattle.gt_core.specs.States.{CoreState}
pub use Rattle.gt_core.specs.declared.core_state.Begun.{Begun}
pub use Rattle.gt_core.specs.declared.core_state.Ticked.{Ticked}
pub use Rattle.gt_model.specs.declared.trace.Answer.{Answer}
pub use Rattle.gt_model.specs.declared.trace.Answer.TheVariants.{Done, Mapped}
pub use Rattle.gt_model.specs.declared.trace.Element.{Element}
pub use Rattle.gt_model.specs.declared.trace.Event.{Event}
pub use Rattle.gt_model.specs.declared.trace.Event.TheVariants.{Begin, Tick}
pub use Rattle.gt_model.specs.declared.handle.Handle.{Handle}
pub use Rattle.gt_script_runs.specs.Naming.{AreNamed}
pub use Rattle.gt_script_runs.specs.Playing.{setting_of_script}
pub use Rattle.gt_script_runs.specs.Printing.{answer_line}
pub use Rattle.gt_script_runs.specs.Rights.{may_by}
pub use Rattle.gt_script_runs.specs.Runs.{MakesRequest, EndsWith, Named, answer_in, handle_given, label_given}
pub use Rattle.gt_script_runs.specs.Runs.{with_name}
pub use Rattle.gt_script_lines.specs.declared.calls.ScriptCall.{ScriptCall}
pub use Rattle.gt_explore_replay.specs.declared.replay.Moved.{Moved}
pub use Rattle.gt_explore_replay.specs.declared.replay.Replay.{Replay}
pub use Rattle.gt_explore_replay.specs.declared.walker.OpenTask.{OpenTask}
pub use Rattle.gt_explore_replay.specs.declared.walker.OpenTask.TheVariants.{GivesBack, Line, Nothing}
pub use Rattle.gt_explore_replay.specs.declared.walker.Walker.{Walker}
pub use Rattle.gt_script.specs.Contents.{type_names}
pub use Rattle.gt_script.specs.RunContents.{RunContents}
pub use Rattle.gt_script.specs.RunScripts.{list_of}
pub use Rattle.gt_script.specs.Lists.{RunAction, RunTask}
pub use Rattle.gt_script.specs.Stuck.{AreNumbered, IsBelow}
pub use Rattle.gt_script.specs.declared.tasks.RunAction.TheVariants.{Await, Do, Tell}
pub use Rattle.gt_types.specs.Names.{domain_of}
pub use Rattle.gt_types.specs.declared.DomId.{DomId}
pub use Rattle.gt_types.specs.declared.config.DomainConfig.{DomainConfig}
