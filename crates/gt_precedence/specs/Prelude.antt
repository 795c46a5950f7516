-- Names of other crates that the definitions and the proofs here use.
pub use Rattle.gt_types.specs.Names.{domain_of}
pub use Rattle.gt_types.specs.declared.DomId.{DomId}
pub use Rattle.gt_types.specs.declared.config.DomainConfig.{DomainConfig}
pub use Rattle.gt_model.specs.Legal.{Legal}
pub use Rattle.gt_model.specs.declared.handle.Handle.{Handle}
pub use Rattle.gt_model.specs.declared.request.Request.{Request}
pub use Rattle.gt_model.specs.declared.request.Request.TheVariants.{Release}
pub use Rattle.gt_model.specs.declared.trace.Answer.{Answer}
pub use Rattle.gt_model.specs.declared.trace.Element.{Element}
pub use Rattle.gt_model.specs.declared.trace.Event.{Event}
pub use Rattle.gt_model.specs.declared.trace.Event.TheVariants.{Begin, Tick}
pub use Rattle.gt_script.specs.Contents.{type_names}
pub use Rattle.gt_script.specs.Lists.{RunAction, RunTask}
pub use Rattle.gt_script.specs.Preceding.{is_call, beside_call, around, with_precedence, preceding, preceding_all}
pub use Rattle.gt_script.specs.RunContents.{RunContents, RunKept, run_contents}
pub use Rattle.gt_script.specs.RunScripts.{ReadsAsRun, list_of}
pub use Rattle.gt_script.specs.Stuck.{AreNumbered, IsBelow}
pub use Rattle.gt_script.specs.declared.precedence.Precedence.{Precedence}
pub use Rattle.gt_script.specs.declared.tasks.RunAction.TheVariants.{Await, Do, Tell}
pub use Rattle.gt_script_runs.specs.Playing.{setting_of_script}
pub use Rattle.gt_script_runs.specs.Printing.{answer_line}
pub use Rattle.gt_script_lines.specs.declared.calls.ScriptCall.{ScriptCall}
pub use Rattle.gt_script_runs.specs.Runs.{AnswerNothing, EndsWith, MakesRequest, Named, answer_in, handle_given}
pub use Rattle.gt_script_runs.specs.Runs.{label_given, with_name}
pub use Rattle.gt_explore_replay.specs.Orders.{Happening, did, raised, passed, doer, own_happenings, events_in}
pub use Rattle.gt_explore_replay.specs.Orders.{trace_in, IsRaisedBefore, FlagsAreRaised, ticks_of, CallHappens}
pub use Rattle.gt_explore_replay.specs.Orders.{GivesMappingsBack, ActionHappens, AllFollow, FollowsList, IsOrderOf, MayGive, Prints}
pub use Rattle.gt_explore_replay.specs.Orders.{given_up, held_after}
