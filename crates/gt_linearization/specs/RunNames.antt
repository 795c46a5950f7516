-- Names from other crates that the definitions of texts use.
pub use Rattle.atomic_table.specs.Table.{State}
pub use Rattle.gt_model.specs.declared.request.Request.{Request}
pub use Rattle.gt_core.specs.Acting.{answer_of}
pub use Rattle.gt_model.specs.declared.trace.Answer.{Answer}
pub use Rattle.gt_script_runs.specs.Runs.{MakesRequest, Named}
pub use Rattle.gt_script_lines.specs.declared.calls.ScriptCall.{ScriptCall}
pub use Rattle.gt_live.specs.Domains.{AllowRelation, HasLeft}
pub use Rattle.gt_live.specs.declared.domain.Domain.{Domain}
pub use Rattle.gt_live.specs.declared.domain.Departed.{Departed}
pub use Rattle.gt_live.specs.declared.monitor.Monitor.{Monitor}
pub use Rattle.gt_linearization.specs.Leaving.{AreReleases}
pub use Rattle.gt_linearization.specs.Ordering.{IsLegalOrder, RunOrder}
pub use Rattle.gt_linearization.specs.Runs.{CallMade, CallOutcome, DomainAct, FitsTypes, FlagMade, SeatRun}
pub use Rattle.gt_linearization.specs.Runs.DomainAct.{Call, Look, OnFlag}
pub use Rattle.gt_linearization.specs.Runs.CallOutcome.{MadeMapping, Read, NoMemory, Judged, Written}
pub use Rattle.gt_run.specs.Printing.{Served, WasServed, WritesAll}
pub use Rattle.gt_run.specs.Serving.{MakesCall, ListOutcome, ListProgress}
pub use Rattle.gt_run.specs.declared.lists.ThreadJob.{ThreadJob}
pub use Rattle.gt_script.specs.declared.tasks.RunAction.TheVariants.{Await, Do, Tell}
pub use Rattle.gt_script.specs.Lists.{RunAction, RunTask}
pub use Rattle.gt_types.specs.declared.config.Config.{Config}
pub use Rattle.gt_types.specs.declared.denial.Denial.{Denial}
pub use Rattle.gt_words.specs.Conditions.{Board}
pub use Rattle.gt_word_history.specs.History.{StepHistory}
pub use Rattle.gt_word_history.specs.Rule.{Shows, id_at}
pub use Rattle.gt_word_history.specs.Views.{IsAmong}
pub use Rattle.gt_word_history.specs.declared.view.FlagStep.{FlagStep}
pub use Rattle.gt_word_history.specs.declared.view.FlagStep.TheVariants.{Passed, Raised}
pub use Rattle.gt_word_history.specs.declared.view.View.{View}
pub use lib.ListN.{get_elem?}
pub use mathlib.Core.Option.{some}
