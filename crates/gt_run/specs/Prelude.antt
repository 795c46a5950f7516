-- Names of other crates, and of the code, that the definitions here use.
pub use Rattle.gt_audit.specs.Lines.{line_text}
pub use Rattle.gt_audit.specs.Trails.{TrailState, AppendsRecord}
pub use Rattle.gt_audit.specs.declared.record.Hypercall.{Hypercall}
pub use Rattle.gt_audit.specs.declared.record.Record.{Record}
pub use Rattle.gt_model.specs.Asking.{asked}
pub use Rattle.gt_model.specs.declared.action.Step.{Step}
pub use Rattle.gt_model.specs.declared.action.CallResult.{CallResult}
pub use Rattle.gt_model.specs.declared.held.HeldPin.{HeldPin}
pub use Rattle.gt_model.specs.declared.request.Request.{Request}
pub use Rattle.gt_model.specs.declared.trace.Answer.{Answer}
pub use Rattle.gt_frames.specs.Receipts.{Copying, Reading, Writing}
pub use Rattle.gt_model.specs.declared.handle.Handle.{Handle}
pub use Rattle.gt_script_runs.specs.Auditing.{hypercall_of_request, encoded_record}
pub use Rattle.gt_script_runs.specs.Naming.{AreNamed}
pub use Rattle.gt_script_runs.specs.Printing.{answer_line, call_text}
pub use Rattle.gt_script_runs.specs.Runs.{MakesRequest, Named, handle_given, label_given, with_name}
pub use Rattle.gt_script_runs.specs.declared.labels.Labels.{Labels}
pub use Rattle.gt_script_lines.specs.declared.calls.ScriptCall.{ScriptCall}
pub use Rattle.gt_live.specs.Accesses.{IsCopiedBy, IsReadBy, IsWrittenBy}
pub use Rattle.gt_live.specs.Domains.{AnswersWithAccess, AllowRelation, Answered, BelongsTo, HasLeft, KeepsPinned}
pub use Rattle.gt_live.specs.Domains.{MapAnswered}
pub use Rattle.gt_live.specs.Domains.{mapping_reply, subject_of, record_of_copy, record_of_result, verdict_of}
pub use Rattle.gt_live.specs.Domains.{verdict_of_frames, verdict_of_size, verdict_of_version}
pub use Rattle.gt_live.specs.Mappings.{Removes}
pub use Rattle.gt_live.specs.Starting.{IsNewDomain}
pub use Rattle.gt_live.specs.declared.domain.Departed.{Departed}
pub use Rattle.gt_live.specs.declared.domain.Domain.{Domain}
pub use Rattle.gt_live.specs.declared.monitor.Monitor.{Monitor}
pub use Rattle.gt_run.specs.declared.lists.ThreadJob.{ThreadJob}
pub use Rattle.gt_run.specs.declared.lists.DomainPart.{DomainPart}
pub use Rattle.gt_run.specs.declared.logging.TrailLogger.{TrailLogger}
pub use Rattle.gt_script.specs.Lists.{RunAction, RunTask}
pub use Rattle.gt_script.specs.declared.tasks.RunAction.TheVariants.{Await, Do, Tell}
pub use Rattle.gt_text.specs.Printing.{type_text}
pub use Rattle.gt_types.specs.declared.DomId.{DomId}
pub use Rattle.gt_types.specs.declared.Size.{Size}
pub use Rattle.gt_types.specs.declared.denial.Denial.{Denial}
pub use Rattle.gt_word_history.specs.declared.view.FlagStep.TheVariants.{Passed}
pub use Rattle.gt_words.specs.Conditions.{IsSameSeat}
pub use Rattle.std.specs.List.{AllZip, flat_map, sum_by}
