-- The names of other crates, and of the code, that the definitions here use.
pub use Rattle.gt_audit.specs.Lines.{line_text, reply_text}
pub use Rattle.gt_audit.specs.declared.record.Hypercall.{Hypercall}
pub use Rattle.gt_audit.specs.declared.record.Record.{Record}
pub use Rattle.gt_audit.specs.declared.record.Reply.{Reply}
pub use Rattle.gt_model.specs.Asking.{asked}
pub use Rattle.gt_model.specs.declared.request.OpenRequest.{OpenRequest}
pub use Rattle.gt_model.specs.declared.request.Request.{Request}
pub use Rattle.gt_model.specs.History.{setting_of, History, Setting, Underway, open_call}
pub use Rattle.gt_model.specs.Legal.{Legal, grown, history_after}
pub use Rattle.gt_core.specs.Shown.{shown_at}
pub use Rattle.gt_core.specs.Standing.{CoreModel, CoreStands}
pub use Rattle.gt_core.specs.Subject.{subject_at}
pub use Rattle.gt_model.specs.declared.trace.Answer.{Answer}
pub use Rattle.gt_model.specs.declared.trace.Answer.TheVariants.{Mapped}
pub use Rattle.gt_model.specs.declared.trace.Element.{Element}
pub use Rattle.gt_model.specs.declared.trace.Event.{Event}
pub use Rattle.gt_model.specs.declared.trace.Event.TheVariants.{Begin, Tick}
pub use Rattle.gt_model.specs.declared.trace.ItemEvent.{ItemEvent}
pub use Rattle.gt_model.specs.declared.trace.ItemEvent.TheVariants.{Began, Stepped}
pub use Rattle.gt_model.specs.declared.trace.Item.{Item}
pub use Rattle.gt_model.specs.declared.handle.Handle.{Handle}
pub use Rattle.gt_script_runs.specs.declared.fault.PlayFault.{PlayFault}
pub use Rattle.gt_script_runs.specs.declared.fault.PlayFault.TheVariants.{Memory, Policy, Read, Script, Write}
pub use Rattle.gt_script_runs.specs.declared.rights.ScriptPolicy.{ScriptPolicy}
pub use Rattle.gt_script_lines.specs.Hexadecimal.{hex_bytes}
pub use Rattle.gt_script.specs.declared.actions.ScriptAction.{ScriptAction}
pub use Rattle.gt_script_lines.specs.declared.calls.ScriptCall.{ScriptCall}
pub use Rattle.gt_script.specs.Blocks.{block_fault_shown}
pub use Rattle.gt_script.specs.Contents.{Contents, first_gen, type_names}
pub use Rattle.gt_script.specs.Script.{Wrong, in_policy, in_script}
pub use Rattle.gt_script.specs.declared.script.ScriptStep.{ScriptStep}
pub use Rattle.gt_text.specs.Streams.{AppendsBeginning}
pub use Rattle.gt_text.specs.Printing.{type_text}
pub use Rattle.gt_types.specs.Config.{AreFaultless, is_taken}
pub use Rattle.gt_types.specs.declared.DomId.{DomId}
pub use Rattle.gt_types.specs.declared.GrantRef.{GrantRef}
pub use Rattle.gt_types.specs.declared.config.DomainConfig.{DomainConfig}
pub use Rattle.gt_types.specs.declared.limits.TheConstants.{LAST_GENERATION}
pub use Rattle.std.specs.Borrow.{Bor}
pub use Rattle.std.specs.Io.KnownBytes.{Appends, Keeps}
pub use Rattle.std.specs.Str.{bytes_eq}
