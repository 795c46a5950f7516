-- Names of other crates, and of the code, that the definitions here use.
pub use Rattle.gt_policy_statements.specs.Why.{perm_asked, source_asked, target_asked}
pub use Rattle.gt_check_command.specs.declared.explaining.WhyRequest.{WhyRequest}
pub use Rattle.gt_findings.specs.declared.report.ReportForm.{ReportForm}
pub use Rattle.gt_check_command.specs.Explaining.{Explained}
pub use Rattle.gt_check_command.specs.Breaking.{CheckedNever}
pub use Rattle.gt_policy_reasons.specs.Faults.{breach_fault_text, why_fault_text}
pub use Rattle.gt_command_line.specs.Commands.{type_of}
pub use Rattle.gt_command_line.specs.declared.invocation.Format.{Format}
pub use Rattle.gt_entries.specs.Faults.{dump_fault_text}
pub use Rattle.gt_entries.specs.declared.asked.DumpOptions.{DumpOptions}
pub use Rattle.gt_explore_faults.specs.Faults.{claims_fault_text}
pub use Rattle.gt_file_commands.specs.declared.checking.CheckKind.{CheckKind}
pub use Rattle.gt_file_commands.specs.declared.commands.Work.{Work}
pub use Rattle.gt_file_commands.specs.declared.failure.Failure.{Failure}
pub use Rattle.gt_file_commands.specs.declared.outcome.Outcome.{Outcome}
pub use Rattle.gt_file_commands.specs.declared.outcome.Outcome.TheVariants.{No, Unknown, Yes}
pub use Rattle.gt_script_runs.specs.Faults.{play_fault_text}
pub use Rattle.gt_policy_list.specs.Faults.{listing_fault_text}
pub use Rattle.gt_script_lines.specs.Words.{words}
pub use Rattle.gt_text.specs.Streams.{AppendsBeginning}
pub use Rattle.gt_text.specs.Texts.{read_word}
pub use Rattle.std.specs.Io.KnownBytes.{Appends, Keeps}
pub use Rattle.std.specs.Option.{option_map}
