-- The names of other crates, and of the code, that the definitions here use.
pub use Rattle.gt_script_lines.specs.Fields.{◌>>=◌}
pub use Rattle.gt_script_lines.specs.Lines.{line_of}
pub use Rattle.gt_script_lines.specs.Numbers.{number_below}
pub use Rattle.gt_script_lines.specs.Words.{words}
pub use Rattle.gt_script.specs.declared.actions.ScriptAction.{ScriptAction}
pub use Rattle.gt_script_lines.specs.declared.body.BodyLine.{BodyLine}
pub use Rattle.gt_script_lines.specs.declared.lines.DomainLine.{DomainLine}
pub use Rattle.gt_script_lines.specs.declared.lines.ScriptLine.{ScriptLine}
pub use Rattle.gt_script_lines.specs.declared.lines.TripleLine.{TripleLine}
pub use Rattle.gt_script_lines.specs.declared.numbers.Number.{Number}
pub use Rattle.gt_policy.specs.Allowing.{Allowed, type_named}
pub use Rattle.gt_script.specs.declared.command.ScriptCommand.{ScriptCommand}
pub use Rattle.gt_script.specs.declared.command.ScriptCommand.TheVariants.{Play, Run}
pub use Rattle.gt_script.specs.declared.faults.ScriptError.{ScriptError}
pub use Rattle.gt_script.specs.declared.faults.ScriptError.TheVariants.{Memory}
pub use Rattle.gt_script.specs.declared.faults.ScriptFault.{ScriptFault}
pub use Rattle.gt_script.specs.declared.faults.ScriptFaultKind.{ScriptFaultKind}
pub use Rattle.gt_script.specs.declared.faults.ScriptFaultKind.TheVariants.{Config, Limit, Mode, Syntax, Utf8}
pub use Rattle.gt_script.specs.Lists.{RunAction, RunTask}
pub use Rattle.gt_script.specs.declared.script.ScriptStep.{ScriptStep}
pub use Rattle.gt_text.specs.Texts.{line_after}
pub use Rattle.gt_types.specs.Config.{AreFaultless, domain_fault, is_taken}
pub use Rattle.gt_types.specs.declared.DomId.{DomId}
pub use Rattle.gt_types.specs.declared.TypeId.{TypeId}
pub use Rattle.gt_types.specs.declared.config.DomainConfig.{DomainConfig}
pub use Rattle.gt_types.specs.declared.limits.TheConstants.{LAST_GENERATION, LONGEST_TEXT}
pub use Rattle.gt_types.specs.declared.rights.Triple.{Triple}
pub use Rattle.std.specs.List.{enumerate_from, filter_map}
pub use Rattle.std.specs.Option.{is_some, option_map, option_to_list}
pub use Rattle.std.specs.Str.{IsUtf8}
pub use Rattle.std.specs.Str.Lossy.{utf8_valid_len}
