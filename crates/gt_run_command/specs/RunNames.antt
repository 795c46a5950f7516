-- Names of other crates that the definitions of the output of `run` use.
pub use Rattle.gt_command_line.specs.declared.invocation.Format.{Format}
pub use Rattle.gt_command_line.specs.declared.invocation.Format.TheVariants.{Text, Json}
pub use Rattle.gt_file_commands.specs.Working.{Doing}
pub use Rattle.gt_file_commands.specs.declared.outcome.Outcome.TheVariants.{Yes}
pub use Rattle.gt_json.specs.declared.places.PrintedText.TheVariants.{Run}
pub use Rattle.gt_file_commands.specs.AsJson.{AsJson, Promise}
pub use Rattle.gt_linearization.specs.Running.{RanInOrder}
pub use Rattle.gt_run.specs.Runs.{Ran}
pub use Rattle.gt_run.specs.declared.fault.RunFault.{RunFault}
pub use Rattle.gt_script.specs.RunScripts.{ReadsAsRun}
pub use Rattle.gt_text.specs.Streams.{AppendsBeginning}
pub use Rattle.std.specs.Io.KnownBytes.{Appends, Keeps}
