-- Names of other crates that the definitions of what goes out as JSON use.
pub use Rattle.gt_entries.specs.Dumps.{WroteDump}
pub use Rattle.gt_entries.specs.declared.asked.DumpOptions.{DumpOptions}
pub use Rattle.gt_entries.specs.declared.fault.DumpFault.{DumpFault}
pub use Rattle.gt_script_runs.specs.Playing.{Played}
pub use Rattle.gt_script_runs.specs.declared.fault.PlayFault.{PlayFault}
pub use Rattle.gt_json.specs.Lines.{json_text}
pub use Rattle.gt_json.specs.declared.places.PrintedText.{PrintedText}
pub use Rattle.gt_json.specs.declared.places.PrintedText.TheVariants.{Entries, Policy, Run}
pub use Rattle.gt_policy_list.specs.Writing.{Listed}
pub use Rattle.gt_policy_list.specs.declared.fault.ListingFault.{ListingFault}
pub use Rattle.gt_script.specs.Script.{ReadsAsScript}
pub use Rattle.gt_text.specs.Streams.{AppendsBeginning}
pub use Rattle.std.specs.Io.KnownBytes.{Appends, Keeps}
