-- Names of other crates that the definitions here use.
pub use Rattle.clap.specs.declared.error.kind.ErrorKind.{ErrorKind}
pub use Rattle.clap.specs.declared.error.kind.ErrorKind.TheVariants.{DisplayHelp, DisplayVersion, OutOfMemory}
pub use Rattle.gt_command_line.specs.Commands.{Request, for_help, for_version, nothing, to_check, to_explain}
pub use Rattle.gt_command_line.specs.Commands.{to_explore}
pub use Rattle.gt_command_line.specs.Commands.{to_check_never, to_explain_lines, to_find_text}
pub use Rattle.gt_command_line.specs.Commands.{mode_of, to_list, to_play, to_run, to_show_flow, to_tell_entries}
pub use Rattle.gt_command_line.specs.Commands.{to_tell_rules}
pub use Rattle.gt_command_line.specs.Commands.{Sought, all_texts, a_claim, one_diagram, one_script, one_trace}
pub use Rattle.gt_command_line.specs.Commands.{all_scripts}
pub use Rattle.gt_command_line.specs.Commands.{a_difference, a_state_claim, a_summary, all_races, one_race}
pub use Rattle.gt_command_line.specs.Commands.{several_claims}
pub use Rattle.gt_command_line.specs.declared.invocation.Mode.{Mode}
pub use Rattle.gt_command_line.specs.declared.invocation.Format.{Format}
pub use Rattle.gt_explore_claims.specs.Exploring.{ClaimsExplored, NamedExplored}
pub use Rattle.gt_explore_faults.specs.declared.claims.ClaimsFault.{ClaimsFault}
pub use Rattle.gt_program.specs.declared.exploring.SearchAsked.{SearchAsked}
pub use Rattle.gt_program.specs.declared.exploring.SearchAsked.TheVariants.{Moment, Moves, One, Races, Several, Together}
pub use Rattle.gt_script.specs.RunScripts.{ReadsAsRun}
pub use Rattle.gt_explore_summary.specs.Written.{Summarized}
pub use Rattle.gt_explore_summary.specs.declared.asking.SummaryOptions.{SummaryOptions}
pub use Rattle.gt_explore_summary.specs.declared.asking.SummaryRequest.{SummaryRequest}
pub use Rattle.gt_explore_summary.specs.declared.asking.SummaryRequest.TheVariants.{Answers, Difference}
pub use Rattle.gt_explore_racing.specs.Exploring.{RacesExplored}
pub use Rattle.gt_explore_racing.specs.declared.asking.RaceOptions.{RaceOptions}
pub use Rattle.gt_explore_racing.specs.declared.asking.RaceRequest.{RaceRequest}
pub use Rattle.gt_explore_tracing.specs.Writing.{Traced}
pub use Rattle.gt_explore_tracing.specs.declared.asking.TraceOptions.{TraceOptions}
pub use Rattle.gt_explore_tracing.specs.declared.asking.TraceRequest.{TraceRequest}
pub use Rattle.gt_explore_tracing.specs.declared.asking.TraceRequest.TheVariants.{Diagram, Trace}
pub use Rattle.gt_explore_answers.specs.declared.asking.ExploreFormat.{ExploreFormat}
pub use Rattle.gt_explore_answers.specs.declared.asking.ExploreOptions.{ExploreOptions}
pub use Rattle.gt_explore_answers.specs.declared.asking.ExploreRequest.{ExploreRequest}
pub use Rattle.gt_explore_verdict.specs.declared.judging.Verdict.{Verdict}
pub use Rattle.gt_explore_verdict.specs.declared.judging.Verdict.TheVariants.{Holds, Fails, Undecided}
pub use Rattle.gt_file_commands.specs.declared.outcome.Outcome.{Outcome}
pub use Rattle.gt_file_commands.specs.declared.outcome.Outcome.TheVariants.{No, Unknown, Yes}
pub use Rattle.std.specs.Io.KnownBytes.{Keeps}
