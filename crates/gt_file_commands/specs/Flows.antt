-- The form of an answer about flows.
use Rattle.gt_command_line.specs.declared.invocation.Format.{Format}
use Rattle.gt_command_line.specs.declared.invocation.Format.TheVariants as formats
use Rattle.gt_policy_questions.specs.declared.flows.format.FlowFormat.{FlowFormat}
use Rattle.gt_policy_questions.specs.declared.flows.format.FlowFormat.TheVariants as flow_formats

-- the form of an answer for the format of a command line
abbrev pub flow_format : Format → FlowFormat
flow_format formats.Text = flow_formats.Text
flow_format formats.Json = flow_formats.Json
