use Rattle.std.proofs.Common.{ℕ, List}
use Rattle.gt_command_line.specs.declared.invocation.Format.{Format}
use Rattle.gt_file_commands.specs.Formats.{WroteDumpAs}
use Rattle.gt_file_commands.proofs.FormatLemmas.{in_format}
use Rattle.gt_file_commands.proofs.formats.entries_as.Goals as goal

pub returns-in-Text : goal.returns-in-Text
returns-in-Text g c = in_format (λ (f : Format) (input : List ℕ). WroteDumpAs f c.args.asked input) _ _ _ _ _ _ c.in-Text.is c.entries.ensures.text

pub returns-in-Json : goal.returns-in-Json
returns-in-Json g c = in_format (λ (f : Format) (input : List ℕ). WroteDumpAs f c.args.asked input) _ _ _ _ _ _ c.in-Json.is c.entries_json.ensures.text
