use Rattle.std.proofs.Common.{ℕ, List}
use Rattle.std.specs.Prelude.{is_some}
use Rattle.gt_command_line.specs.declared.invocation.Format.{Format}
use Rattle.gt_run_command.specs.Runs.{RanAs}
use Rattle.gt_file_commands.proofs.FormatLemmas.{in_format}
use Rattle.gt_run_command.proofs.formats.run_as.Goals as goal

pub returns-in-Text : goal.returns-in-Text
returns-in-Text g c = in_format (λ (f : Format) (input : List ℕ). RanAs (g.G.Gate.refuses c.args.settings.now.gate.now) f (is_some c.args.settings.now.log) input) _ _ _ _ _ _ c.in-Text.is c.run.ensures.text

pub returns-in-Json : goal.returns-in-Json
returns-in-Json g c = in_format (λ (f : Format) (input : List ℕ). RanAs (g.G.Gate.refuses c.args.settings.now.gate.now) f (is_some c.args.settings.now.log) input) _ _ _ _ _ _ c.in-Json.is c.run_json.ensures.text
