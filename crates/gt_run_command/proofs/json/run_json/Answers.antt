use Rattle.std.proofs.Common.{List, ℕ}
use Rattle.std.specs.Prelude.{is_some}
use Rattle.gt_script.specs.RunScripts.{ReadsAsRun}
use Rattle.gt_script_runs.specs.declared.fault.PlayFault.TheVariants as play_faults
use Rattle.gt_run.specs.declared.fault.RunFault.TheVariants as run_faults
use Rattle.gt_linearization.specs.Running.{RanInOrder}
use Rattle.gt_json.specs.declared.places.PrintedText.TheVariants.{Run}
use Rattle.gt_file_commands.proofs.JsonLemmas.{passed}
use Rattle.gt_run_command.proofs.json.run_json.Goals as goal

pub returns-clause-text : goal.returns-clause-text
returns-clause-text g c =
    passed _ Run (run_faults.Play play_faults.Memory) (run_faults.Play play_faults.Write) (λ (input : List ℕ). RanInOrder (g.G.Gate.refuses c.args.gate.now) (is_some c.args.log) (ReadsAsRun input)) c.new-text.result.items c.run-outcome.new.writer.items c.as_slice.result.now _ _ _ _
    c.new-text.ensures.items c.as_slice.ensures.value c.run-outcome.ensures.text c.pass_run.ensures
