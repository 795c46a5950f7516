use Rattle.std.proofs.Common.{List, ℕ}
use Rattle.gt_script.specs.Script.{ReadsAsScript}
use Rattle.gt_script_runs.specs.Playing.{Played}
use Rattle.gt_script_runs.specs.declared.fault.PlayFault.TheVariants as play_faults
use Rattle.gt_json.specs.declared.places.PrintedText.TheVariants.{Run}
use Rattle.gt_file_commands.proofs.JsonLemmas.{passed}
use Rattle.gt_file_commands.proofs.json.play_json.Goals as goal

pub returns-clause-text : goal.returns-clause-text
returns-clause-text g c =
    passed _ Run play_faults.Memory play_faults.Write (λ (input : List ℕ). Played (ReadsAsScript input) c.args.audit) c.new-text.result.items c.play-outcome.new.writer.items c.as_slice.result.now _ _ _ _
    c.new-text.ensures.items c.as_slice.ensures.value c.play-outcome.ensures.text c.pass_play.ensures
