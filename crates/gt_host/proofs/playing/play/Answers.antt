use Rattle.std.proofs.Common.{ℕ, List}
use Rattle.gt_script.specs.Script.{ReadsAsScript}
use Rattle.gt_text.specs.Laws.{of_input}
use Rattle.gt_script_runs.specs.Playing.{Played}
use Rattle.gt_host.proofs.PlayedLemmas.{played_unread}
use Rattle.gt_host.proofs.playing.play.Goals as goal

pub returns-in-Ok-clause-text : goal.returns-in-Ok-clause-text
returns-in-Ok-clause-text g c =
    let played = rw c.as_slice.ensures.value at c.play_bytes.ensures in
    of_input _ c.in-Ok.input.items (λ (input : List ℕ). Played (ReadsAsScript input) c.args.audit _ _ c.play_bytes.result) c.in-Ok.ensures.limit c.in-Ok.ensures.text played

pub returns-in-Err-clause-text : goal.returns-in-Err-clause-text
returns-in-Err-clause-text g c = played_unread c.args.audit _ _ c.in-Err.error _ c.from.ensures
