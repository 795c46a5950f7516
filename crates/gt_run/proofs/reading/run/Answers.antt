use Rattle.std.proofs.Common.{ℕ, List}
use Rattle.std.specs.Prelude.{is_some}
use Rattle.gt_script.specs.RunScripts.{ReadsAsRun}
use Rattle.gt_text.specs.Laws.{of_input}
use Rattle.gt_run.specs.Runs.{Ran}
use Rattle.gt_run.proofs.RanLemmas.{ran_unread}
use Rattle.gt_run.proofs.reading.run.Goals as goal

pub returns-in-Ok-clause-text : goal.returns-in-Ok-clause-text
returns-in-Ok-clause-text g c =
    let ran = rw c.as_slice.ensures.value at c.run_bytes.ensures in
    of_input _ c.in-Ok.input.items (λ (input : List ℕ). Ran (g.G.Gate.refuses c.args.gate.now) (is_some c.args.log) (ReadsAsRun input) _ _ c.run_bytes.result) c.in-Ok.ensures.limit c.in-Ok.ensures.text ran

pub returns-in-Err-clause-text : goal.returns-in-Err-clause-text
returns-in-Err-clause-text g c = ran_unread (g.G.Gate.refuses c.args.gate.now) _ _ _ c.in-Err.error _ c.from.ensures
