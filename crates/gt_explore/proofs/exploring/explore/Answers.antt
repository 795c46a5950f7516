use Rattle.std.proofs.Common.{ℕ, List}
use Rattle.gt_script.specs.RunScripts.{ReadsAsRun}
use Rattle.gt_text.specs.Laws.{of_input}
use Rattle.gt_explore.specs.Writing.{Explored}
use Rattle.gt_explore.proofs.Explored.{explored_unread}
use Rattle.gt_explore.proofs.exploring.explore.Goals as goal

pub returns-in-Ok-clause-text : goal.returns-in-Ok-clause-text
returns-in-Ok-clause-text g c =
    let explored = rw c.as_slice.ensures.value at c.explore_bytes.ensures in
    of_input _ c.in-Ok.input.items (λ (input : List ℕ). Explored c.args.asked.now (ReadsAsRun input) _ _ c.explore_bytes.result) c.in-Ok.ensures.limit c.in-Ok.ensures.text explored

pub returns-in-Err-clause-text : goal.returns-in-Err-clause-text
returns-in-Err-clause-text g c = explored_unread c.args.asked.now _ _ c.in-Err.error _ c.from.ensures
