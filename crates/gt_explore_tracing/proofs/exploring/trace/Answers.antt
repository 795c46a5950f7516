use Rattle.std.proofs.Common.{ℕ, List}
use Rattle.gt_script.specs.RunScripts.{ReadsAsRun}
use Rattle.gt_text.specs.Laws.{of_input}
use Rattle.gt_explore_tracing.specs.Writing.{Traced}
use Rattle.gt_explore_tracing.proofs.Written.{traced_unread}
use Rattle.gt_explore_tracing.proofs.exploring.trace.Goals as goal

pub returns-in-Ok-clause-text : goal.returns-in-Ok-clause-text
returns-in-Ok-clause-text g c =
    let traced = rw c.as_slice.ensures.value at c.trace_bytes.ensures in
    of_input _ c.in-Ok.input.items (λ (input : List ℕ). Traced c.args.asked.now (ReadsAsRun input) _ _ c.trace_bytes.result) c.in-Ok.ensures.limit c.in-Ok.ensures.text traced

pub returns-in-Err-clause-text : goal.returns-in-Err-clause-text
returns-in-Err-clause-text g c = traced_unread c.args.asked.now _ _ c.in-Err.error _ c.from.ensures
