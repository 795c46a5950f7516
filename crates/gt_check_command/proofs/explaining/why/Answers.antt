use Rattle.std.proofs.Common.{ℕ, List}
use Rattle.gt_text.specs.Laws.{of_input}
use Rattle.gt_check_command.specs.Explaining.{Explained}
use Rattle.gt_check_command.proofs.Advised.{explained_unread}
use Rattle.gt_check_command.proofs.explaining.why.Goals as goal

pub returns-in-Ok : goal.returns-in-Ok
returns-in-Ok g c =
    let explained = rw c.as_slice.ensures.value at c.explain_bytes.ensures in
    of_input _ c.in-Ok.input.items (λ (input : List ℕ). Explained _ _ input _ _ c.explain_bytes.result) c.in-Ok.ensures.limit c.in-Ok.ensures.text explained

pub returns-in-Err : goal.returns-in-Err
returns-in-Err g c = explained_unread c.args.file.now c.args.request.now _ _ c.in-Err.fault _ c.from.ensures
