use Rattle.std.proofs.Common.{ℕ, List}
use Rattle.gt_text.specs.Laws.{of_input}
use Rattle.gt_check_command.specs.Checking.{Checked}
use Rattle.gt_check_command.proofs.Advised.{checked_unread}
use Rattle.gt_check_command.proofs.checking.check.Goals as goal

pub returns-in-Ok : goal.returns-in-Ok
returns-in-Ok g c =
    let checked = rw c.as_slice.ensures.value at c.check_bytes.ensures in
    of_input _ c.in-Ok.input.items (λ (input : List ℕ). Checked c.args.form c.args.file.now input _ _ c.check_bytes.result) c.in-Ok.ensures.limit c.in-Ok.ensures.text checked

pub returns-in-Err : goal.returns-in-Err
returns-in-Err g c = checked_unread c.args.form c.args.file.now _ _ c.in-Err.fault _ c.from.ensures
