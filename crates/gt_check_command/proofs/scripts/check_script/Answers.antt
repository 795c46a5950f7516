use Rattle.std.proofs.Common.{ℕ, List}
use Rattle.gt_text.specs.Laws.{of_input}
use Rattle.gt_check_command.specs.Scripts.{CheckedScript}
use Rattle.gt_check_command.proofs.Scripted.{unread_script}
use Rattle.gt_check_command.proofs.scripts.check_script.Goals as goal

pub returns-in-Ok : goal.returns-in-Ok
returns-in-Ok g c =
    let checked = rw c.as_slice.ensures.value at c.check_script_bytes.ensures in
    of_input _ c.in-Ok.input.items (λ (input : List ℕ). CheckedScript c.args.form c.args.file.now input _ _ c.check_script_bytes.result) c.in-Ok.ensures.limit c.in-Ok.ensures.text checked

pub returns-in-Err : goal.returns-in-Err
returns-in-Err g c = unread_script c.args.form c.args.file.now _ _ c.in-Err.fault _ c.from.ensures
