use Rattle.std.proofs.Common.{ℕ, List}
use Rattle.gt_text.specs.Laws.{of_input}
use Rattle.gt_check_command.specs.Breaking.{CheckedNever}
use Rattle.gt_check_command.proofs.Broken.{never_unread}
use Rattle.gt_check_command.proofs.breaking.check_never.Goals as goal

pub returns-in-Ok : goal.returns-in-Ok
returns-in-Ok g c =
    let checked = rw c.as_slice.ensures.value at c.check_never_bytes.ensures in
    of_input _ c.in-Ok.input.items (λ (input : List ℕ). CheckedNever c.args.form c.args.never.file.now c.args.never.text.now c.args.file.now input _ _ c.check_never_bytes.result) c.in-Ok.ensures.limit
    c.in-Ok.ensures.text checked

pub returns-in-Err : goal.returns-in-Err
returns-in-Err g c = never_unread c.args.form c.args.never.file.now c.args.never.text.now c.args.file.now _ _ c.in-Err.fault _ c.from.ensures
