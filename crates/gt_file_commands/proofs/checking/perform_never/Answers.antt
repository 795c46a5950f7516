use Rattle.std.proofs.Common.{ℕ, List}
use Rattle.gt_check_command.specs.Breaking.{CheckedNever}
use Rattle.gt_file_commands.proofs.Worked.{answered_input}
use Rattle.gt_file_commands.proofs.checking.perform_never.Goals as goal

pub returns-in-Ok : goal.returns-in-Ok
returns-in-Ok g c =
    answered_input _ (λ (input : List ℕ). CheckedNever c.args.report.form c.args.never.file.now c.args.never.text.now c.args.report.file.now input (g.W.Write.contents c.args.out.now) (g.W.Write.contents c.check_never_explained.new.out)) _ _
    c.of_answer.ensures c.in-Ok.ensures
