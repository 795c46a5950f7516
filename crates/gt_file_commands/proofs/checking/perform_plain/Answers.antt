use Rattle.std.proofs.Common.{ℕ, List}
use Rattle.gt_file_commands.specs.Formats.{CheckedAs}
use Rattle.gt_file_commands.proofs.Worked.{answered_input}
use Rattle.gt_file_commands.proofs.checking.perform_plain.Goals as goal

pub returns-in-Ok : goal.returns-in-Ok
returns-in-Ok g c =
    answered_input _ (λ (input : List ℕ). CheckedAs c.args.script c.args.report.form c.args.report.file.now input (g.W.Write.contents c.args.out.now) (g.W.Write.contents c.check_explained.new.out)) _ _
    c.of_answer.ensures c.in-Ok.ensures
