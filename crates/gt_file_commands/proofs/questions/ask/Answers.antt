use Rattle.std.proofs.Common.{inl, inr}
use Rattle.gt_file_commands.proofs.questions.ask.Goals as goal

pub returns-in-Ok : goal.returns-in-Ok
returns-in-Ok g c = inl (g.W.Write.contents c.write_heading.new.out, c.in-Ok.ensures.whole, c.answer_asked.ensures)

pub returns-in-Err : goal.returns-in-Err
returns-in-Err g c = inr (c.in-Err.ensures.beginning, c.fail.ensures)
