use Rattle.std.proofs.Common.{inr, Some}
use Rattle.gt_text.specs.Laws.{keeps_same}
use Rattle.gt_file_commands.proofs.QuestionLemmas.{asks_same}
use Rattle.gt_file_commands.proofs.questions.ask_words.Goals as goal

pub returns-in-Some : goal.returns-in-Some
returns-in-Some g c = asks_same c.args.policy.each c.args.policy.file.now (Some c.args.policy.bytes.now) _ _ _ _ _ _ _ _ _ c.in-Some.ensures.source c.in-Some.ensures.target c.in-Some.ensures.perm c.ask.ensures

pub returns-in-None : goal.returns-in-None
returns-in-None g c = inr (c.fail.ensures, keeps_same _)
