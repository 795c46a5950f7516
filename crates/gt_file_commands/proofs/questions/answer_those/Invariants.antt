use Rattle.std.proofs.Common.{drop, map, Some}
use Rattle.gt_file_commands.proofs.QuestionLemmas.{GoesOn}
use Rattle.gt_file_commands.proofs.questions.answer_those.Given as goal

abbrev pub invariant-lines : goal.invariant-lines
invariant-lines g l = GoesOn l.policy.each l.policy.file.now (Some l.policy.bytes.now) (map (λ s. s.now) l.lines) (map (λ s. s.now) (drop l.line-index l.lines)) (g.W.Write.contents l.initial.out) (g.W.Write.contents l.out) l.outcome
