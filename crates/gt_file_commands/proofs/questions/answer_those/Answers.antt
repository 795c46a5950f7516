use Rattle.std.proofs.Common.{◌+◌, drop, map, Some}
use Rattle.std.proofs.lemmas.List.{at_drop_all, at_drop_more}
use Rattle.gt_file_commands.proofs.QuestionLemmas.{goes_last, goes_next}
use Rattle.gt_file_commands.proofs.questions.answer_those.Goals as goal

pub lines-preserved : goal.lines-preserved
lines-preserved g c =
    goes_next c.args.policy.each c.args.policy.file.now (Some c.args.policy.bytes.now) (map (λ s. s.now) c.args.lines.now) (map (λ s. s.now) (drop c.lines.line-index c.args.lines.now)) (map (λ s. s.now) (drop (c.lines.line-index + 1) c.args.lines.now)) _ (g.W.Write.contents c.args.out.now) (g.W.Write.contents c.lines.out) (g.W.Write.contents c.answer_line-one.new.out) c.lines.outcome c.answer_line-one.result c.worse-outcome.result c.lines.invariant
    (at_drop_more (map (λ s. s.now)) c.args.lines.now c.lines.line-index _ c.lines-test.true) c.answer_line-one.ensures c.worse-outcome.ensures

pub returns : goal.returns
returns g c =
    goes_last c.args.policy.each c.args.policy.file.now (Some c.args.policy.bytes.now) (map (λ s. s.now) c.args.lines.now) (map (λ s. s.now) (drop c.lines.line-index c.args.lines.now)) (g.W.Write.contents c.args.out.now) (g.W.Write.contents c.lines.out) c.lines.outcome c.lines.invariant
    (at_drop_all (map (λ s. s.now)) c.args.lines.now c.lines.line-index c.lines-test.false)
