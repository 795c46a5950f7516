use Rattle.std.proofs.Common.{ap, sym, ◌∙◌, drop}
use Rattle.gt_policy_text.specs.Lexing.{lexemes, Between, Commenting}
use Rattle.gt_policy_text.proofs.LexingLemmas.{lexemes-goes_on}
use Rattle.gt_policy_text.proofs.lexer.after_comment.Goals as goal

pub returns-clause-same : goal.returns-clause-same
returns-clause-same c = λ end line.
    let text = c.args.text.now in
    lexemes-goes_on Commenting end line text
    ∙ ap (λ n. lexemes Between end line (drop n text)) (sym c.line_len.ensures.value)
    ∙ ap (λ rest. lexemes Between end line rest) (sym c.split_at.ensures.back)
