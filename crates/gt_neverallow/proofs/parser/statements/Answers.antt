use Rattle.std.proofs.lemmas.Result.{err_from_is_err_and}
use Rattle.gt_neverallow.proofs.ReadingLemmas.{goes_more, to_end, to_err}
use Rattle.gt_neverallow.proofs.parser.statements.Goals as goal

pub returns-in_err-one : goal.returns-in_err-one
returns-in_err-one c =
    let p = err_from_is_err_and c.from_residual.result c.from_residual.ensures.1 in
    rw (p.1, p.2) (to_err _ c.text.read c.args.lexer.now c.text.lexer c.next_statement.new.lexer c.text.invariant c.in_err-one.ensures.value)

pub text-preserved : goal.text-preserved
text-preserved c =
    let taken = rw c.in-Some.is at c.in_ok-one.ensures.value in
    goes_more c.text.read c.push.new.self c.in-Some.one c.args.lexer.now c.text.lexer c.next_statement.new.lexer c.text.invariant taken c.in_ok-push.ensures

pub returns : goal.returns
returns c =
    let over = rw c.in_default.is at c.in_ok-one.ensures.value in
    to_end c.text.read c.args.lexer.now c.text.lexer c.text.invariant over
