use Rattle.std.proofs.Common.{sym, ◌∙◌, subst}
use Rattle.std.proofs.lemmas.Result.{err_from_is_err_and}
use Rattle.gt_policy.specs.declared.lined.LinedStatement.{LinedStatement}
use Rattle.gt_policy.specs.Grammar.{Lexemes}
use Rattle.gt_policy.specs.Lined.{statements_in}
use Rattle.gt_policy.proofs.LinedLemmas.{Goes, Continues, goes_more, continues_more, heeds_lined_err, lined_ok}
use Rattle.gt_policy.proofs.lined.lined.Goals as goal

pub returns-in_err-statement : goal.returns-in_err-statement
returns-in_err-statement c =
    let p = err_from_is_err_and c.from_residual.result c.from_residual.ensures.1 in
    rw (p.1, p.2) (heeds_lined_err _ c.args.seen.now c.text.seen c.statement.new.seen c.statement.new.seen (statements_in c.text.read) c.args.parser.now c.text.parser c.statement.new.self c.text.invariant.goes c.in_err-statement.ensures.value)

pub text-preserved : goal.text-preserved
text-preserved c =
    let x : LinedStatement = record { line = c.text.line; statement = c.in-Some.statement } in
    let taken = rw c.in-Some.is at c.in_ok-statement.ensures.value in
    let same = c.line-line-in-Some.ensures.same in record {
      goes = subst (λ (l : Lexemes). Goes c.statement.new.seen (statements_in c.push.new.self) l c.args.seen.now c.args.parser.now) (sym same)
          (goes_more c.text.read c.push.new.self x c.args.seen.now c.text.seen c.statement.new.seen c.text.parser c.statement.new.self c.args.parser.now taken c.in_ok-push.ensures c.text.invariant.goes);
      continues = subst (λ (l : Lexemes). Continues c.push.new.self l c.args.parser.now) (sym same)
          (continues_more c.text.read c.push.new.self x c.text.seen c.statement.new.seen c.text.parser c.statement.new.self c.args.parser.now c.text.invariant.on taken c.in_ok-push.ensures c.text.invariant.continues);
      on = λ t n after e goes_on. c.line-line-in-Some.ensures.line t n after (sym same ∙ e) goes_on;
    }

pub returns : goal.returns
returns c =
    let over = rw c.in_default.is at c.in_ok-statement.ensures.value in
    lined_ok c.text.read c.args.seen.now c.text.seen c.statement.new.seen c.args.parser.now c.text.parser c.statement.new.self c.text.invariant.goes c.text.invariant.continues over
