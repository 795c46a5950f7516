use Rattle.std.proofs.Common.{ap, ◌∙◌, arith}
use Rattle.std.proofs.lemmas.Result.{err_from_is_err_and}
use Rattle.gt_policy.specs.Grammar.{Lexemes}
use Rattle.gt_neverallow.specs.Reading.{as_choice, types_of}
use Rattle.gt_neverallow.specs.declared.statement.TypeChoice.TheVariants.{Of}
use Rattle.gt_neverallow.proofs.ReadingLemmas.{reads_err, types_from}
use Rattle.gt_neverallow.proofs.parser.types.Goals as goal

pub returns-in_err-set_from-in_default : goal.returns-in_err-set_from-in_default
returns-in_err-set_from-in_default c =
    let p = err_from_is_err_and c.from_residual-in_err-set_from-in_default.result c.from_residual-in_err-set_from-in_default.ensures.1 in
    let same = ap (λ (ls : Lexemes). types_of c.args.is_target ls) c.next-token.ensures.front ∙ types_from c.args.is_target c.next-token.result c.next-token.new.self c.in_default.not-Tilde c.in_default.not-Star in
    rw (p.1, p.2) (record {
      value = reads_err _ c.set_from.new.lexer c.set_from.new.lexer _ _ c.in_err-set_from-in_default.ensures.value (λ f e. same ∙ ap (as_choice Of) e);
      shorter = omega arith;
    })

pub returns-in_ok-set_from-in_default : goal.returns-in_ok-set_from-in_default
returns-in_ok-set_from-in_default c =
    let same = ap (λ (ls : Lexemes). types_of c.args.is_target ls) c.next-token.ensures.front ∙ types_from c.args.is_target c.next-token.result c.next-token.new.self c.in_default.not-Tilde c.in_default.not-Star in
    record {
      value = same ∙ ap (as_choice Of) c.in_ok-set_from-in_default.ensures.value;
      shorter = omega arith;
    }
