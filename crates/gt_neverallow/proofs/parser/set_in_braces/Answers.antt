use Rattle.std.proofs.Common.{◌≡◌, ◌==◌, length, true, sym, ◌∙◌, arith}
use Rattle.std.specs.Prelude.{not}
use Rattle.std.proofs.lemmas.Result.{err_from_is_err_and}
use Rattle.gt_policy_text.specs.declared.lexer.Token.TheVariants.{Minus}
use Rattle.gt_neverallow.proofs.ReadingLemmas.{reads_err}
use Rattle.gt_policy.proofs.GrammarLemmas.{front_is, minus_more, minus_fault, nonempty_push}
use Rattle.gt_neverallow.proofs.parser.set_in_braces.Goals as goal

pub returns-in_err-type_name-in-Minus : goal.returns-in_err-type_name-in-Minus
returns-in_err-type_name-in-Minus c =
    let p = err_from_is_err_and c.from_residual-in_err-type_name-in-Minus.result c.from_residual-in_err-type_name-in-Minus.ensures.1 in
    let front = front_is c.loop-items.lexer c.next-token.new.self c.next-token.result Minus c.next-token.ensures.front c.in-Minus.is in
    rw (p.1, p.2) (record {
      value = reads_err _ c.type_name.new.lexer c.type_name.new.lexer _ _ c.in_err-type_name-in-Minus.ensures.value
          (λ f e. sym c.loop-items.invariant.0 ∙ minus_fault c.args.is_target _ c.next-token.result.1 c.loop-items.lexer c.next-token.new.self c.loop-items.items f front e);
      shorter = omega arith;
    })

pub loop-items-preserved-in_ok-push-in-Minus : goal.loop-items-preserved-in_ok-push-in-Minus
loop-items-preserved-in_ok-push-in-Minus c =
    let front = front_is c.loop-items.lexer c.next-token.new.self c.next-token.result Minus c.next-token.ensures.front c.in-Minus.is in
    let nonempty : not (length c.push-in-Minus.new.self == 0) ≡ true = nonempty_push _ _ _ c.in_ok-push-in-Minus.ensures in
    (rw nonempty (minus_more c.args.is_target _ c.next-token.result.1 c.loop-items.lexer c.next-token.new.self c.type_name.new.lexer c.loop-items.items c.push-in-Minus.new.self _ front c.in_ok-type_name-in-Minus.ensures.value c.in_ok-push-in-Minus.ensures ∙ c.loop-items.invariant.0), omega arith)
