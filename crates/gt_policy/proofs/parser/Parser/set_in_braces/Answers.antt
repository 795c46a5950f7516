use Rattle.std.proofs.Common.{◌≡◌, ◌==◌, length, true, sym, ◌∙◌, arith}
use Rattle.std.specs.Prelude.{not}
use Rattle.std.proofs.lemmas.Result.{err_from_is_err_and}
use Rattle.gt_policy_text.specs.declared.lexer.Token.TheVariants.{Minus}
use Rattle.gt_policy.proofs.GrammarLemmas.{fills_err, front_is, minus_more, minus_fault, nonempty_push}
use Rattle.gt_policy.proofs.parser.Parser.set_in_braces.Goals as goal

pub returns-in_err-type_name-in-Minus : goal.returns-in_err-type_name-in-Minus
returns-in_err-type_name-in-Minus c =
    let p = err_from_is_err_and c.from_residual-in_err-type_name-in-Minus.result c.from_residual-in_err-type_name-in-Minus.ensures.1 in
    let front = front_is c.items.self c.next-token.new.self c.next-token.result Minus c.next-token.ensures.front c.in-Minus.is in
    rw (p.1, p.2) (record {
      value = fills_err _ c.items.items c.type_name.new.self c.type_name.new.self _ _ c.in_err-type_name-in-Minus.ensures.value
          (λ f e. sym c.items.invariant.0 ∙ minus_fault c.args.is_target _ c.next-token.result.1 c.items.self c.next-token.new.self c.items.items f front e);
      shorter = omega arith;
    })

pub items-preserved-in_ok-push-in-Minus : goal.items-preserved-in_ok-push-in-Minus
items-preserved-in_ok-push-in-Minus c =
    let front = front_is c.items.self c.next-token.new.self c.next-token.result Minus c.next-token.ensures.front c.in-Minus.is in
    let nonempty : not (length c.push-in-Minus.new.self == 0) ≡ true = nonempty_push _ _ _ c.in_ok-push-in-Minus.ensures in
    (rw nonempty (minus_more c.args.is_target _ c.next-token.result.1 c.items.self c.next-token.new.self c.type_name.new.self c.items.items c.push-in-Minus.new.self _ front c.in_ok-type_name-in-Minus.ensures.value c.in_ok-push-in-Minus.ensures ∙ c.items.invariant.0), omega arith)
