use Rattle.std.proofs.Common.{sym, ◌∙◌, arith}
use Rattle.std.proofs.lemmas.Result.{err_from_is_err_and}
use Rattle.gt_policy_text.specs.declared.lexer.Token.TheVariants.{Comma}
use Rattle.gt_policy.proofs.GrammarLemmas.{fills_err, front_is, attributes-comma, one_more, no_more}
use Rattle.gt_policy.proofs.parser.Parser.attributes_behind.Goals as goal

pub returns-in_err-attribute_name-in-Comma : goal.returns-in_err-attribute_name-in-Comma
returns-in_err-attribute_name-in-Comma c =
    let t = c.args.in_type in
    let ls = c.next-token.new.self in
    let p = err_from_is_err_and c.from_residual.result c.from_residual.ensures.1 in
    let front = front_is c.names.self ls c.next-token.result Comma c.next-token.ensures.front c.in-Comma.is in
    rw (p.1, p.2) (record {
      value = fills_err _ c.names.names c.attribute_name.new.self c.attribute_name.new.self _ _ c.in_err-attribute_name-in-Comma.ensures.value
          (λ f e. sym c.names.invariant.0 ∙ no_more t ls c.names.names _ f (attributes-comma t _ ls _ front) e);
      shorter = omega arith;
    })

pub names-preserved : goal.names-preserved
names-preserved c =
    let t = c.args.in_type in
    let ls = c.next-token.new.self in
    let front = front_is c.names.self ls c.next-token.result Comma c.next-token.ensures.front c.in-Comma.is in (
      one_more t c.names.self ls c.attribute_name.new.self c.names.names c.push.new.self _ _ (attributes-comma t _ ls _ front) c.in_ok-attribute_name-in-Comma.ensures.value c.in_ok-push-in-Comma.ensures
          ∙ c.names.invariant.0,
      omega arith,
    )
