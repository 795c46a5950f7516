use Rattle.std.proofs.Common.{sym, ◌∙◌, ap, arith}
use Rattle.std.proofs.lemmas.Result.{err_from_is_err_and}
use Rattle.std.proofs.Common.{false, [], ◌∷◌, ◌++◌, subst}
use Rattle.gt_policy.specs.Grammar.{Fills}
use Rattle.gt_policy.proofs.GrammarLemmas.{fills_err, attributes-must, one_more, no_more, after_none}
use Rattle.gt_policy.proofs.parser.Parser.attributes.Goals as goal

pub returns-in_err-attribute_name : goal.returns-in_err-attribute_name
returns-in_err-attribute_name c =
    let ls = c.args.self.now in
    let p = err_from_is_err_and c.from_residual.result c.from_residual.ensures.1 in
    rw (p.1, p.2) (record {
      value = fills_err _ c.args.names.now c.attribute_name.new.self c.attribute_name.new.self _ _ c.in_err-attribute_name.ensures.value
          (λ f e. sym (after_none _) ∙ no_more false ls [] _ f (attributes-must false ls) e);
      shorter = omega arith;
    })

pub returns : goal.returns
returns c =
    let ls = c.args.self.now in
    let start = c.in_ok-push.ensures ∙ ap (λ xs. xs ++ c.in_ok-attribute_name.field-0 ∷ []) c.requires in
    let same = one_more false ls ls c.attribute_name.new.self [] c.push.new.self _ _ (attributes-must false ls) c.in_ok-attribute_name.ensures.value start ∙ after_none _ in
    record { value = subst (λ said. Fills c.attributes_behind.result c.attributes_behind.new.names c.attributes_behind.new.self said) same c.attributes_behind.ensures.value; shorter = omega arith }
