use Rattle.std.proofs.Common.{◌∙◌, ap, get_or, refl, subst, sym, take}
use Rattle.std.proofs.lemmas.Option.{get_or_from_slice_get}
use Rattle.gt_policy.specs.declared.lined.LinedStatement.{LinedStatement}
use Rattle.gt_policy_check.specs.Check.{repeat_line, useless_line}
use Rattle.gt_findings.specs.Findings.{AddsUseless}
use Rattle.gt_policy_check.proofs.EarlierLemmas.{allows_is, always}
use Rattle.gt_policy_check.proofs.AllowLemmas.{place_column}
use Rattle.gt_policy_check.proofs.judging.warn_next.Goals as goal

pub warn_at-requires-clause-judged : goal.warn_at-requires-clause-judged
warn_at-requires-clause-judged c = record {
  allows = allows_is c.args.policy.now.members.now (get_or c.args.policy.now.statements.now c.args.number c.index-policy-number.result).statement c.triple_of-triple.result c.is_some.result
      c.triple_of-triple.ensures c.is_some.ensures;
  repeats = c.repeated.ensures.is;
  within = c.repeated.ensures.within;
}

pub warn_at-requires-clause-position : goal.warn_at-requires-clause-position
warn_at-requires-clause-position c =
    let policy = c.args.policy.now in
    record {
      words = c.go_to.ensures.words;
      column = place_column policy.bytes.now c.go_to.new.self.bytes.now policy.columns.now policy.statements.now c.args.number c.go_to.new.self.number
          (get_or policy.columns.now c.args.number 0) c.index-policy-number.result c.requires.policy.columns c.requires.within c.index-policy-number.is
          (c.in_ok-go_to.ensures.number ∙ ap (λ (y : LinedStatement). y.line) (sym c.index-policy-number.is)) (c.go_to.ensures.text ∙ c.requires.text) refl;
    }

pub returns-clause-useless : goal.returns-clause-useless
returns-clause-useless c = λ x there. let members = c.args.policy.now.members.now in
    always _ c.add.result
    (subst (λ (y : LinedStatement). AddsUseless c.args.found.now.items c.warn_at.new.found.items (useless_line members y) (repeat_line members (take c.args.number c.args.policy.now.statements.now) y))
    (get_or_from_slice_get c.args.policy.now.statements.now c.args.number x c.index-policy-number.result there) c.in_ok-warn_at.ensures.useless)
