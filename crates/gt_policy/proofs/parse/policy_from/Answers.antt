use Rattle.std.proofs.Common.{◌∙◌, string_bytes}
use Rattle.std.proofs.lemmas.Result.{err_from_is_err_and}
use Rattle.gt_policy.proofs.WholeLemmas.{shows_unknown, shows_clean}
use Rattle.gt_policy.proofs.BoundLemmas.{grants_within}
use Rattle.gt_policy.specs.Lined.{statements_in}
use Rattle.gt_policy.proofs.parse.policy_from.Goals as goal

pub returns-in_err-draft : goal.returns-in_err-draft
returns-in_err-draft c =
    let p = err_from_is_err_and c.from_residual.result c.from_residual.ensures.1 in
    rw (p.1, p.2) (shows_unknown _ c.args.seen.now _ c.in_err-draft.ensures)

pub new-requires-clause-within : goal.new-requires-clause-within
new-requires-clause-within c =
    grants_within (λ s. string_bytes s) c.in_ok-names.field-0.items c.args.seen.now (statements_in c.args.statements.now) c.in_ok-draft.draft c.in_ok-rules.rules.items (c.in_ok-names.ensures ∙ c.types.ensures.value) c.in_ok-draft.ensures
    c.in_ok-rules.ensures

pub returns : goal.returns
returns c =
    shows_clean c.args.seen.now _ c.in_ok-draft.draft _ c.in_ok-rules.rules.items c.new.result c.in_ok-draft.ensures (c.in_ok-names.ensures ∙ c.types.ensures.value) c.new.ensures c.in_ok-rules.ensures
