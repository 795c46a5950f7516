use Rattle.std.proofs.Common.{◌≡◌, ◌∙◌, ap, sym, subst, Bool, Option}
use Rattle.gt_types.specs.declared.perms.Perms.{Perms}
use Rattle.gt_policy_questions.specs.Pairs.{ArePairsOf}
use Rattle.gt_check_command.specs.Explaining.{says_yes}
use Rattle.gt_check_command.proofs.Advised.{answer-lines, answer-no}
use Rattle.gt_check_command.proofs.explaining.write_answer.Goals as goal
use Rattle.gt_check_command.proofs.explaining.write_answer.Goals.{then-request, else-request}

pub returns-in-Err : goal.returns-in-Err
returns-in-Err g c =
    answer-no c.args.request.now c.args.text.now c.args.explanation c.args.allowed c.in-Err.fault.line c.in-Err.fault.kind _ _ c.from.ensures c.in-Err.ensures.fault

pub returns-in-Ok-text_of_answer : goal.returns-in-Ok-text_of_answer
returns-in-Ok-text_of_answer g c =
    let q = c.args.request.now in let report = c.in-Ok.report in
    let is : c.if-request.yes ≡ says_yes q.each c.args.allowed report = elim c.if-request.branch [
      | then-request w ↦ w.yes-is ∙ ap (λ (b : Bool). says_yes b c.args.allowed report) (sym w.if-request.true)
      | else-request w ↦ w.yes-is ∙ ap (λ (b : Bool). says_yes b c.args.allowed report) (sym w.if-request.false)
    ] in
    answer-lines q c.args.text.now c.as_slice.result.now c.args.explanation c.args.allowed c.if-request.yes report _ _ c.write_lines.result
    (c.as_slice.ensures.value ∙ c.in-Ok-text_of_answer.ensures) is
    (subst (λ (p : Option Perms). ArePairsOf c.args.text.now (record { source = q.question.source; target = q.question.target; perm = p }) report) c.pairs_perm.ensures c.in-Ok.ensures.ok)
    c.write_lines.ensures
