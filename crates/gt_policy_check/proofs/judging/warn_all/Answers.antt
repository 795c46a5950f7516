use Rattle.std.proofs.Common.{◌∙◌, List, ap}
use Rattle.std.specs.List.{flat_map}
use Rattle.std.proofs.lemmas.List.{take_all}
use Rattle.gt_policy.specs.declared.lined.LinedStatement.{LinedStatement}
use Rattle.gt_policy_check.specs.Check.{useless_line}
use Rattle.gt_policy_check.proofs.WarningLemmas.{one_more_judged}
use Rattle.gt_policy_check.proofs.judging.warn_all.Goals as goal

pub statements-preserved : goal.statements-preserved
statements-preserved c =
    let told = one_more_judged c.args.policy.now.members.now c.args.policy.now.statements.now c.statements.i c.statements.found.items c.warn_next.new.found.items c.statements-test.true
    c.in_ok-warn_next.ensures.useless c.statements.invariant.errors c.statements.invariant.nothing c.statements.invariant.repeated in
    record {
      knows = c.in_ok-warn_next.ensures.lists;
      words = c.in_ok-warn_next.ensures.words;
      text = c.in_ok-warn_next.ensures.text;
      errors = told.0;
      nothing = told.1;
      repeated = told.2;
      columns = c.in_ok-warn_next.ensures.columns.kept c.statements.invariant.columns;
    }

pub returns-clause-nothing : goal.returns-clause-nothing
returns-clause-nothing c =
    c.statements.invariant.nothing ∙ ap (λ (l : List LinedStatement). flat_map (λ x. useless_line c.args.policy.now.members.now x) l)
    (take_all c.statements.i c.args.policy.now.statements.now c.statements-test.false)
