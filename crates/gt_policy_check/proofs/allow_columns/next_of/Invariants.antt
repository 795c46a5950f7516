use Rattle.gt_policy_check.proofs.allow_columns.next_of.Given as goal

abbrev pub invariant-tokens : goal.invariant-tokens
invariant-tokens l = Unit {0}
