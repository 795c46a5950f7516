use Rattle.gt_findings.proofs.places.is_word_at.Given as goal

abbrev pub invariant-tokens : goal.invariant-tokens
invariant-tokens l = Unit {0}
