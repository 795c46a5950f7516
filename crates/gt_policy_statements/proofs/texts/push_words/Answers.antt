use Rattle.std.proofs.Common.{◌++◌, ◌∙◌, ℕ, List, ap}
use Rattle.std.proofs.lemmas.List.{append_assoc}
use Rattle.gt_policy_statements.proofs.GrantLemmas.{appended-more}
use Rattle.gt_policy_statements.proofs.texts.push_words.Goals as goal

pub words-preserved : goal.words-preserved
words-preserved c = let word = c.word-item.result in let before = c.args.before.now in let out = c.words.out.items in
    c.in_ok-push_both.ensures ∙ append_assoc out before c.as_str.result.now ∙ ap (λ (l : List ℕ). out ++ (before ++ l)) c.as_str.ensures
    ∙ appended-more (λ w. before ++ w) c.args.words.now c.words.word-index word c.args.out.now.items out c.words-test.true c.word-item.is c.words.invariant
