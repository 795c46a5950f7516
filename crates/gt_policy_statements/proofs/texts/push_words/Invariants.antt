use Rattle.std.proofs.Common.{◌≡◌, ◌++◌, take}
use Rattle.gt_policy_statements.specs.Texts.{words_text}
use Rattle.gt_policy_statements.proofs.texts.push_words.Given as goal

abbrev pub invariant-words : goal.invariant-words
invariant-words l = l.out.items ≡ l.initial.out.items ++ words_text l.before (take l.word-index l.words)
