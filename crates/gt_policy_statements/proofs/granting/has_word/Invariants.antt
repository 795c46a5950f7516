use Rattle.std.proofs.Common.{◌≡◌, drop}
use Rattle.std.specs.List.{list_any}
use Rattle.std.specs.Str.{bytes_eq}
use Rattle.gt_policy_statements.proofs.granting.has_word.Given as goal

abbrev pub invariant-words : goal.invariant-words
invariant-words l = list_any (λ v. bytes_eq v l.word) l.words ≡ list_any (λ v. bytes_eq v l.word) (drop l.listed-index l.words)
