use Rattle.std.proofs.Common.{◌≡◌, drop}
use Rattle.std.specs.List.{list_any}
use Rattle.std.specs.Str.{bytes_eq}
use Rattle.gt_policy_questions.proofs.asking.has_name.Given as goal

abbrev pub invariant-names : goal.invariant-names
invariant-names l =
    list_any (λ v. bytes_eq v l.wanted) l.names ≡ list_any (λ v. bytes_eq v l.wanted) (drop l.name-index l.names)
