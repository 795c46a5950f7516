use Rattle.std.proofs.Common.{◌≡◌, drop}
use Rattle.std.specs.List.{list_any}
use Rattle.gt_neverallow.specs.Breaking.{breaks_by}
use Rattle.gt_neverallow.proofs.example.example_for.Given as goal

abbrev pub invariant-members : goal.invariant-members
invariant-members l = list_any (λ s. breaks_by l.perm l.members l.never l.allowed s) l.members ≡ list_any (λ s. breaks_by l.perm l.members l.never l.allowed s) (drop l.source-index l.members)
