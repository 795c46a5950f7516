use Rattle.std.proofs.Common.{◌≡◌, drop, map}
use Rattle.gt_moment_scripts.specs.Naming.{entries_added}
use Rattle.gt_moment_scripts.proofs.naming.add_choices.Given as goal

abbrev pub invariant-choices : goal.invariant-choices
invariant-choices l =
    entries_added l.initial.entries.items (map (λ t. t.items) l.choices)
    ≡ entries_added l.entries.items (map (λ t. t.items) (drop l.terms-index l.choices))
