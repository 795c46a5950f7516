use Rattle.std.proofs.Common.{◌≡◌, drop}
use Rattle.std.specs.List.{list_any}
use Rattle.gt_moment_scripts.specs.Naming.{is_same_entry}
use Rattle.gt_moment_scripts.proofs.naming.is_among.Given as goal

abbrev pub invariant-entries : goal.invariant-entries
invariant-entries l =
    list_any (λ e. is_same_entry e l.dom l.gref.0) l.entries
    ≡ list_any (λ e. is_same_entry e l.dom l.gref.0) (drop l.entry-index l.entries)
